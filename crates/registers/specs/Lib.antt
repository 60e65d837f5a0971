-- Definitions that the contracts of registers cite beside those of paper.
pub mod Mac
pub mod States
pub mod Tells
