-- Definitions that the contracts of words cite beside those of paper.
pub mod Masks
pub mod Status
