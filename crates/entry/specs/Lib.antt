-- Definitions that the contracts of entry, and of the calls behind it, cite beside those of paper.
pub mod Entry
pub mod Parts
