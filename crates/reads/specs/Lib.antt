-- What the contracts of reads cite beside the definitions of paper.
pub mod Oldest
