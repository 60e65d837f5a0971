-- What the contracts of receive cite beside the definitions of paper.
pub mod Judging
pub mod Marks
