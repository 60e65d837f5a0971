-- Laws that the proofs of words cite: masks, and fields of a word put together.
pub mod Masks
pub mod Sums
