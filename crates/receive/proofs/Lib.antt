-- Laws that the proofs of receive cite.
pub mod Lines
pub mod TypePart
