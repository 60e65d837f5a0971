-- Laws that the proofs of filter cite.
pub mod Address
