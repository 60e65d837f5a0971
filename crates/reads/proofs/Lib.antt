-- Laws that the proofs of reads cite.
pub mod Reading
