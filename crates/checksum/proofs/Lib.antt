-- The laws behind the functions' proofs: sums of bits, steps of the register, its two forms, bytes, the table.
pub mod Xor
pub mod Steps
pub mod Numbers
pub mod Register
pub mod Bytes
pub mod Entries
