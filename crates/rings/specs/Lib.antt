-- What the functions of this crate ask and leave, in the names of `paper`.
pub mod Rings
pub mod Parts
