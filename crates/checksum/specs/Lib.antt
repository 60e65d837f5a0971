-- What the contracts of the inner functions cite: the register as a number, and the table. The public functions cite specs/Checksum of `paper`.
pub mod Register
pub mod Table
