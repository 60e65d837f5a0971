-- What the test of entry says to the calls behind it: of the call, and of each FIFO.
pub mod Shut
pub mod Parts
