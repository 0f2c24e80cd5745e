-- What functions of the code promise.
pub mod Parts
pub mod Valued
