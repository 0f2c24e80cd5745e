-- What functions of the code promise.
pub mod Writes
pub mod Converts
pub mod Stages
