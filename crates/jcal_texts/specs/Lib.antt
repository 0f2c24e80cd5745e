-- What functions of the code promise.
pub mod Trying
