-- What functions of the code promise.
pub mod Passed
pub mod Placed
pub mod Shown
