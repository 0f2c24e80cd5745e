-- What functions of the code promise.
pub mod Kinds
pub mod Wording
pub mod Laying
pub mod Room
pub mod Ruled
