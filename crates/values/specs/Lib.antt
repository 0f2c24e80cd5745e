-- The meaning, which the promises rest on.
pub mod Sorts
pub mod Texts
pub mod Simple
pub mod Base64
pub mod Recur
pub mod Read
pub mod Write
-- What functions of the code promise.
pub mod Coded
pub mod Shown
pub mod TextWalk
pub mod Decoding
