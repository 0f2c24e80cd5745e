-- The meaning, which the promises rest on.
pub mod Sound
-- What functions of the code promise.
pub mod Decode
pub mod Promise
pub mod Scan
