-- The meaning, which the promises rest on.
pub mod Codes
pub mod Table
pub mod Rows
-- What functions of the code promise.
pub mod Coded
pub mod Laid
pub mod Reading
