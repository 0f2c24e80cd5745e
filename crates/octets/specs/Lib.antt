-- The meaning, which the promises rest on.
pub mod Basics
pub mod Pieces
pub mod Optional
pub mod Classes
pub mod Utf8
pub mod Decimal
pub mod Limits
pub mod Pen
pub mod Answers
-- What functions of the code promise.
pub mod Groups
pub mod Characters
pub mod Search
pub mod Slots
