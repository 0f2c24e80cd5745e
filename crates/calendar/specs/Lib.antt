-- The meaning, which the promises rest on.
pub mod Gregorian
pub mod Forms
pub mod Dates
pub mod Durations
pub mod Recurrence
pub mod Moments
pub mod Sets
pub mod Rules
-- What functions of the code promise.
pub mod Texts
pub mod Letters
pub mod Answers
pub mod Walk
pub mod Reading
