-- The meaning, which the promises rest on.
pub mod Words
