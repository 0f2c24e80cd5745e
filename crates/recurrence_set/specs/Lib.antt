-- The meaning, which the promises rest on.
pub mod Lists
pub mod Meets
-- What functions of the code promise.
pub mod Searches
