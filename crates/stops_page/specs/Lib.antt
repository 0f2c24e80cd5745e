-- The meaning, which the promises rest on.
pub mod Printing
-- What functions of the code promise.
pub mod Pages
