-- The meaning, which the promises rest on.
pub mod Tree
pub mod Reads
pub mod Numbers
pub mod Strings
pub mod Reader
pub mod Print
-- What functions of the code promise.
pub mod Tape
pub mod Parse
pub mod Promise
