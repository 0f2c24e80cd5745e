pub mod Reading
pub mod TextRuns
pub mod Strings
pub mod Plain
pub mod Counts
