pub mod Sorts
pub mod Places
pub mod Arrays
pub mod TextRuns
pub mod ValueGroups
pub mod PropertyValues
