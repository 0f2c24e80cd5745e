pub mod Tags
pub mod Values
pub mod Walks
pub mod Scans
pub mod Laid
pub mod Tables
