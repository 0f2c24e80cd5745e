pub mod Lists
pub mod Names
pub mod Parts
pub mod Depths
