-- The meaning, which the promises rest on.
pub mod Tree
pub mod Structure
pub mod Growth
pub mod Property
pub mod Jcal
pub mod ToJcal
pub mod Skeleton
pub mod Return
pub mod ToIcal
pub mod Written
pub mod Claim
