-- What functions of the code promise.
pub mod Events
pub mod NameProps
pub mod Nesting
pub mod Order
pub mod Components
pub mod Placing
pub mod Stages
