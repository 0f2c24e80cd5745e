-- What functions of the code promise.
pub mod PartPlaces
pub mod Ruled
pub mod ParamValues
