pub mod PropertyPlaces
pub mod Parameters
pub mod RowAnswers
