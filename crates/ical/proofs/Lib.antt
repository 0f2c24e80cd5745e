pub mod Arrays
pub mod PropertyTests
pub mod ComponentParts
pub mod Levels
pub mod LineTexts
pub mod ParseAnswers
pub mod Stages
