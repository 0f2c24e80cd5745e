-- The meaning, which the promises rest on.
pub mod Lines
pub mod Carets
pub mod Line
pub mod Form
pub mod Parameters
pub mod Write
pub mod Fold
pub mod Physical
-- What functions of the code promise.
pub mod LinePlaces
pub mod Folding
pub mod Scan
pub mod Parts
pub mod Buffer
pub mod Kinds
pub mod Object
pub mod Reading
