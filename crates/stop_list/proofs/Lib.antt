pub mod RunStops
pub mod Filling
pub mod Ends
pub mod PlanAnswers
