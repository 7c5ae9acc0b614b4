pub mod Direction
pub mod WordSteps
pub mod WordStepsLaws
