pub mod LiteralLaws
pub mod NumberLaws
pub mod StepLaws
