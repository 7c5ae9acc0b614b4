pub mod DirectionLemmas
pub mod NeedleLemmas
pub mod RotationLemmas
