pub mod FoundLaws
pub mod Lent
pub mod LentViews
pub mod SplitStates
pub mod SplitsLending
