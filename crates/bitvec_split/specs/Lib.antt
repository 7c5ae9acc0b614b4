pub mod SplitLaws
pub mod Splits
pub mod Views
