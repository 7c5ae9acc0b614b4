pub mod ElementsLaws
pub mod NumberedLaws
pub mod SplitCallsLaws
pub mod ToSplitLaws
