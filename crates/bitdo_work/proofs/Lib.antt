pub mod ArgumentLaws
pub mod ByteLaws
mod DigitLaws
pub mod ElementLaws
pub mod LineLaws
pub mod OptionLaws
pub mod ReadLaws
pub mod RequestLaws
pub mod RunLaws
pub mod SplitLaws
pub mod WordLaws
