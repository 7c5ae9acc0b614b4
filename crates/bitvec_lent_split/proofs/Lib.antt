pub mod LentLaws
pub mod SplitStateLaws
