pub mod BracketLaws
pub mod MarkLaws
pub mod PrintLaws
