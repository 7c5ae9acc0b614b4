pub mod LoadLaws
pub mod NumberLaws
pub mod PlainLaws
pub mod Segments
pub mod SegmentsLaws
pub mod StoreLaws
pub mod Windows
