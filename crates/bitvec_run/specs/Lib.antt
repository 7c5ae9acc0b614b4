pub mod FieldRows
pub mod Fits
pub mod Fold
pub mod FoldLaws
pub mod RanLaws
pub mod Runs
pub mod RunsLaws
pub mod WordRunsLaws
