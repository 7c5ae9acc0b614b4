pub mod Cursors
pub mod Refilled
pub mod RowLemmas
pub mod Windows
