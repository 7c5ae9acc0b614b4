pub mod Candidates
pub mod Combined
pub mod CombinedLaws
pub mod Ranges
pub mod Swaps
pub mod SwapsLaws
