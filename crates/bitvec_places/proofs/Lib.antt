pub mod BackLemmas
pub mod KeptLemmas
mod LowestLemmas
mod OnesLemmas
mod OrderOnesLemmas
pub mod TakingLemmas
pub mod WrittenLemmas
pub mod LoadsLaws
pub mod PlacesLaws
pub mod TurnsLaws
