pub mod JoinedWindow
pub mod PartLemmas
pub mod WalkLemmas
