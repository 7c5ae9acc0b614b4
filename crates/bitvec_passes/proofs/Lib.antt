pub mod CompareLemmas
pub mod MirroredLemmas
pub mod ReversalLemmas
pub mod WordLemmas
