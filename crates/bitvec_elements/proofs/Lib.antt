mod DifferenceLemmas
mod ElementLemmas
mod FromLemmas
mod RecutLemmas
pub mod Directions
pub mod StoreLemmas
