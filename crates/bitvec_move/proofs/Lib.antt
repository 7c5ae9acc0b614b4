pub mod CostSums
pub mod MoveLemmas
pub mod SwapLaws
pub mod TurnLaws
pub mod WaitingLaws
pub mod WithinLaws
pub mod WordMoveLemmas
