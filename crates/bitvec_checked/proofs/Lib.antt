pub mod BlockLemmas
pub mod EveryLemmas
pub mod NumberLemmas
pub mod PairLemmas
