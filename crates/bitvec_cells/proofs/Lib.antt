pub mod BitLemmas
pub mod FindLemmas
pub mod PartLemmas
