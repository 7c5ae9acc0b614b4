mod PushedLemmas
pub mod IndicesLaws
pub mod KeptLaws
