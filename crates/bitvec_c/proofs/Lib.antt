pub mod OnesLemmas
