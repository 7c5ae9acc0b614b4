pub mod VectorLemmas
