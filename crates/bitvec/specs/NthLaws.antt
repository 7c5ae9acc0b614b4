-- What `nth` and `nth_back` leave of a walk over bits. The laws stand on proofs of std, to which no clause may lead, so they are passed on
-- one by one.
pub use Rattle.bitvec_slice.specs.NthLaws.{nth_back_leaves, nth_leaves}
