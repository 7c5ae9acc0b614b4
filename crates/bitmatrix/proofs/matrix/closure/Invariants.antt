use Rattle.bitvec.specs.Views.{seen_mut}
use Rattle.bitvec.specs.Writes.{WritesBits}
use Rattle.bitmatrix.proofs.PathLaws.{ClosesBelow}
use Rattle.bitmatrix.proofs.matrix.closure.Given as goal

abbrev pub invariant-loop-k : goal.invariant-loop-k
invariant-loop-k g l = record {
  written : WritesBits l.initial.matrix l.matrix (seen_mut l.matrix).bits;
  closes : ClosesBelow l.n l.k (seen_mut l.initial.matrix).bits (seen_mut l.matrix).bits;
}
