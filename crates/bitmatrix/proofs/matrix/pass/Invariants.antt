use Rattle.bitvec.specs.Views.{seen_mut}
use Rattle.bitvec.specs.Writes.{WritesBits}
use Rattle.bitmatrix.proofs.PathLaws.{PassesBelow}
use Rattle.bitmatrix.proofs.matrix.pass.Given as goal

abbrev pub invariant-loop-i : goal.invariant-loop-i
invariant-loop-i g l = record {
  written : WritesBits l.initial.matrix l.matrix (seen_mut l.matrix).bits;
  passes : PassesBelow l.n l.k l.i (seen_mut l.initial.matrix).bits (seen_mut l.matrix).bits;
}
