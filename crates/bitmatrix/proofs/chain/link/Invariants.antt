use Rattle.bitvec.specs.Views.{seen_mut}
use Rattle.bitvec.specs.Writes.{WritesBits}
use Rattle.bitmatrix.proofs.ChainLaws.{LinkedBelow}
use Rattle.bitmatrix.proofs.chain.link.Given as goal

abbrev pub invariant-loop-j : goal.invariant-loop-j
invariant-loop-j g l = record {
  written : WritesBits l.initial.matrix l.matrix (seen_mut l.matrix).bits;
  linked : LinkedBelow l.n l.j (seen_mut l.matrix).bits;
}
