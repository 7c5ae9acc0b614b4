use Rattle.bitvec.specs.Views.{seen_mut}
use Rattle.bitvec.specs.Writes.{WritesBits}
use Rattle.bitvec_view_examples.proofs.edits_composed.set_all.Given as goal

abbrev pub invariant-loop-index : goal.invariant-loop-index
invariant-loop-index g l = WritesBits l.initial.view l.view (seen_mut l.view).bits
