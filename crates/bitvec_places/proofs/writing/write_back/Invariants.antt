use Rattle.bitvec_places.proofs.BackLemmas.{WrittenBack}
use Rattle.bitvec_places.proofs.writing.write_back.Given as goal

abbrev pub invariant-loop-ones : goal.invariant-loop-ones
invariant-loop-ones l = WrittenBack l.base l.fn.ones l.fn.indices l.indices l.left l.ones

abbrev pub decreases-loop-ones : goal.decreases-loop-ones
decreases-loop-ones l = l.left
