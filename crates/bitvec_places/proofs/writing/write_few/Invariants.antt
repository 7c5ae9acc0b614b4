use Rattle.std.proofs.Common.{◌-◌, length}
use Rattle.bitvec_places.proofs.WrittenLemmas.{WrittenOnes}
use Rattle.bitvec_places.proofs.writing.write_few.Given as goal

abbrev pub invariant-loop-ones : goal.invariant-loop-ones
invariant-loop-ones l = WrittenOnes l.base l.fn.ones l.fn.indices l.indices l.count l.ones

abbrev pub decreases-loop-ones : goal.decreases-loop-ones
decreases-loop-ones l = length l.indices - l.count
