use Rattle.std.proofs.Common.{◌≡◌, slice_range}
use Rattle.bitvec_base.specs.Memory.{element_bits}
use Rattle.bitvec_words.specs.ShortWindow.{padded}
use Rattle.bitvec_words.proofs.fronts.gathered.Given as goal

abbrev pub invariant-loop-index : goal.invariant-loop-index
invariant-loop-index g l = element_bits 64 g.P.BitOrder.at l.word ≡ padded 64 (slice_range (element_bits g.T.BitStore.BITS g.O.BitOrder.at (g.T.BitStore.value l.element)) l.part.from l.index)
