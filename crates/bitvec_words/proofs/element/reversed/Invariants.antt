use Rattle.bitvec_words.specs.Exchanged.{ReversesBlocks}
use Rattle.bitvec_words.proofs.element.reversed.Given as goal

-- the blocks of `size` bits are in the reverse order
abbrev pub invariant-loop-size : goal.invariant-loop-size
invariant-loop-size g l = ReversesBlocks g.T.BitStore.BITS l.size (g.T.BitStore.value l.lower) (g.T.BitStore.value l.mirrored) (g.T.BitStore.value l.fn.element)

abbrev pub decreases-loop-size : goal.decreases-loop-size
decreases-loop-size g l = l.size
