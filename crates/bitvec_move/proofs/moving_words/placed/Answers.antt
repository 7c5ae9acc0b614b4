use Rattle.bitvec_base.specs.MemoryLaws.{length-element_bits}
use Rattle.bitvec_move.proofs.WordMoveLemmas.{placed-range}
use Rattle.bitvec_move.proofs.moving_words.placed.Goals as goal

pub returns : goal.returns
returns g c =
    let b = g.T.BitStore.BITS in
    let at = g.O.BitOrder.at in
    let moved = rw c.BITS.ensures at c.moved.ensures in
    rw moved (placed-range c.args.to (length-element_bits b at (g.T.BitStore.value c.args.element)) c.requires)
