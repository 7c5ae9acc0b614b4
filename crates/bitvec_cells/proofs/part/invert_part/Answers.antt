use Rattle.bitvec_cells.proofs.PartLemmas.{part-flipped}
use Rattle.bitvec_cells.proofs.part.invert_part.Goals as goal

pub returns-clause-writes : goal.returns-clause-writes
returns-clause-writes g c =
    let width = g.met.C.Elem.BitStore.width_law in
    rw (c.store.ensures.numbers, c.flipped.ensures, c.load-element.ensures.value, c.load-element.ensures.numbers)
    (part-flipped width (g.met.O.BitOrder.permutes _ width) _ _ c.requires)
