use Rattle.std.proofs.Common.{◌∙◌, sym}
use Rattle.bitvec_cells.proofs.PartLemmas.{part-filled, part-whole}
use Rattle.bitvec_cells.proofs.part.fill_part.Goals as goal

pub returns-then-len-BITS-clause-writes : goal.returns-then-len-BITS-clause-writes
returns-then-len-BITS-clause-writes g c =
    let width = g.met.C.Elem.BitStore.width_law in
    rw (c.store.ensures.numbers, c.filled.ensures)
    (part-whole width (g.met.O.BitOrder.permutes _ width) _ _ _ c.requires (sym c.len.ensures ∙ c.if-len-BITS.true ∙ c.BITS.ensures))

pub returns-clause-writes : goal.returns-clause-writes
returns-clause-writes g c =
    let width = g.met.C.Elem.BitStore.width_law in
    rw (c.store-2.ensures.numbers, c.put.ensures, c.load-element.ensures.value, c.mask-mask.ensures, c.load-element.ensures.numbers)
    (part-filled width (g.met.O.BitOrder.permutes _ width) _ _ _ c.requires)
