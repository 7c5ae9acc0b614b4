use Rattle.std.proofs.Common.{◌∙◌, sym}
use Rattle.bitvec_store.specs.WidthLaws.{width_some}
use Rattle.bitvec_cells.proofs.PartLemmas.{flipped-whole}
use Rattle.bitvec_cells.proofs.part.flipped.Goals as goal

pub returns-then-len-BITS : goal.returns-then-len-BITS
returns-then-len-BITS g c =
    let width = g.met.T.BitStore.width_law in
    c.not.ensures ∙ flipped-whole _ (width_some _ width) (g.met.O.BitOrder.permutes _ width) c.in_range.ensures c.requires.bound (sym c.len.ensures ∙ c.if-len-BITS.true ∙ c.BITS.ensures)
