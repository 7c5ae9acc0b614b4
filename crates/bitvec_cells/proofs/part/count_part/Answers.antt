use Rattle.bitvec_cells.proofs.PartLemmas.{part-ones}
use Rattle.bitvec_cells.proofs.part.count_part.Goals as goal

pub returns-clause-value : goal.returns-clause-value
returns-clause-value g c =
    rw (c.count_ones.ensures, c.masked.ensures, c.load-element.ensures.value)
    (part-ones _ (g.met.O.BitOrder.permutes _ g.met.C.Elem.BitStore.width_law) c.requires)
