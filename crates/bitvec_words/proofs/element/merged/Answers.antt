use Rattle.bitvec_base.specs.PartLaws.{element-combine}
use Rattle.bitvec_words.proofs.element.merged.Goals as goal

pub returns : goal.returns
returns g c =
    rw (c.or.ensures, c.and.ensures, c.and-2.ensures, c.not.ensures, c.mask-mask.ensures)
    (element-combine _ _ (g.met.O.BitOrder.permutes _ g.met.T.BitStore.width_law) _ _ _ _ c.requires.order c.requires.bound)
