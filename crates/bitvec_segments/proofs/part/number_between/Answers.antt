use Rattle.bitvec_segments.proofs.PartLemmas.{part-number}
use Rattle.bitvec_segments.proofs.part.number_between.Goals as goal

pub returns : goal.returns
returns g c =
    rw (c.to_u128.ensures.number, c.and.ensures, c.shr.ensures, c.shr-mask.ensures, c.ALL.ensures, g.met.T.BitStore.all_law, c.BITS-2.ensures, c.bits_below-below.ensures, c.BITS.ensures)
    (part-number g.O.WordOrder.HIGH _ (g.met.O.WordOrder.ends_law _) _ c.requires.some c.requires.bound)
