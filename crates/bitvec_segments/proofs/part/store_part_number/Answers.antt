use Rattle.bitvec_base.specs.WritesLaws.{Writes-is}
use Rattle.bitvec_segments.proofs.PartLemmas.{number-part}
use Rattle.bitvec_segments.proofs.part.store_part_number.Goals as goal

pub returns-clause-writes : goal.returns-clause-writes
returns-clause-writes g c =
    Writes-is c.store_part.ensures.writes
    (rw (c.shl.ensures, c.from_u128-lowest.ensures, c.to_u128.ensures.number, c.ALL.ensures, g.met.C.Elem.BitStore.all_law, c.bits_below-below.ensures, c.BITS.ensures)
    (number-part g.O.WordOrder.HIGH _ (g.met.O.WordOrder.ends_law _) _ c.requires.some c.requires.part.bound))
