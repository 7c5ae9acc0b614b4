use Rattle.bitvec_store.specs.WidthLaws.{width_some}
use Rattle.bitvec_owned.proofs.Held.{held_none}
use Rattle.bitvec_owned.proofs.bit_vec.BitVec.new_in.Goals as goal

pub returns-clause-held : goal.returns-clause-held
returns-clause-held g c =
    held_none g.T.BitStore.BITS g.O.BitOrder.at g.T.BitStore.value (width_some _ g.met.T.BitStore.width_law) _ _ c.new.ensures.items c.from_parts.ensures.shows
