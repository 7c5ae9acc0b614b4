use Rattle.bitvec_store.specs.WidthLaws.{width_some}
use Rattle.bitvec_owned.proofs.Held.{held_none}
use Rattle.bitvec_owned.proofs.bit_vec.BitVec.with_capacity_in.Goals as goal

pub returns-clause-made : goal.returns-clause-made
returns-clause-made g c =
    held_none g.T.BitStore.BITS g.O.BitOrder.at g.T.BitStore.value (width_some _ g.met.T.BitStore.width_law) _ _ c.in_ok-elements.ensures.items c.from_parts.ensures.shows
