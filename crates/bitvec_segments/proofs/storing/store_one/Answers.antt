use Rattle.std.proofs.Common.{arith, refl}
use Rattle.bitvec_words.specs.TouchedLaws.{part_loads-most}
use Rattle.bitvec_segments.proofs.WalkLemmas.{first-part, stored-one, turn}
use Rattle.bitvec_segments.proofs.storing.store_one.Goals as goal

pub store_part_number-requires : goal.store_part_number-requires
store_part_number-requires g c =
    let first = first-part g.met.C.Elem.BitStore.width_law c.requires.some c.requires.window c.only_part_at-part.ensures in
    record { part = first.0; some = first.1 }

pub returns : goal.returns
returns g c =
    let part = c.only_part_at-part.ensures in
    let whole = turn c.args.window g.met.C.Elem.BitStore.width_law c.requires.some part refl in
    let edge = part_loads-most g.C.Elem.BitStore.BITS c.only_part_at-part.result in
    let cost = c.store_part_number.ensures.cost in
    record {
      writes = stored-one _ _ _ whole c.requires.window _ (omega arith) (rw part at c.store_part_number.ensures.writes);
      cost = record { borrow = cost.borrow; loads = omega arith; stores = omega arith };
    }
