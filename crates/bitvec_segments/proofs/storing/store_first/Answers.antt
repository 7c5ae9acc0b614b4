use Rattle.std.proofs.Common.{arith}
use Rattle.bitvec_words.specs.WholeLaws.{HasWindow-part}
use Rattle.bitvec_base.specs.WritesLaws.{HasWindow-kept}
use Rattle.bitvec_segments.proofs.WalkLemmas.{first-part, next-place, stored-joined, turn}
use Rattle.bitvec_segments.proofs.storing.store_first.Goals as goal

pub store_part_number-requires : goal.store_part_number-requires
store_part_number-requires g c =
    let first = first-part g.met.C.Elem.BitStore.width_law c.requires.some c.requires.number.window c.full_part_at-part.ensures in
    record { part = first.0; some = first.1 }

pub returns : goal.returns
returns g c =
    let part = c.full_part_at-part.ensures in
    let first = turn c.args.window g.met.C.Elem.BitStore.width_law c.requires.some part c.len-len.ensures in
    let next = next-place first (omega arith) in
    let stored = rw (part, c.lower_bits.ensures.bits, c.after-rest.ensures) at c.store_part_number.ensures in
    rw (c.after-rest.ensures, c.lower_bits-2.ensures.bits, c.requires.element) (record {
      number = record { window = HasWindow-part _ (HasWindow-kept _ c.requires.number.window stored.writes.elements) (omega arith) (omega arith); bound = omega arith };
      some = omega arith;
      len = omega arith;
      element = next.0;
      edge = next.1;
      touched = first.touched;
      left = λ after rest. stored-joined _ _ _ first c.requires.number.window c.args.number stored.writes rest;
      cost = stored.cost;
    })
