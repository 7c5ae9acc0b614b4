use Rattle.std.proofs.Common.{arith, rules}
use Rattle.bitvec_words.specs.WholeLaws.{HasWindow-part}
use Rattle.bitvec_base.specs.WritesLaws.{HasWindow-kept}
use Rattle.bitvec_cells.specs.WalkLaws.{Walked-next, edge_loads-next}
use Rattle.bitvec_segments.proofs.WalkLemmas.{Begins-next, Left-next, first-part, none-left, some-left, stored-nothing, turn}
use Rattle.bitvec_segments.proofs.storing.store_in.Goals as goal

pub loop-left-preserved : goal.loop-left-preserved
loop-left-preserved g c =
    let inv = c.loop-left.invariant in
    let some = some-left inv.has inv.count c.loop-left-test.true in
    let turn = turn c.loop-left.rest g.met.C.Elem.BitStore.width_law some c.part_at-part.ensures c.len-len.ensures in
    let edges = edge_loads-next c.len-len.result turn.some turn.more turn.step inv.walk in
    let stored = rw (c.part_at-part.ensures, c.lower_bits-below.ensures.bits) at c.store_part_number.ensures in
    rw c.after-rest.ensures (record {
      has = HasWindow-part _ (HasWindow-kept _ inv.has stored.writes.elements) (omega arith) (omega arith);
      walk = Walked-next turn.some turn.more turn.step inv.walk;
      count = omega arith;
      fewer = omega arith;
      place = Begins-next turn (inv.place c.loop-left-test.true).0 (omega arith);
      left = Left-next _ _ _ c.args.window _ turn inv.has (omega arith) inv.left stored.writes;
      cost = record { borrow = search rules; loads = omega arith; stores = omega arith };
    })

pub returns-clause-writes : goal.returns-clause-writes
returns-clause-writes g c =
    let inv = c.loop-left.invariant in
    inv.left _ (stored-nothing _ _ _ _ inv.has (none-left inv.has inv.count c.loop-left-test.false))

pub store_part_number-requires : goal.store_part_number-requires
store_part_number-requires g c =
    let inv = c.loop-left.invariant in
    let first = first-part g.met.C.Elem.BitStore.width_law (some-left inv.has inv.count c.loop-left-test.true) inv.has c.part_at-part.ensures in
    record { part = first.0; some = first.1 }

pub overflow_shr-number : goal.overflow_shr-number
overflow_shr-number g c =
    let inv = c.loop-left.invariant in
    let turn = turn c.loop-left.rest g.met.C.Elem.BitStore.width_law (some-left inv.has inv.count c.loop-left-test.true) c.part_at-part.ensures c.len-len.ensures in
    omega arith
