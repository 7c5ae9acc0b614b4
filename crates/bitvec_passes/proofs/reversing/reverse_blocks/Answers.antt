use Rattle.std.proofs.Common.{◌≡◌, ◌+◌, ◌-◌, ◌*◌, ◌/◌, arith, rules, sym, ◌∙◌, true}
use Rattle.std.proofs.Math.Nat.{mul-le-mul_left}
use Rattle.bitvec_base.specs.WritesLaws.{Writes-is, Writes-start, length-list}
use Rattle.bitvec_cells.specs.Cost.{reverse_loads, reverse_stores, step_span}
use Rattle.bitvec_passes.proofs.ReversalLemmas.{Writes-mirrored, block-next, block-words, half-steps, mirrored-all, mirrored-none, room-words}
use Rattle.bitvec_passes.proofs.reversing.reverse_blocks.Goals as goal

pub loop-low-init : goal.loop-low-init
loop-low-init g c =
    let b = g.C.Elem.BitStore.BITS in
    let at = g.O.BitOrder.at in
    let has = c.requires.window in
    let long = length-list at has in
    record {
      bound = search rules;
      words = λ more. search rules;
      writes = Writes-start has (mirrored-none (sym long));
      cost = search rules;
    }

pub loop-low-preserved : goal.loop-low-preserved
loop-low-preserved g c =
    let b = g.C.Elem.BitStore.BITS in
    let at = g.O.BitOrder.at in
    let low = c.loop-low.low in let count = c.min-count.result in
    let words = c.loop-low.invariant.words c.loop-low-test.true in
    let before = c.loop-low.invariant.cost in let cost = c.exchange_ends.ensures.cost in
    let loads = block-next low count (step_span b true + 2) words in
    let stores = block-next low count (step_span b true) words in
    record {
      bound = omega arith;
      words = λ left. block-words low count (b * (g.row.HELD - 3)) words (room-words b g.row.HELD g.met.C.Elem.BitStore.width_law c.requires.held.words) (omega arith);
      writes = Writes-mirrored at _ _ low count c.requires.window (omega arith) c.loop-low.invariant.writes c.exchange_ends.ensures.writes;
      cost = record { borrow = cost.borrow ∙ before.borrow; loads = omega arith; stores = omega arith };
    }

pub returns-clause-writes : goal.returns-clause-writes
returns-clause-writes g c =
    let b = g.C.Elem.BitStore.BITS in
    let at = g.O.BitOrder.at in
    let has = c.requires.window in let bound = c.loop-low.invariant.bound in let end = c.loop-low-test.false in
    let long = length-list at has in
    Writes-is c.loop-low.invariant.writes (mirrored-all _ c.loop-low.low c.args.window.len (sym long) (omega arith) (omega arith))

pub returns-clause-cost : goal.returns-clause-cost
unfolding reverse_loads reverse_stores
returns-clause-cost g c =
    let b = g.C.Elem.BitStore.BITS in
    let bound = c.loop-low.invariant.bound in let end = c.loop-low-test.false in
    let all : c.loop-low.low ≡ c.args.window.len / 2 = omega arith in
    let cost = rw all at c.loop-low.invariant.cost in
    let few = half-steps c.args.window.len in
    let loads = mul-le-mul_left (step_span b true + 2) few in
    let stores = mul-le-mul_left (step_span b true) few in
    record { borrow = cost.borrow; loads = omega (arith, cost.loads); stores = omega (arith, cost.stores) }
