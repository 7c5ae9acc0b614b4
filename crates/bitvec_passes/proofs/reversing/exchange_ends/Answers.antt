use Rattle.std.proofs.Common.{◌≡◌, ℕ, ◌+◌, ◌-◌, ◌*◌, ◌<◌, arith, ◌∙◌, true}
use Rattle.bitvec_store.specs.WidthLaws.{width_some}
use Rattle.bitvec_cells.specs.Cost.{step_span, work_steps}
use Rattle.bitvec_cells.specs.CostLaws.{touched_enough}
use Rattle.bitvec_passes.proofs.ReversalLemmas.{Writes-ends, work-some}
use Rattle.bitvec_passes.proofs.reversing.exchange_ends.Goals as goal

pub returns-clause-writes : goal.returns-clause-writes
returns-clause-writes g c =
    let b = g.C.Elem.BitStore.BITS in
    let at = g.O.BitOrder.at in
    let ends = c.requires.ends in
    let apart = ends.apart in
    let front = rw (c.range-front.ensures) at c.load_mirrored-mirrored.ensures.mirrors.list in
    let back = rw (c.range-back.ensures, c.load_mirrored-mirrored.ensures.reads.numbers) at c.load_mirrored-mirrored-2.ensures.mirrors.list in
    let before = rw (c.range-front.ensures, c.load_mirrored-mirrored-2.ensures.reads.numbers, c.load_mirrored-mirrored.ensures.reads.numbers, c.new.ensures.numbers) at c.copy_equal.ensures.writes in
    let after = rw (c.range-back.ensures, c.new-2.ensures.numbers) at c.copy_equal-2.ensures.writes in
    Writes-ends at c.args.low (c.args.window.len - c.args.low) c.args.count c.requires.window (omega arith) (omega arith)
    before (c.in_phase-from_last.ensures.list ∙ back) after (c.in_phase-from_first.ensures.list ∙ front)

pub returns-clause-cost : goal.returns-clause-cost
returns-clause-cost g c =
    let b = g.C.Elem.BitStore.BITS in
    let count = c.args.count in
    let some = width_some _ g.met.C.Elem.BitStore.width_law in
    let window = c.args.window in
    let low = c.args.low in
    let ends = c.requires.ends in
    let apart = ends.apart in
    let steps : ℕ = work_steps true count in
    let span : ℕ = step_span b true in
    let front_len : low + count - low ≡ count = omega arith in
    let back_len : window.len - low - (window.len - low - count) ≡ count = omega arith in
    let front = touched_enough b true (window.start + low) count some in
    let back = touched_enough b true (window.start + (window.len - low - count)) count some in
    let reads = rw (c.range-front.ensures, front_len) at c.load_mirrored-mirrored.ensures.reads in
    let more = rw (c.range-back.ensures, back_len) at c.load_mirrored-mirrored-2.ensures.reads in
    let stored = rw (c.range-front.ensures, front_len) at c.copy_equal.ensures.cost in
    let last = rw (c.range-back.ensures, back_len) at c.copy_equal-2.ensures.cost in
    let product : 2 * steps * (span + 2) ≡ steps * span + steps * span + steps * 2 + steps * 2 = omega arith in
    let both : 2 * steps * span ≡ steps * span + steps * span = omega arith in
    let some_steps : 0 < steps = work-some count ends.some in
    record {
      borrow = last.borrow ∙ stored.borrow ∙ more.borrow ∙ reads.borrow;
      loads = rw product (omega (arith, reads.loads, more.loads, stored.loads, last.loads));
      stores = rw both (omega (arith, reads.stores, more.stores, stored.stores, last.stores));
    }
