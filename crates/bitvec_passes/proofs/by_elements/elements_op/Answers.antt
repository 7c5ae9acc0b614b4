use Rattle.std.proofs.Common.{◌≡◌, ℕ, ◌+◌, ◌-◌, ◌<◌, ◌≤◌, ◌++◌, [], min, ◌∙◌, ap, sym, arith, Bool, List, length, take}
use Rattle.std.proofs.Math.Seq.{take-append_seam}
use Rattle.bitvec_base.specs.Lists.{combined}
use Rattle.bitvec_base.specs.Memory.{list_in}
use Rattle.bitvec_base.specs.Window.{window_after, window_until}
use Rattle.bitvec_base.specs.WritesLaws.{length-list}
use Rattle.bitvec_store.specs.WidthLaws.{width_some}
use Rattle.bitvec_cells.specs.CostLaws.{read_enough, store_enough, touched_bits, write_enough}
use Rattle.bitvec_words.specs.CombinedLaws.{Writes-both, combined-first}
use Rattle.bitvec_words.specs.FieldLaws.{list-parted}
use Rattle.bitvec_words.specs.Operator.{operator}
use Rattle.bitvec_words.proofs.CostLemmas.{costs-within, reads-most, reads-within}
use Rattle.bitvec_passes.proofs.by_elements.elements_op.Goals as goal

pub returns-then-phase-clause-writes : goal.returns-then-phase-clause-writes
returns-then-phase-clause-writes g c =
    let b = g.C.Elem.BitStore.BITS in
    let at = g.O.BitOrder.at in
    let f = operator c.args.op in
    let to = c.args.to in
    let from = c.args.from in
    let met = c.min-met.result in
    let least : c.min-met.result ≡ min to.len from.len = omega arith in
    let fits : c.min-met.result ≤ from.len = omega arith in
    let ys = g.D.CellsRead.numbers c.args.right.now in
    let right = c.requires.right_window in
    let begin = right.within.start in
    let end = right.within.len in
    let x = list_in b at ys (window_until (from.len - met) from) in
    let y = list_in b at ys (window_after met from) in
    let all = list_in b at ys from in
    let x_long = length-list {b = b} at {xs = ys} {window = window_until (from.len - met) from} (record { fits = right.fits; within = record { start = begin; len = omega arith } }) in
    let all_long = length-list at right in
    let taken : take (length x) all ≡ x = ap (take (length x)) (sym (list-parted at met right fits)) ∙ take-append_seam x y in
    let first = rw (c.until-first.ensures, c.until-other.ensures) at c.combine_equal.ensures.writes in
    let rest = rw c.after.ensures at c.combine_zeros.ensures.writes in
    Writes-both at f (window_until (to.len - met) to) (window_after met to) x [] all c.requires.window (omega arith) (omega arith) (omega arith)
    (λ (a d : List Bool) (a_long : length a ≡ to.len - (to.len - met)) (d_long : length d ≡ to.len - met).
    ap (λ (l : List Bool). combined f a l ++ combined f d []) (sym taken)
    ∙ combined-first f a d all (length x) (omega arith) (λ (k : ℕ) (late : length a ≤ k) (inside : k < length a + length d). let past : length all ≤ k = omega arith in past))
    first rest

pub returns-then-phase-clause-cost : goal.returns-then-phase-clause-cost
returns-then-phase-clause-cost g c =
    let b = g.C.Elem.BitStore.BITS in
    let some = width_some b g.met.C.Elem.BitStore.width_law in
    let least : c.min-met.result ≡ min c.args.to.len c.args.from.len = omega arith in
    let long : c.args.to.len - (c.args.to.len - c.min-met.result) ≡ c.min-met.result = omega arith in
    let first = rw (c.until-first.ensures, long) at c.combine_equal.ensures.cost in
    let rest = rw c.after.ensures at c.combine_zeros.ensures.cost in
    let met = touched_bits b c.args.to.start c.min-met.result some in
    let behind = touched_bits b (c.args.to.start + c.min-met.result) (c.args.to.len - c.min-met.result) some in
    let reads = read_enough b c.args.to.len in
    let loads = write_enough b c.args.to.len in
    let stores = store_enough b c.args.to.len in
    record { borrow = rest.borrow ∙ first.borrow; loads = omega arith; stores = omega arith }

pub returns-then-phase-clause-right : goal.returns-then-phase-clause-right
returns-then-phase-clause-right g c =
    let b = g.C.Elem.BitStore.BITS in
    let some = width_some b g.met.C.Elem.BitStore.width_law in
    let long : c.args.from.len - (c.args.from.len - c.min-met.result) ≡ c.min-met.result = omega arith in
    let met = touched_bits b c.args.from.start c.min-met.result some in
    reads-most (rw (c.until-other.ensures, long) at c.combine_equal.ensures.right) (omega (arith, read_enough b c.args.to.len))

pub returns-else-met-gt0-clause-cost : goal.returns-else-met-gt0-clause-cost
returns-else-met-gt0-clause-cost g c = costs-within c.bits_op.ensures.cost (omega (arith, read_enough g.C.Elem.BitStore.BITS c.args.to.len, write_enough g.C.Elem.BitStore.BITS c.args.to.len)) (store_enough _ _)

pub returns-else-met-gt0-clause-right : goal.returns-else-met-gt0-clause-right
returns-else-met-gt0-clause-right g c = reads-within c.bits_op.ensures.right (omega (arith, read_enough g.C.Elem.BitStore.BITS c.args.to.len))

pub combine_equal-requires-clause-some : goal.combine_equal-requires-clause-some
combine_equal-requires-clause-some g c = rw c.until-first.ensures (omega arith)
