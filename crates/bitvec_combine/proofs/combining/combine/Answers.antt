use Rattle.std.proofs.Common.{◌≡◌, ◌-◌, ◌++◌, ◌∙◌, arith, ap, refl, true, Bool, List, length, length-append, []}
use Rattle.bitvec_base.specs.Lists.{combined}
use Rattle.bitvec_base.specs.Memory.{list_in}
use Rattle.bitvec_base.specs.Window.{window_after, window_until}
use Rattle.bitvec_base.specs.WritesLaws.{Writes-is, length-list}
use Rattle.bitvec_store.specs.WidthLaws.{width_some}
use Rattle.bitvec_cells.specs.CostLaws.{touched_read, touched_stored}
use Rattle.bitvec_words.specs.CombinedLaws.{Writes-both, combined-enough, combined-short}
use Rattle.bitvec_words.specs.FieldLaws.{list-parted}
use Rattle.bitvec_words.specs.Operator.{operator}
use Rattle.bitvec_combine.specs.CombineLaws.{combines-beside, touched-met, touched-passed}
use Rattle.bitvec_words.proofs.CostLemmas.{costs-both, costs-most, reads-most}
use Rattle.bitvec_combine.proofs.combining.combine.Goals as goal

pub returns-then-met-eq0-clause-writes : goal.returns-then-met-eq0-clause-writes
returns-then-met-eq0-clause-writes g c =
    let b = g.C.Elem.BitStore.BITS in
    let at = g.O.BitOrder.at in
    let xs = g.C.CellsRead.numbers c.args.left.now in
    let ys = g.D.CellsRead.numbers c.args.right.now in
    let list = list_in b at xs c.args.to in
    let long = length-list at c.requires.window in
    let other_long = length-list at c.requires.right_window in
    let f = operator c.args.op in
    Writes-is c.combine_zeros.ensures.writes (combined-enough f list [] (list_in b at ys c.args.from) (λ k late inside. omega arith))

pub returns-clause-writes : goal.returns-clause-writes
returns-clause-writes g c =
    let b = g.C.Elem.BitStore.BITS in
    let at = g.O.BitOrder.at in
    let f = operator c.args.op in
    let to = c.args.to in
    let from = c.args.from in
    let met = c.min-met.result in
    let passed = c.reached-passed.result in
    let ys = g.D.CellsRead.numbers c.args.right.now in
    let x = list_in b at ys (window_until (from.len - met) from) in
    let y = list_in b at ys (window_after met from) in
    let right = c.requires.right_window in
    let begin = right.within.start in
    let x_long = length-list {b = b} at {xs = ys} {window = window_until (from.len - met) from} (record { fits = right.fits; within = record { start = begin; len = omega arith } }) in
    let y_long = length-list {b = b} at {xs = ys} {window = window_after met from} (record { fits = right.fits; within = record { start = omega arith; len = omega arith } }) in
    Writes-both at f (window_until (to.len - passed) to) (window_after passed to) x [] (list_in b at ys from) c.requires.window refl (omega arith) (omega arith)
    (λ (a d : List Bool) (a_long : length a ≡ to.len - (to.len - passed)) (d_long : length d ≡ to.len - passed).
    combined-short f a d x (omega arith) ∙ combined-enough f (a ++ d) x y (λ k late inside. omega (arith, length-append a d)) ∙ ap (combined f (a ++ d)) (list-parted at met right (omega arith)))
    (rw (c.until-first.ensures, c.until-other.ensures) at (combines-beside _ _ _ c.act.ensures.done.writes)) (rw c.after.ensures at c.combine_zeros-2.ensures.writes)

pub returns-then-met-eq0-clause-cost : goal.returns-then-met-eq0-clause-cost
returns-then-met-eq0-clause-cost g c =
    let some = width_some g.C.Elem.BitStore.BITS g.met.C.Elem.BitStore.width_law in
    costs-most c.combine_zeros.ensures.cost (omega (arith, touched_read _ true c.args.to.start c.args.to.len some)) (touched_stored _ true _ _ some)

pub returns-clause-cost : goal.returns-clause-cost
returns-clause-cost g c =
    let b = g.C.Elem.BitStore.BITS in
    let to = c.args.to in
    let some = width_some b g.met.C.Elem.BitStore.width_law in
    let reach = c.reached-passed.ensures in
    let all = touched-passed b to.start c.reached-passed.result to.len some reach.bound reach.edge in
    let first = rw c.until-first.ensures at c.act.ensures.done.cost in
    costs-both first (rw c.after.ensures at c.combine_zeros-2.ensures.cost) (omega (arith, touched_read b true to.start to.len some)) (omega (arith, touched_stored b true to.start to.len some))

pub returns-clause-right : goal.returns-clause-right
returns-clause-right g c =
    reads-most (rw c.until-other.ensures at c.act.ensures.right) (touched-met _ _ _ c.args.to.len true (width_some _ g.met.C.Elem.BitStore.width_law) (omega arith))
