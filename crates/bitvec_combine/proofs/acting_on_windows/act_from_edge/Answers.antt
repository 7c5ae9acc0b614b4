use Rattle.std.proofs.Common.{◌≡◌, ◌<◌, ◌≤◌, ◌∙◌, ℕ, ◌+◌, ◌-◌, ◌*◌, ◌/◌, ◌%◌, arith, refl, sym}
use Rattle.std.proofs.lemmas.Nat.{div-add-mod', mod-mul-add, mod_below}
use Rattle.std.proofs.Math.Nat.{add-mul-div_right}
use Rattle.bitvec_base.specs.Window.{window_after}
use Rattle.bitvec_store.specs.WidthLaws.{width_some}
use Rattle.bitvec_words.specs.Elements.{elements_window, elements_window_from}
use Rattle.bitvec_words.specs.WholeLaws.{HasWindow-part, behind-mod, whole_fits}
use Rattle.bitvec_combine.specs.Acts.{IsCut}
use Rattle.bitvec_words.specs.MovedPlaceLaws.{tail-inside, whole-window, whole-window_from}
use Rattle.bitvec_combine.proofs.MetActs.{beside-join, beside-stop, elements-all, touched-elements}
use Rattle.bitvec_combine.proofs.acting_on_windows.act_from_edge.Goals as goal
use Rattle.bitvec_combine.proofs.acting_on_windows.act_from_edge.Goals.{then-passed-from-via-then-passed-from, then-passed-from-via-else-passed-from+then-stops}

-- what is behind the whole elements of n bits lies in one
tail-bound : (b s n m : ℕ) → 0 < b → s % b ≡ 0 → (s + n) % b + (m - n) ≤ b → n ≤ m → m - n / b * b ≤ b
tail-bound b s n m some edge reach fits =
    let parts = div-add-mod' n b in let place = div-add-mod' s b in
    let end : s + n ≡ (s / b + n / b) * b + n % b = omega arith in
    let inside = rw (end, mod-mul-add (s / b + n / b) b (n % b) (mod_below n b some)) at reach in
    omega arith

pub act_in_spans-last-requires : goal.act_in_spans-last-requires
act_in_spans-last-requires g c =
    let b = g.C.Elem.BitStore.BITS in
    let width = g.met.C.Elem.BitStore.width_law in
    let met = c.requires.met in
    let fits = met.lengths in
    rw c.of-stretch.ensures (record {
      span = record { window = whole-window {w = b} c.args.from.len width refl met.window c.requires.edge fits; beside = whole-window_from {w = b} c.args.from.len width refl met.beside (omega arith); lengths = refl };
      bound = mod_below c.args.from.start b (width_some b width);
      phases = c.requires.phases;
      carried = c.requires.carried;
    })

pub returns-then-passed-from-clause-done : goal.returns-then-passed-from-clause-done
returns-then-passed-from-clause-done g c =
    let b = g.C.Elem.BitStore.BITS in
    let done = rw c.of-stretch.ensures at c.act_in_spans-last.ensures.done in
    let place = div-add-mod' c.args.to.start b in
    let source = div-add-mod' c.args.from.start b in
    let edge = c.requires.edge in
    elim c.then-passed-from.branch [
      | then-passed-from-via-then-passed-from w ↦ elements-all g.A.Act.Done (width_some _ g.met.C.Elem.BitStore.width_law) c.requires.met edge (sym c.whole_bits-passed.ensures.value ∙ w.if-passed-from.true) done
      | then-passed-from-via-else-passed-from+then-stops w ↦ beside-stop g.C.CellsRead.numbers g.A.Act.Done g.met.A.Act.stop_law _ c.requires.met (omega arith) (omega arith) refl
          (whole_fits b c.args.from.len (c.args.from.len / b) (omega arith)) (sym w.stops.ensures ∙ w.if-stops.true) done
    ]

pub returns-then-passed-from-clause-right : goal.returns-then-passed-from-clause-right
returns-then-passed-from-clause-right g c =
    let b = g.C.Elem.BitStore.BITS in
    let count : ℕ = c.args.from.len / b in
    let all = touched-elements b c.args.from.start c.args.from.len count g.P.Phases.equal (width_some _ g.met.C.Elem.BitStore.width_law) c.requires.phases (whole_fits b c.args.from.len count (omega arith)) in
    let some = rw c.of-stretch.ensures at c.act_in_spans-last.ensures.right in
    record { numbers = some.numbers; borrow = some.borrow; loads = omega arith; stores = some.stores }

pub act_on_part-requires-clause-from : goal.act_on_part-requires-clause-from
act_on_part-requires-clause-from g c =
    let b = g.C.Elem.BitStore.BITS in
    let some = width_some b g.met.C.Elem.BitStore.width_law in
    let from = c.args.from in
    let count : ℕ = from.len / b in
    let passed : ℕ = count * b in
    let fits = whole_fits b from.len count (omega arith) in
    let parts = div-add-mod' from.len b in
    let below = mod_below from.len b some in
    let place : (from.start + passed) / b ≡ from.start / b + count = add-mul-div_right from.start count some in
    let last = rw (c.of-stretch.ensures, ← place) at c.act_in_spans-last.ensures.carried (sym c.stops.ensures ∙ c.if-stops.false) in
    rw (c.after.ensures, c.whole_bits-passed.ensures.value, c.act_in_spans-last.ensures.right.numbers) (record {
      inside = HasWindow-part (window_after passed from) c.requires.met.beside (omega arith) (omega arith);
      some = omega arith;
      bound = omega arith;
      phases = rw (behind-mod b from.start count some) c.requires.phases;
      carried = last;
    })

pub returns-clause-done : goal.returns-clause-done
returns-clause-done g c =
    let b = g.C.Elem.BitStore.BITS in
    let to = c.args.to in let from = c.args.from in
    let count : ℕ = from.len / b in
    let passed : ℕ = count * b in
    let met = c.requires.met in
    let fits = whole_fits b from.len count (omega arith) in
    let place = div-add-mod' to.start b in
    let source = div-add-mod' from.start b in
    let edge = c.requires.edge in
    let cut : IsCut b to (elements_window b (to.start / b) count) (window_after passed to) =
    record { start = omega arith; next = omega arith; len = omega arith; edge = behind-mod b to.start count (width_some b g.met.C.Elem.BitStore.width_law) ∙ edge } in
    let long : to.len - passed - 0 ≡ to.len - passed = omega arith in
    let first : (to.start / b + count) * b + 0 ≡ to.start + passed = omega arith in
    rw (← beside-join b g.O.BitOrder.at (g.D.CellsRead.numbers c.args.right.now) (elements_window_from b (from.start / b) (from.start % b) count) (window_after passed from) from
    to.len (to.len - passed) met.beside (omega arith) (omega arith) (omega arith) (omega arith))
    (g.met.A.Act.join_law _ _ _ _ _ _ _ _ _ _ _ _ met.window cut (rw c.of-stretch.ensures at c.act_in_spans-last.ensures.done)
    (rw (c.after.ensures, c.of-stretch.ensures, c.whole_bits-passed.ensures.value, c.act_in_spans-last.ensures.right.numbers, long, first) at c.act_on_part.ensures.done))

pub returns-clause-right : goal.returns-clause-right
returns-clause-right g c =
    let b = g.C.Elem.BitStore.BITS in
    let count : ℕ = c.args.from.len / b in
    let all = touched-elements b c.args.from.start c.args.from.len count g.P.Phases.equal (width_some _ g.met.C.Elem.BitStore.width_law) c.requires.phases (whole_fits b c.args.from.len count (omega arith)) in
    let some = rw c.of-stretch.ensures at c.act_in_spans-last.ensures.right in
    let rest = rw (c.after.ensures, c.whole_bits-passed.ensures.value) at c.act_on_part.ensures.right in
    record { numbers = rest.numbers ∙ some.numbers; borrow = rest.borrow ∙ some.borrow; loads = omega arith; stores = rest.stores ∙ some.stores }

pub act_on_part-requires-clause-part : goal.act_on_part-requires-clause-part
act_on_part-requires-clause-part g c =
    let b = g.C.Elem.BitStore.BITS in
    let left : 0 < c.args.from.len % b = let parts = div-add-mod' c.args.from.len b in omega arith in
    let inside = tail-inside {w = b} _ g.met.C.Elem.BitStore.width_law refl c.requires.met.window c.requires.met.lengths left in
    let bound = tail-bound _ _ _ _ (width_some _ g.met.C.Elem.BitStore.width_law) c.requires.edge c.requires.met.reach c.requires.met.lengths in
    rw (c.of-stretch.ensures, c.whole_bits-passed.ensures.value) (record { element = rw (g.met.A.Act.kept_law _ _ _ _ _ _ _ c.act_in_spans-last.ensures.done) inside; order = omega arith; bound = bound })
