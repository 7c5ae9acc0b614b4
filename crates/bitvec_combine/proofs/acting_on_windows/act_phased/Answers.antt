use Rattle.std.proofs.Common.{◌≡◌, ℕ, ◌-◌, ◌%◌, arith, refl, sym, ◌∙◌, ap}
use Rattle.std.proofs.lemmas.Nat.{mod_below}
use Rattle.bitvec_base.specs.declared.part.Part.{Part}
use Rattle.bitvec_base.specs.declared.window.Window.{Window}
use Rattle.bitvec_base.specs.Window.{window_after}
use Rattle.bitvec_store.specs.WidthLaws.{width_some}
use Rattle.bitvec_cells.specs.WalkLaws.{touched-less}
use Rattle.bitvec_words.specs.FieldLaws.{first_part-long}
use Rattle.bitvec_words.specs.TouchedLaws.{head_edge, touched-first}
use Rattle.bitvec_words.specs.WholeLaws.{HasWindow-part, window-same}
use Rattle.bitvec_combine.specs.ActLaws.{met-rest}
use Rattle.bitvec_combine.specs.Acts.{IsCut}
use Rattle.bitvec_words.specs.MovedPlaceLaws.{head-element, head-part}
use Rattle.bitvec_combine.proofs.MetActs.{beside-join, beside-stop, head-done, head-window, rest-carried, rest-phases, touched-head}
use Rattle.bitvec_combine.proofs.acting_on_windows.act_phased.Goals as goal
use Rattle.bitvec_combine.proofs.acting_on_windows.act_phased.Goals.{then-passed-to-via-then-passed-to, then-passed-to-via-else-passed-to+then-stops, then-to-BITS+else-passed-to+else-stops, else-to-BITS+else-phase-gt0}

-- what is behind no bits of a window is the window
after-none : (window : Window) → window_after 0 window ≡ window
after-none window = window-same (window_after 0 window) window (omega arith) (omega arith)

pub first-carry-requires : goal.first-carry-requires
first-carry-requires g c = rw c.element.ensures (head-element g.met.C.Elem.BitStore.width_law refl c.requires.met.some c.requires.met.beside)

pub act_on_part-carry-requires-clause-part : goal.act_on_part-carry-requires-clause-part
act_on_part-carry-requires-clause-part g c =
    head-part _ _ _ c.args.to _ g.met.C.Elem.BitStore.width_law refl c.first_part-head.ensures (omega arith) c.requires.met.window

pub after-rest-requires-clause-bound : goal.after-rest-requires-clause-bound
after-rest-requires-clause-bound g c =
    elim c.if-to-BITS.branch [
      | then-to-BITS+else-passed-to+else-stops w ↦
          let step = first_part-long c.args.to w.len-passed.ensures w.first_part-head.ensures refl in
          let more = (met-rest (width_some _ g.met.C.Elem.BitStore.width_law) c.requires.met refl step w.if-passed-to.false).some in
          rw w.passed-is (omega arith)
      | else-to-BITS+else-phase-gt0 w ↦ rw w.passed-is (omega arith)
    ]

pub act_from_edge-requires-clause-edge : goal.act_from_edge-requires-clause-edge
act_from_edge-requires-clause-edge g c =
    elim c.if-to-BITS.branch [
      | then-to-BITS+else-passed-to+else-stops w ↦
          let step = first_part-long c.args.to w.len-passed.ensures w.first_part-head.ensures refl in
          rw (c.after.ensures, w.passed-is) (head_edge _ _ _ _ (width_some _ g.met.C.Elem.BitStore.width_law) step w.if-passed-to.false)
      | else-to-BITS+else-phase-gt0 w ↦
          let same : c.after.result ≡ c.args.to = c.after.ensures ∙ ap (λ (t : ℕ). window_after t c.args.to) w.passed-is ∙ after-none c.args.to in
          rw same (omega arith)
    ]

pub act_on_part-carry-requires-clause-from : goal.act_on_part-carry-requires-clause-from
act_on_part-carry-requires-clause-from g c =
    let b = g.C.Elem.BitStore.BITS in
    let to = c.args.to in let from = c.args.from in let t = c.len-passed.result in
    let some = width_some b g.met.C.Elem.BitStore.width_law in
    let met = c.requires.met in
    let below = mod_below to.start b some in
    let index : c.first_part-head.result.from ≡ to.start % b = ap (λ (p : Part). p.from) c.first_part-head.ensures in
    let step = first_part-long to c.len-passed.ensures c.first_part-head.ensures refl in
    rw (c.until-met.ensures, index, c.first-carry.ensures.reads.numbers) (record {
      inside = HasWindow-part _ met.beside (omega arith) (omega arith);
      some = omega arith;
      bound = omega arith;
      phases = c.requires.phases;
      carried = rw c.element.ensures at c.first-carry.ensures.carried;
    })

pub returns-then-passed-to-clause-done : goal.returns-then-passed-to-clause-done
returns-then-passed-to-clause-done g c =
    let b = g.C.Elem.BitStore.BITS in
    let to = c.args.to in let from = c.args.from in let t = c.len-passed.result in
    let some = width_some b g.met.C.Elem.BitStore.width_law in
    let met = c.requires.met in
    let step = first_part-long to c.len-passed.ensures c.first_part-head.ensures refl in
    let done = rw c.first-carry.ensures.reads.numbers at c.act_on_part-carry.ensures.done in
    elim c.then-passed-to.branch [
      | then-passed-to-via-then-passed-to w ↦
          let all = w.if-passed-to.true in
          let whole = c.until-met.ensures ∙ window-same _ from refl (omega arith) in
          rw (head-window b to c.len-passed.ensures c.first_part-head.ensures, ← c.len-passed.ensures, whole, all) at done
      | then-passed-to-via-else-passed-to+then-stops w ↦
          let more = (met-rest some met refl step w.if-passed-to.false).some in
          beside-stop g.C.CellsRead.numbers g.A.Act.Done g.met.A.Act.stop_law (record { start = from.start; len = t }) met refl refl refl (omega arith) (sym w.stops.ensures ∙ w.if-stops.true)
          (head-done g.A.Act.Done to c.len-passed.ensures c.first_part-head.ensures met.beside (omega arith) (c.until-met.ensures ∙ window-same _ _ refl (omega arith)) done)
    ]

pub act_from_edge-requires-clause-met : goal.act_from_edge-requires-clause-met
act_from_edge-requires-clause-met g c =
    let b = g.C.Elem.BitStore.BITS in
    let to = c.args.to in let from = c.args.from in
    elim c.if-to-BITS.branch [
      | then-to-BITS+else-passed-to+else-stops w ↦
          let step = first_part-long to w.len-passed.ensures w.first_part-head.ensures refl in
          rw (c.after.ensures, c.after-rest.ensures, w.passed-is, w.left-is, w.right-is, w.act_on_part-carry.ensures.right.numbers, c.first-carry.ensures.reads.numbers)
          (met-rest (width_some _ g.met.C.Elem.BitStore.width_law) c.requires.met (g.met.A.Act.kept_law _ _ _ _ _ _ _ w.act_on_part-carry.ensures.done) step w.if-passed-to.false)
      | else-to-BITS+else-phase-gt0 w ↦ rw (c.after.ensures, c.after-rest.ensures, w.passed-is, w.left-is, w.right-is, after-none to, after-none from, c.first-carry.ensures.reads.numbers) c.requires.met
    ]

pub act_from_edge-requires-clause-phases : goal.act_from_edge-requires-clause-phases
act_from_edge-requires-clause-phases g c =
    let b = g.C.Elem.BitStore.BITS in
    let to = c.args.to in let from = c.args.from in
    elim c.if-to-BITS.branch [
      | then-to-BITS+else-passed-to+else-stops w ↦
          let step = first_part-long to w.len-passed.ensures w.first_part-head.ensures refl in
          rw (c.after-rest.ensures, w.passed-is) (rest-phases b to.start from.start w.len-passed.result to.len _ (width_some _ g.met.C.Elem.BitStore.width_law) step w.if-passed-to.false c.requires.phases)
      | else-to-BITS+else-phase-gt0 w ↦
          let edge : to.start % b ≡ 0 = omega arith in
          let same : c.after-rest.result ≡ from = c.after-rest.ensures ∙ ap (λ (t : ℕ). window_after t from) w.passed-is ∙ after-none from in
          rw same (rw edge at c.requires.phases)
    ]

pub act_from_edge-requires-clause-carried : goal.act_from_edge-requires-clause-carried
act_from_edge-requires-clause-carried g c =
    let b = g.C.Elem.BitStore.BITS in
    let to = c.args.to in let from = c.args.from in
    elim c.if-to-BITS.branch [
      | then-to-BITS+else-passed-to+else-stops w ↦
          let t = w.len-passed.result in
          let some = width_some b g.met.C.Elem.BitStore.width_law in
          let step = first_part-long to w.len-passed.ensures w.first_part-head.ensures refl in
          let more = (met-rest some c.requires.met refl step w.if-passed-to.false).some in
          let len : from.len - (from.len - w.min.result) ≡ t = omega arith in
          rw (c.after-rest.ensures, w.passed-is, w.carry-is, w.right-is, w.act_on_part-carry.ensures.right.numbers, c.first-carry.ensures.reads.numbers)
          (rest-carried b _ from.start t some (rest-phases b to.start from.start t to.len _ some step w.if-passed-to.false c.requires.phases)
          (rw (w.until-met.ensures, len, c.first-carry.ensures.reads.numbers) at w.act_on_part-carry.ensures.carried))
      | else-to-BITS+else-phase-gt0 w ↦
          let same : c.after-rest.result ≡ from = c.after-rest.ensures ∙ ap (λ (t : ℕ). window_after t from) w.passed-is ∙ after-none from in
          rw (same, w.carry-is, w.right-is, c.first-carry.ensures.reads.numbers) (rw c.element.ensures at c.first-carry.ensures.carried)
    ]

pub returns-clause-done : goal.returns-clause-done
returns-clause-done g c =
    let b = g.C.Elem.BitStore.BITS in
    let to = c.args.to in let from = c.args.from in
    let some = width_some b g.met.C.Elem.BitStore.width_law in
    let met = c.requires.met in
    let numbers = c.first-carry.ensures.reads.numbers in
    elim c.if-to-BITS.branch [
      | then-to-BITS+else-passed-to+else-stops w ↦
          let t = w.len-passed.result in
          let head = w.first_part-head.result in
          let step = first_part-long to w.len-passed.ensures w.first_part-head.ensures refl in
          let more = (met-rest some met refl step w.if-passed-to.false).some in
          let part : Window = record { start = from.start; len = t } in
          let rest = rw (c.after.ensures, c.after-rest.ensures, w.passed-is, w.left-is, w.right-is, w.act-is, w.act_on_part-carry.ensures.right.numbers, numbers) at c.act_from_edge.ensures.done in
          let cut : IsCut b to (record { start = to.start; len = t }) (window_after t to) = record { start = refl; next = refl; len = omega arith; edge = head_edge b to.start t to.len some step w.if-passed-to.false } in
          rw (← beside-join b g.O.BitOrder.at (g.D.CellsRead.numbers c.args.right.now) part (window_after t from) from to.len (to.len - t) met.beside refl refl (omega arith) (omega arith))
          (g.met.A.Act.join_law _ _ _ _ _ _ _ _ _ _ _ _ met.window cut
          (head-done g.A.Act.Done to w.len-passed.ensures w.first_part-head.ensures met.beside (omega arith) (w.until-met.ensures ∙ window-same _ _ refl (omega arith)) (rw numbers at w.act_on_part-carry.ensures.done)) rest)
      | else-to-BITS+else-phase-gt0 w ↦
          let all : to.len - 0 ≡ to.len = omega arith in
          rw (c.after.ensures, c.after-rest.ensures, w.passed-is, w.left-is, w.right-is, w.act-is, after-none to, after-none from, all, numbers) at c.act_from_edge.ensures.done
    ]

pub returns-clause-right : goal.returns-clause-right
returns-clause-right g c =
    let b = g.C.Elem.BitStore.BITS in
    let to = c.args.to in let from = c.args.from in
    let some = width_some b g.met.C.Elem.BitStore.width_law in
    let first = c.first-carry.ensures.reads in
    elim c.if-to-BITS.branch [
      | then-to-BITS+else-passed-to+else-stops w ↦
          let t = w.len-passed.result in
          let step = first_part-long to w.len-passed.ensures w.first_part-head.ensures refl in
          let more = (met-rest some c.requires.met refl step w.if-passed-to.false).some in
          let below = mod_below to.start b some in
          let len : from.len - (from.len - w.min.result) ≡ t = omega arith in
          let head = rw (w.until-met.ensures, len) at w.act_on_part-carry.ensures.right in
          let all = touched-head b from.start t from.len g.P.Phases.equal some (omega arith) (omega arith) (rest-phases b to.start from.start t to.len _ some step w.if-passed-to.false c.requires.phases) in
          let rest = rw (c.after-rest.ensures, w.passed-is, w.right-is) at c.act_from_edge.ensures.right in
          record { numbers = rest.numbers ∙ head.numbers ∙ first.numbers; borrow = rest.borrow ∙ head.borrow ∙ first.borrow; loads = omega arith; stores = rest.stores ∙ head.stores ∙ first.stores }
      | else-to-BITS+else-phase-gt0 w ↦
          let one = touched-first b from.start from.len c.requires.met.some in
          let same : c.after-rest.result ≡ from = c.after-rest.ensures ∙ ap (λ (t : ℕ). window_after t from) w.passed-is ∙ after-none from in
          let rest = rw (same, w.right-is) at c.act_from_edge.ensures.right in
          record { numbers = rest.numbers ∙ first.numbers; borrow = rest.borrow ∙ first.borrow; loads = grind arith; stores = rest.stores ∙ first.stores }
    ]

pub returns-then-passed-to-clause-right : goal.returns-then-passed-to-clause-right
returns-then-passed-to-clause-right g c =
    let b = g.C.Elem.BitStore.BITS in
    let from = c.args.from in let first = c.first-carry.ensures.reads in
    let head = rw c.until-met.ensures at c.act_on_part-carry.ensures.right in
    let most = touched-less b from.start (from.len - (from.len - c.min.result)) from.len (width_some b g.met.C.Elem.BitStore.width_law) (omega arith) in
    let one = touched-first b from.start from.len c.requires.met.some in
    record { numbers = head.numbers ∙ first.numbers; borrow = head.borrow ∙ first.borrow; loads = grind arith; stores = head.stores ∙ first.stores }
