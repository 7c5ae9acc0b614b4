use Rattle.std.proofs.Common.{◌≡◌, ◌∙◌, ℕ, ◌+◌, ◌-◌, ◌*◌, arith, rules, sym}
use Rattle.bitvec_combine.specs.ActLaws.{span-fits}
use Rattle.bitvec_combine.proofs.StretchActs.{first-word, source-word, stretch-join, stretch-none, stretch-part, stretch-stop}
use Rattle.bitvec_combine.proofs.acting_on_windows.act_in_spans.Goals as goal

pub loop-step-init : goal.loop-step-init
loop-step-init g c =
    let start : c.args.stretch.source + 0 * c.span-span.result ≡ c.args.stretch.source = omega arith in
    record { done = stretch-none g.C.CellsRead.numbers g.A.Act.Done g.met.A.Act.empty_law (0 * c.span-span.result) c.requires (omega arith); carried = rw start c.requires.carried; right = search rules }

pub part-here-requires : goal.part-here-requires
part-here-requires g c =
    let fits = span-fits _ c.loop-step-test.true c.spans_in-spans.ensures.fits in
    let width = g.met.C.Elem.BitStore.width_law in
    record { first = first-word _ width c.requires (omega arith); source = source-word _ width c.requires (omega arith) }

pub act_on_span-last-requires : goal.act_on_span-last-requires
act_on_span-last-requires g c =
    let inv = c.loop-step.invariant in
    rw (c.part-here.ensures, inv.right.numbers)
    (stretch-part (c.loop-step.step * c.span-span.result) c.span-span.result c.requires (g.met.A.Act.kept_law _ _ _ _ _ _ _ inv.done) (span-fits _ c.loop-step-test.true c.spans_in-spans.ensures.fits) inv.carried)

pub loop-step-preserved : goal.loop-step-preserved
loop-step-preserved g c =
    let inv = c.loop-step.invariant in let span = c.span-span.result in
    let m : ℕ = c.loop-step.step * span in
    let fits = span-fits _ c.loop-step-test.true c.spans_in-spans.ensures.fits in
    let next : (c.loop-step.step + 1) * span ≡ m + span = omega arith in
    let end : c.args.stretch.source + (m + span) ≡ c.args.stretch.source + m + span = omega arith in
    let acted = rw c.part-here.ensures at c.act_on_span-last.ensures in
    record {
      done = stretch-join g.C.CellsRead.numbers g.A.Act.Done g.met.A.Act.join_law m span _ c.requires (omega arith) (omega arith) inv.done (rw inv.right.numbers at acted.done);
      carried = rw (next, end) (rw inv.right.numbers at acted.carried);
      right = search rules;
    }

pub returns-then-stops-clause-done : goal.returns-then-stops-clause-done
returns-then-stops-clause-done g c =
    let inv = c.loop-step.invariant in let span = c.span-span.result in
    let m : ℕ = c.loop-step.step * span in
    let fits = span-fits _ c.loop-step-test.true c.spans_in-spans.ensures.fits in
    let acted = rw c.part-here.ensures at c.act_on_span-last.ensures in
    stretch-stop g.C.CellsRead.numbers g.A.Act.Done g.met.A.Act.stop_law (m + span) c.requires fits (sym c.stops.ensures ∙ c.if-stops.true)
    (stretch-join g.C.CellsRead.numbers g.A.Act.Done g.met.A.Act.join_law m span _ c.requires (omega arith) fits inv.done (rw inv.right.numbers at acted.done))

pub part-rest-requires : goal.part-rest-requires
part-rest-requires g c =
    let width = g.met.C.Elem.BitStore.width_law in
    record { first = first-word _ width c.requires c.spans_in-spans.ensures.fits; source = source-word _ width c.requires c.spans_in-spans.ensures.fits }

pub act_on_stretch-requires : goal.act_on_stretch-requires
act_on_stretch-requires g c =
    let inv = c.loop-step.invariant in
    let all : c.loop-step.step ≡ c.spans_in-spans.result = omega arith in
    let m : ℕ = c.spans_in-spans.result * c.span-span.result in
    rw (c.part-rest.ensures, inv.right.numbers)
    (stretch-part m (c.args.stretch.count - m) c.requires (g.met.A.Act.kept_law _ _ _ _ _ _ _ inv.done) (omega arith) (rw all at inv.carried))

pub returns-clause-done : goal.returns-clause-done
returns-clause-done g c =
    let inv = c.loop-step.invariant in
    let all : c.loop-step.step ≡ c.spans_in-spans.result = omega arith in
    let m : ℕ = c.spans_in-spans.result * c.span-span.result in
    stretch-join g.C.CellsRead.numbers g.A.Act.Done g.met.A.Act.join_law m (c.args.stretch.count - m) _ c.requires (omega arith) (omega arith) (rw all at inv.done)
    (rw (c.part-rest.ensures, inv.right.numbers) at c.act_on_stretch.ensures.done)

pub overflow_mul-step : goal.overflow_mul-step
overflow_mul-step g c =
    let fits = span-fits _ c.loop-step-test.true c.spans_in-spans.ensures.fits in
    let most = first-word (c.loop-step.step * c.span-span.result) g.met.C.Elem.BitStore.width_law c.requires (omega arith) in
    record { fits = omega arith }

pub returns-then-stops-clause-right : goal.returns-then-stops-clause-right
returns-then-stops-clause-right g c =
    let before = c.loop-step.invariant.right in
    let acted = rw c.part-here.ensures at c.act_on_span-last.ensures.right in
    let fits = span-fits _ c.loop-step-test.true c.spans_in-spans.ensures.fits in
    record { numbers = acted.numbers ∙ before.numbers; borrow = acted.borrow ∙ before.borrow; loads = omega arith; stores = acted.stores ∙ before.stores }

pub overflow_mul-passed : goal.overflow_mul-passed
overflow_mul-passed g c =
    let most = first-word (c.spans_in-spans.result * c.span-span.result) g.met.C.Elem.BitStore.width_law c.requires c.spans_in-spans.ensures.fits in
    record { fits = omega arith }

pub returns-clause-right : goal.returns-clause-right
returns-clause-right g c =
    let before = c.loop-step.invariant.right in
    let all : c.loop-step.step ≡ c.spans_in-spans.result = omega arith in
    let passed = rw all at before.loads in
    let acted = rw c.part-rest.ensures at c.act_on_stretch.ensures.right in
    record { numbers = acted.numbers ∙ before.numbers; borrow = acted.borrow ∙ before.borrow; loads = omega arith; stores = acted.stores ∙ before.stores }
