use Rattle.std.proofs.Common.{◌≡◌, ◌∙◌, ℕ, ◌+◌, ◌-◌, ◌*◌, arith, rules}
use Rattle.bitvec_combine.specs.ActLaws.{span-fits}
use Rattle.bitvec_combine.proofs.StretchActs.{first-word, source-word, stretch-join, stretch-none, stretch-part}
use Rattle.bitvec_combine.proofs.acting_shifted.act_in_turns.Goals as goal

pub loop-step-init : goal.loop-step-init
loop-step-init g c =
    let start : c.args.stretch.source + 0 * c.args.turn ≡ c.args.stretch.source = omega arith in
    record { done = stretch-none g.C.CellsRead.numbers g.A.Act.Done g.met.A.Act.empty_law (0 * c.args.turn) c.requires.stretch (omega arith); carried = rw start c.requires.stretch.carried; right = search rules }

pub overflow_mul-step : goal.overflow_mul-step
overflow_mul-step g c =
    let fits = span-fits _ c.loop-step-test.true c.spans_in-turns.ensures.fits in
    let most = first-word (c.loop-step.step * c.args.turn) g.met.C.Elem.BitStore.width_law c.requires.stretch (omega arith) in
    record { fits = omega arith }

pub part-here-requires : goal.part-here-requires
part-here-requires g c =
    let fits = span-fits _ c.loop-step-test.true c.spans_in-turns.ensures.fits in
    let width = g.met.C.Elem.BitStore.width_law in
    record { first = first-word _ width c.requires.stretch (omega arith); source = source-word _ width c.requires.stretch (omega arith) }

pub act_carried-last-requires-clause-stretch : goal.act_carried-last-requires-clause-stretch
act_carried-last-requires-clause-stretch g c =
    let inv = c.loop-step.invariant in
    rw (c.part-here.ensures, inv.right.numbers)
    (stretch-part (c.loop-step.step * c.args.turn) c.args.turn c.requires.stretch (g.met.A.Act.kept_law _ _ _ _ _ _ _ inv.done) (span-fits _ c.loop-step-test.true c.spans_in-turns.ensures.fits) inv.carried)

pub loop-step-preserved : goal.loop-step-preserved
loop-step-preserved g c =
    let inv = c.loop-step.invariant in
    let m : ℕ = c.loop-step.step * c.args.turn in
    let fits = span-fits _ c.loop-step-test.true c.spans_in-turns.ensures.fits in
    let next : (c.loop-step.step + 1) * c.args.turn ≡ m + c.args.turn = omega arith in
    let end : c.args.stretch.source + (m + c.args.turn) ≡ c.args.stretch.source + m + c.args.turn = omega arith in
    let acted = rw c.part-here.ensures at c.act_carried-last.ensures in
    record {
      done = stretch-join g.C.CellsRead.numbers g.A.Act.Done g.met.A.Act.join_law m c.args.turn _ c.requires.stretch (omega arith) (omega arith) inv.done (rw inv.right.numbers at acted.done);
      carried = rw (next, end) (rw inv.right.numbers at acted.carried);
      right = search rules;
    }

pub overflow_mul-passed : goal.overflow_mul-passed
overflow_mul-passed g c =
    let most = first-word (c.spans_in-turns.result * c.args.turn) g.met.C.Elem.BitStore.width_law c.requires.stretch c.spans_in-turns.ensures.fits in
    record { fits = omega arith }

pub part-rest-requires : goal.part-rest-requires
part-rest-requires g c =
    let width = g.met.C.Elem.BitStore.width_law in
    record { first = first-word _ width c.requires.stretch c.spans_in-turns.ensures.fits; source = source-word _ width c.requires.stretch c.spans_in-turns.ensures.fits }

pub act_carried-requires-clause-stretch : goal.act_carried-requires-clause-stretch
act_carried-requires-clause-stretch g c =
    let inv = c.loop-step.invariant in
    let all : c.loop-step.step ≡ c.spans_in-turns.result = omega arith in
    let m : ℕ = c.spans_in-turns.result * c.args.turn in
    rw (c.part-rest.ensures, inv.right.numbers)
    (stretch-part m (c.args.stretch.count - m) c.requires.stretch (g.met.A.Act.kept_law _ _ _ _ _ _ _ inv.done) (omega arith) (rw all at inv.carried))

pub returns : goal.returns
returns g c =
    let inv = c.loop-step.invariant in
    let all : c.loop-step.step ≡ c.spans_in-turns.result = omega arith in
    let m : ℕ = c.spans_in-turns.result * c.args.turn in
    let end : c.args.stretch.source + c.args.stretch.count ≡ c.args.stretch.source + m + (c.args.stretch.count - m) = omega arith in
    let acted = rw c.part-rest.ensures at c.act_carried.ensures in
    let before = rw all at inv.right.loads in
    record {
      done = stretch-join g.C.CellsRead.numbers g.A.Act.Done g.met.A.Act.join_law m (c.args.stretch.count - m) _ c.requires.stretch (omega arith) (omega arith) (rw all at inv.done) (rw inv.right.numbers at acted.done);
      carried = rw end (rw inv.right.numbers at acted.carried);
      right = record { numbers = acted.right.numbers ∙ inv.right.numbers; borrow = acted.right.borrow ∙ inv.right.borrow; loads = omega (arith, before, acted.right.loads); stores = acted.right.stores ∙ inv.right.stores };
    }
