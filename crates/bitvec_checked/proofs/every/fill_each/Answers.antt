use Rattle.std.proofs.Common.{◌≡◌, ◌*◌, arith, refl, ◌∙◌}
use Rattle.std.proofs.Math.ListN.{set}
use Rattle.bitvec_base.specs.WritesLaws.{Writes-is, Writes-next, Writes-start, length-list}
use Rattle.bitvec_checked.proofs.EveryLemmas.{first-all, first-next, first-none, place-below}
use Rattle.bitvec_checked.proofs.every.fill_each.Goals as goal

pub overflow_mul-place : goal.overflow_mul-place
overflow_mul-place g c = let below = place-below c.loop-place.place c.args.step c.args.window.len c.requires.some (rw c.div_ceil-place-end.ensures at c.loop-place-test.true) in record { fits = omega arith }

pub set_in-requires-clause-bound : goal.set_in-requires-clause-bound
set_in-requires-clause-bound g c = place-below c.loop-place.place c.args.step c.args.window.len c.requires.some (rw c.div_ceil-place-end.ensures at c.loop-place-test.true)

pub loop-place-init : goal.loop-place-init
loop-place-init g c = Writes-start {at = g.O.BitOrder.at} c.requires.window (first-none _ _ _)

pub loop-place-preserved : goal.loop-place-preserved
loop-place-preserved g c =
    let long = length-list g.O.BitOrder.at c.requires.window in
    let below = place-below c.loop-place.place c.args.step c.args.window.len c.requires.some (rw c.div_ceil-place-end.ensures at c.loop-place-test.true) in
    Writes-next (λ list. set list (c.loop-place.place * c.args.step) c.args.bit) c.requires.window c.loop-place.invariant c.set_in.ensures.writes
    (first-next c.loop-place.place c.args.step _ _ c.args.bit c.requires.some (omega arith) refl)

pub returns : goal.returns
returns g c =
    let long = length-list g.O.BitOrder.at c.requires.window in
    let all : c.loop-place.place ≡ c.div_ceil-place-end.result = omega arith in
    record { writes = Writes-is c.loop-place.invariant (first-all c.loop-place.place c.args.step _ _ c.requires.some (all ∙ c.div_ceil-place-end.ensures ∙ rw long refl)) }
