use Rattle.std.proofs.Common.{◌≡◌, ◌*◌, arith, refl, ◌∙◌, sym}
use Rattle.std.proofs.Math.ListN.{set}
use Rattle.bitvec_base.specs.WritesLaws.{Writes-is, Writes-next, Writes-start, length-list}
use Rattle.bitvec_checked.proofs.EveryLemmas.{first-all, first-next, first-none, get-every, place-below}
use Rattle.bitvec_checked.proofs.every.copy_each.Goals as goal

pub overflow_mul-place : goal.overflow_mul-place
overflow_mul-place g c = let below = place-below c.loop-place.place c.args.right_step c.args.right_window.len c.requires.right_some (rw (c.div_ceil-place-end.ensures, c.requires.lengths) at c.loop-place-test.true) in record { fits = omega arith }

pub overflow_mul-place-in-loop-place : goal.overflow_mul-place-in-loop-place
overflow_mul-place-in-loop-place g c = let below = place-below c.loop-place.place c.args.step c.args.window.len c.requires.some (rw c.div_ceil-place-end.ensures at c.loop-place-test.true) in record { fits = omega arith }

pub bit_in-bit-requires-clause-bound : goal.bit_in-bit-requires-clause-bound
bit_in-bit-requires-clause-bound g c =
    place-below c.loop-place.place c.args.right_step c.args.right_window.len c.requires.right_some (rw (c.div_ceil-place-end.ensures, c.requires.lengths) at c.loop-place-test.true)

pub set_in-requires-clause-bound : goal.set_in-requires-clause-bound
set_in-requires-clause-bound g c = place-below c.loop-place.place c.args.step c.args.window.len c.requires.some (rw c.div_ceil-place-end.ensures at c.loop-place-test.true)

pub loop-place-init : goal.loop-place-init
loop-place-init g c = Writes-start {at = g.O.BitOrder.at} c.requires.window (first-none _ _ _)

pub loop-place-preserved : goal.loop-place-preserved
loop-place-preserved g c =
    let long = length-list g.O.BitOrder.at c.requires.window in
    let right_long = length-list g.O.BitOrder.at c.requires.right_window in
    let counted = rw c.div_ceil-place-end.ensures at c.loop-place-test.true in
    let below = place-below c.loop-place.place c.args.step c.args.window.len c.requires.some counted in
    let source = rw (c.requires.lengths, ← right_long) at counted in
    Writes-next (λ list. set list (c.loop-place.place * c.args.step) c.bit_in-bit.result) c.requires.window c.loop-place.invariant c.set_in.ensures.writes
    (first-next c.loop-place.place c.args.step _ _ c.bit_in-bit.result c.requires.some (omega arith) (c.bit_in-bit.ensures ∙ sym (get-every c.args.right_step _ c.loop-place.place _ source)))

pub returns : goal.returns
returns g c =
    let long = length-list g.O.BitOrder.at c.requires.window in
    let all : c.loop-place.place ≡ c.div_ceil-place-end.result = omega arith in
    record { writes = Writes-is c.loop-place.invariant (first-all c.loop-place.place c.args.step _ _ c.requires.some (all ∙ c.div_ceil-place-end.ensures ∙ rw long refl)) }
