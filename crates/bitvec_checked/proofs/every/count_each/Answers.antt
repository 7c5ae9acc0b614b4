use Rattle.std.proofs.Common.{◌≡◌, arith, refl, ◌∙◌}
use Rattle.bitvec_base.specs.WritesLaws.{length-list}
use Rattle.bitvec_checked.proofs.EveryLemmas.{ones-all, ones-next, place-below}
use Rattle.bitvec_checked.proofs.every.count_each.Goals as goal
use Rattle.bitvec_checked.proofs.every.count_each.Goals.{then-bit_in, else-bit_in}

pub overflow_mul-place : goal.overflow_mul-place
overflow_mul-place g c = let below = place-below c.loop-place.place c.args.step c.args.window.len c.requires.some (rw c.div_ceil-place-end.ensures at c.loop-place-test.true) in record { fits = omega arith }

pub bit_in-requires-clause-bound : goal.bit_in-requires-clause-bound
bit_in-requires-clause-bound g c = place-below c.loop-place.place c.args.step c.args.window.len c.requires.some (rw c.div_ceil-place-end.ensures at c.loop-place-test.true)

pub loop-place-preserved : goal.loop-place-preserved
loop-place-preserved g c =
    let long = length-list g.O.BitOrder.at c.requires.window in
    let counted = rw (c.div_ceil-place-end.ensures, ← long) at c.loop-place-test.true in
    let next = ones-next c.args.step _ c.loop-place.place c.bit_in.result counted c.bit_in.ensures in
    elim c.if-bit_in.branch [
      | then-bit_in w ↦ let more = rw w.if-bit_in.true at next in omega (arith, more, c.loop-place.invariant, w.ones-is)
      | else-bit_in w ↦ let same = rw w.if-bit_in.false at next in omega (arith, same, c.loop-place.invariant, w.ones-is)
    ]

pub returns : goal.returns
returns g c =
    let long = length-list g.O.BitOrder.at c.requires.window in
    let all : c.loop-place.place ≡ c.div_ceil-place-end.result = omega arith in
    c.loop-place.invariant ∙ ones-all c.args.step _ c.loop-place.place (all ∙ c.div_ceil-place-end.ensures ∙ rw long refl)
