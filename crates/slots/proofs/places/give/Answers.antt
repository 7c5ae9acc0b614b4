use Rattle.std.proofs.Common.{◌≡◌, Bool, List, length, subst, arith}
use Rattle.bitvec.specs.Laws.{lengths}
use Rattle.bitvec.specs.Views.{seen, seen_mut}
use Rattle.slots.specs.Places.{IsTaken}
use Rattle.slots.proofs.places.give.Goals as goal

pub edit_with-requires-clause-range : goal.edit_with-requires-clause-range
edit_with-requires-clause-range g c =
    let long : length (seen_mut c.args.places.now).bits ≡ (seen_mut c.args.places.now).window.len = grind (arith, lengths) in
    let same : (seen c.as_ref.result).bits ≡ (seen_mut c.args.places.now).bits = λ i. (c.as_ref.ensures i).bits in
    let taken = subst (λ (bits : List Bool). IsTaken bits c.args.range) same (c.is_taken.ensures.0 c.if-not-is_taken.false) in
    (taken.there.0, omega (arith, taken.there.1))
