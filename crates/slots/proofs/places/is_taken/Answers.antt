use Rattle.std.proofs.Common.{◌≡◌, ◌≤◌, Bool, length, refl, ap, ◌∙◌, arith}
use Rattle.std.specs.List.{list_all}
use Rattle.bitvec.specs.Laws.{lengths}
use Rattle.bitvec.specs.Views.{seen}
use Rattle.slots.proofs.PlaceLaws.{taken-outside, taken-test}
use Rattle.slots.proofs.places.is_taken.Goals as goal

pub returns-in-Some : goal.returns-in-Some
returns-in-Some g c =
    let long : length (seen c.args.places).bits ≡ (seen c.args.places).window.len = grind (arith, lengths) in
    let there = c.in-Some.ensures.some.0 refl in
    let inside : c.args.range.now.end ≤ length (seen c.args.places).bits = omega (arith, there.1) in
    taken-test (seen c.args.places).bits c.args.range.now c.all.result (there.0, inside)
    (c.all.ensures ∙ ap (list_all (λ (bit : Bool). bit)) c.in-Some.ensures.gives.bits)

pub returns-in-None : goal.returns-in-None
returns-in-None g c =
    let long : length (seen c.args.places).bits ≡ (seen c.args.places).window.len = grind (arith, lengths) in
    taken-outside (seen c.args.places).bits c.args.range.now (λ there.
    let inside : c.args.range.now.end ≤ (seen c.args.places).window.len = omega (arith, there.1) in
    let some = c.in-None.ensures.some.1 (there.0, inside) in
    absurd (cc some))
