use Rattle.std.specs.Prelude.{ℕ, ◌∷◌, false, refl, slice_index_or, slice_range}
use Rattle.std.proofs.Common.{arith, sym, ◌∙◌, ap}
use Rattle.bitvec_slice.specs.Views.{seen}
use Rattle.bitvec_slice.specs.WalkLaws.{left_first, left_length}
use Rattle.bitvec_slice.specs.Walks.{remaining_bits}
use Rattle.bitvec_slice.proofs.iter.IterIterator.next.Goals as goal

pub returns-in-Some-clause-steps : goal.returns-in-Some-clause-steps
unfolding remaining_bits
returns-in-Some-clause-steps g c =
    let bits = (seen c.args.self.now.view).bits in
    let end = c.in-Some.ensures.steps.0 in
    let first = c.in-Some.ensures.steps.1 in
    let bit = c.into_bit.ensures ∙ ap (λ (index : ℕ). slice_index_or bits index false) first.1 in
    let begins = first.2 in
    let some = first.0 in (
      left_first c.args.self.now (omega (arith, first.0)) ∙ sym (λ i. bit i ∷ slice_range bits (first.2 i) (end i)),
      record { view = refl; start = omega arith; end = end },
    )

pub returns-in-Some-clause-goes : goal.returns-in-Some-clause-goes
returns-in-Some-clause-goes g c = grind (arith, left_length)
