use Rattle.std.specs.Prelude.{◌≡◌, ℕ, ◌+◌, ◌-◌, [], ◌∷◌, ◌++◌, false, refl, slice_index_or, slice_range}
use Rattle.std.proofs.Common.{arith, sym, ◌∙◌, ap}
use Rattle.bitvec_slice.specs.Views.{seen}
use Rattle.bitvec_slice.specs.WalkLaws.{left_last, left_length}
use Rattle.bitvec_slice.specs.Walks.{remaining_bits}
use Rattle.bitvec_slice.proofs.iter.IterDoubleEndedIterator.next_back.Goals as goal

one-less : (end rest : ℕ) → end ≡ rest + 1 → rest ≡ end - 1
one-less end rest is = omega arith

pub returns-in-Some-clause-steps : goal.returns-in-Some-clause-steps
unfolding remaining_bits
returns-in-Some-clause-steps g c =
    let bits = (seen c.args.self.now.view).bits in
    let start = c.in-Some.ensures.steps.0 in
    let last = c.in-Some.ensures.steps.1 in
    let end = one-less c.args.self.now.indices.end c.next_back.new.self.end last.2 in
    let bit = c.into_bit.ensures ∙ ap (λ (index : ℕ). slice_index_or bits index false) (last.1 ∙ end) in
    let ends = last.2 in
    let some = last.0 in (
      left_last c.args.self.now (omega (arith, last.0)) ∙ sym (λ i. slice_range bits (start i) (end i) ++ bit i ∷ []),
      record { view = refl; start = start; end = omega arith },
    )

pub returns-in-Some-clause-goes : goal.returns-in-Some-clause-goes
returns-in-Some-clause-goes g c = grind (arith, left_length)
