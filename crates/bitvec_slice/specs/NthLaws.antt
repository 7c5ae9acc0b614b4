-- What `nth` and `nth_back` leave of a walk over bits: they pass so many bits, and give one more, as far as there are such.
use Rattle.std.specs.Prelude.{ℕ, ◌+◌, ◌-◌, List, [], ◌∷◌, Option, None, Some, length, max, min, refl}
use Rattle.std.specs.Iterator.{SkipsThenYields, Yields}
use Rattle.std.proofs.Common.{◌∙◌, ap, arith, subst}
use Rattle.bitvec_domain.specs.declared.reference.BitRef.{BitRef}
use Rattle.bitvec_store.specs.declared.store.BitStore.{Ghosts as Store}
use Rattle.bitvec_base.specs.declared.order.BitOrder.{Ghosts as Order}
use Rattle.bitvec_slice.specs.WalkLaws.{left_length}
use Rattle.bitvec_slice.specs.Walks.{TakesFirst, TakesLast, Walks, index_range, walked}
use Rattle.bitvec_slice.specs.declared.iter.Iter.{Iter}

module _ {T O : Type 0} {t : Store T} {o : Order O} where
  first_passed : (bits : List (BitRef T O)) (before after : Iter T O t o) → Yields (TakesFirst {t = t} {o = o}) before bits after
      → Walks after (walked before) (min ((index_range before).start + length bits) (index_range before).end) (index_range before).end
  first_passed [] before after same =
      let order = before.inside.0 in
      let P : Iter T O t o → Type 0 = λ it. Walks it (walked before) (min ((index_range before).start + 0) (index_range before).end) (index_range before).end in
      subst P same (record { view = refl; start = omega arith; end = refl })
  first_passed (bit ∷ bits) before after is =
      let one = is.1.1 in
      let rest = first_passed bits is.0 after is.2 in
      let begins = one.start in
      let ends = one.end in
      let now = rest.start in
      record { view = rest.view ∙ one.view; start = omega arith; end = rest.end ∙ one.end }

  last_passed : (bits : List (BitRef T O)) (before after : Iter T O t o) → Yields (TakesLast {t = t} {o = o}) before bits after
      → Walks after (walked before) (index_range before).start (max (index_range before).start ((index_range before).end - length bits))
  last_passed [] before after same =
      let order = before.inside.0 in
      let P : Iter T O t o → Type 0 = λ it. Walks it (walked before) (index_range before).start (max (index_range before).start ((index_range before).end - 0)) in
      subst P same (record { view = refl; start = refl; end = omega arith })
  last_passed (bit ∷ bits) before after is =
      let one = is.1.1 in
      let rest = last_passed bits is.0 after is.2 in
      let begins = one.start in
      let ends = one.end in
      let now = rest.end in
      record { view = rest.view ∙ one.view; start = rest.start ∙ one.start; end = omega arith }

  -- After `nth(n)` the walk begins `n + 1` bits later, or at its end where it had no more bits.
  pub nth_leaves : (n : ℕ) (bit : Option (BitRef T O)) (before after : Iter T O t o) → SkipsThenYields (TakesFirst {t = t} {o = o}) before n bit after
      → Walks after (walked before) (min ((index_range before).start + n + 1) (index_range before).end) (index_range before).end
  nth_leaves n None before after is =
      let passed = first_passed is.0 before is.1.0 is.1.1 in
      let last = is.1.2.1 in
      let none = ap length is.1.2.0.0 in
      let len = left_length is.1.0 in
      let few = is.2 in
      let order = is.1.0.inside.0 in
      let begins = passed.start in
      let ends = passed.end in
      let now = last.start in
      record { view = last.view ∙ passed.view; start = omega arith; end = last.end ∙ passed.end }
  nth_leaves n (Some bit) before after is =
      let passed = first_passed is.0 before is.1.0 is.1.1 in
      let last = is.1.2.1 in
      let as_many = is.2 in
      let begins = passed.start in
      let ends = passed.end in
      let now = last.start in
      record { view = last.view ∙ passed.view; start = omega arith; end = last.end ∙ passed.end }

  -- After `nth_back(n)` the walk ends `n + 1` bits earlier, or at its start where it had no more bits.
  pub nth_back_leaves : (n : ℕ) (bit : Option (BitRef T O)) (before after : Iter T O t o) → SkipsThenYields (TakesLast {t = t} {o = o}) before n bit after
      → Walks after (walked before) (index_range before).start (max (index_range before).start ((index_range before).end - (n + 1)))
  nth_back_leaves n None before after is =
      let passed = last_passed is.0 before is.1.0 is.1.1 in
      let last = is.1.2.1 in
      let none = ap length is.1.2.0.0 in
      let len = left_length is.1.0 in
      let few = is.2 in
      let order = is.1.0.inside.0 in
      let begins = passed.start in
      let ends = passed.end in
      let now = last.end in
      record { view = last.view ∙ passed.view; start = last.start ∙ passed.start; end = omega arith }
  nth_back_leaves n (Some bit) before after is =
      let passed = last_passed is.0 before is.1.0 is.1.1 in
      let last = is.1.2.1 in
      let as_many = is.2 in
      let begins = passed.start in
      let ends = passed.end in
      let now = last.end in
      record { view = last.view ∙ passed.view; start = last.start ∙ passed.start; end = omega arith }
