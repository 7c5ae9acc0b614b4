-- What was found in a range of an array, told of the array: the place, its bit, that none before it, or behind it, has the bit, and the
-- numbers there; and whether all bits of a range are 1, or some.
use Rattle.std.specs.Prelude.{◌≡◌, ◌≢◌, ℕ, ◌+◌, ◌-◌, ◌<◌, ◌≤◌, Bool, true, false, not, if◌then◌else◌, List, Option, None, Some, length, refl, slice_index_or, slice_range}
use Rattle.std.specs.List.{list_all, list_any}
use Rattle.std.specs.Option.{is_some}
use Rattle.std.proofs.Common.{arith, sym, ◌∙◌, ap}
use Rattle.bitvec_base.specs.Lists.{first_place, last_place}
use Rattle.bitvec_base.specs.PlacesLaws.{first_place-absent, first_place-before, first_place-below, first_place-bit, last_place-absent, last_place-after, last_place-below, last_place-bit, list_all-first_place, list_any-first_place}
use Rattle.bitvec_in_place.specs.RangeBitsLaws.{bits_in-range, get-bits_in, length-bits_in}
use Rattle.bitvec_in_place.specs.Ranges.{bits_in, number_in}
use Rattle.bitvec.specs.NumberSidesLaws.{number-one, number-zeros}

-- A `slice_range`, which a part of a view has, is the bits of the range.
pub range-bits_in : (list : List Bool) (from to : ℕ) → slice_range list from to ≡ bits_in list from to
range-bits_in list from to = sym (bits_in-range list from to)

-- a bit of the list, by the range
in-range : (list : List Bool) (from to k : ℕ) → from ≤ k → k < to → slice_index_or (bits_in list from to) (k - from) false ≡ slice_index_or list k false
in-range list from to k low below =
    let there : from + (k - from) ≡ k = omega arith in
    get-bits_in list from to (k - from) false (omega arith) ∙ ap (λ (i : ℕ). slice_index_or list i false) there

module _ (wanted : Bool) (list : List Bool) (from to : ℕ) (inside : to ≤ length list) where
  -- The first place of a bit in a range, where there is one, lies before the range's end.
  pub first_in-below : (i : ℕ) → first_place wanted (bits_in list from to) ≡ Some i → from + i < to
  first_in-below i found =
      let below = first_place-below wanted (bits_in list from to) i found in
      let long = length-bits_in list from to inside in
      omega arith

  -- The list has the wanted bit at the first place that was found in a range.
  pub first_in-bit : (i k : ℕ) → first_place wanted (bits_in list from to) ≡ Some i → k ≡ from + i → slice_index_or list k false ≡ wanted
  first_in-bit i k found is =
      let below = first_in-below i found in
      let there : k - from ≡ i = omega arith in
      sym (in-range list from to k (omega arith) (omega arith)) ∙ ap (λ (n : ℕ). slice_index_or (bits_in list from to) n false) there
      ∙ first_place-bit wanted (bits_in list from to) i found

  -- No bit of the range before the first place that was found is the wanted one.
  pub first_in-before : (i k : ℕ) → first_place wanted (bits_in list from to) ≡ Some i → from ≤ k → k < from + i → slice_index_or list k false ≢ wanted
  first_in-before i k found low before same =
      let below = first_in-below i found in
      first_place-before wanted (bits_in list from to) i (k - from) found (omega arith) (in-range list from to k low (omega arith) ∙ same)

  -- Where a range has no first place of the wanted bit, none of its bits is this one.
  pub first_in-absent : (k : ℕ) → first_place wanted (bits_in list from to) ≡ None → from ≤ k → k < to → slice_index_or list k false ≢ wanted
  first_in-absent k none low below same =
      let long = length-bits_in list from to inside in
      first_place-absent wanted (bits_in list from to) none (k - from) (omega arith) (in-range list from to k low below ∙ same)

  -- The last place of a bit in a range, where there is one, lies before the range's end.
  pub last_in-below : (i : ℕ) → last_place wanted (bits_in list from to) ≡ Some i → from + i < to
  last_in-below i found =
      let below = last_place-below wanted (bits_in list from to) i found in
      let long = length-bits_in list from to inside in
      omega arith

  -- The list has the wanted bit at the last place that was found in a range.
  pub last_in-bit : (i k : ℕ) → last_place wanted (bits_in list from to) ≡ Some i → k ≡ from + i → slice_index_or list k false ≡ wanted
  last_in-bit i k found is =
      let below = last_in-below i found in
      let there : k - from ≡ i = omega arith in
      sym (in-range list from to k (omega arith) (omega arith)) ∙ ap (λ (n : ℕ). slice_index_or (bits_in list from to) n false) there
      ∙ last_place-bit wanted (bits_in list from to) i found

  -- No bit of the range behind the last place that was found is the wanted one.
  pub last_in-after : (i k : ℕ) → last_place wanted (bits_in list from to) ≡ Some i → from + i < k → k < to → slice_index_or list k false ≢ wanted
  last_in-after i k found low below same =
      let long = length-bits_in list from to inside in
      last_place-after wanted (bits_in list from to) i (k - from) found (omega arith) (omega arith) (in-range list from to k (omega arith) below ∙ same)

  -- Where a range has no last place of the wanted bit, none of its bits is this one.
  pub last_in-absent : (k : ℕ) → last_place wanted (bits_in list from to) ≡ None → from ≤ k → k < to → slice_index_or list k false ≢ wanted
  last_in-absent k none low below same =
      let long = length-bits_in list from to inside in
      last_place-absent wanted (bits_in list from to) none (k - from) (omega arith) (in-range list from to k low below ∙ same)

-- ---- the number before it, and at it

not-true : (bit : Bool) → bit ≢ true → bit ≡ false
not-true true other = absurd (other refl)
not-true false other = refl

not-false : (bit : Bool) → bit ≢ false → bit ≡ true
not-false true other = refl
not-false false other = absurd (other refl)

module _ (big high : Bool) (b : ℕ) (list : List Bool) (from to : ℕ) (some : 0 < b) (inside : to ≤ length list) where
  -- The bits of a range before its first 1 have the number 0.
  pub number-before_one : (i m : ℕ) → first_place true (bits_in list from to) ≡ Some i → m ≡ from + i → number_in big high b list from m ≡ 0
  number-before_one i m found is =
      let below = first_in-below true list from to inside i found in
      number-zeros big high b list from m some (omega arith) (omega arith)
      (λ k low before. not-true (slice_index_or list k false) (first_in-before true list from to inside i k found low (omega arith)))

  -- The first 1 of a range, as a range of one bit, has the number 1.
  pub number-at_one : (i k e : ℕ) → first_place true (bits_in list from to) ≡ Some i → k ≡ from + i → e ≡ from + i + 1 → number_in big high b list k e ≡ 1
  number-at_one i k e found is end =
      let below = first_in-below true list from to inside i found in
      let bit = first_in-bit true list from to inside i k found is in
      number-one big high b list k e (omega arith) some (omega arith) ∙ ap (λ (x : Bool). if x then 1 else 0) bit

  -- Each range within one that has no 1 has the number 0.
  pub number-without_one : (a e : ℕ) → first_place true (bits_in list from to) ≡ None → from ≤ a → a ≤ e → e ≤ to → number_in big high b list a e ≡ 0
  number-without_one a e none low order last =
      number-zeros big high b list a e some order (omega arith)
      (λ k above below. not-true (slice_index_or list k false) (first_in-absent true list from to inside k none (omega arith) (omega arith)))

none_is : (o : Option ℕ) → not (is_some o) ≡ true → o ≡ None
none_is None is = refl
none_is (Some i) is = absurd (let no : false ≡ true = is in cc)

some_not : (o : Option ℕ) → is_some o ≡ false → o ≡ None
some_not None is = refl
some_not (Some i) is = absurd (let no : true ≡ false = is in cc)

-- ---- whether all bits of a range are 1, or some

module _ (list : List Bool) (from to : ℕ) (inside : to ≤ length list) where
  -- Where all bits of a range are 1, each of them is 1.
  pub all_in-true : (k : ℕ) → list_all (λ (bit : Bool). bit) (bits_in list from to) ≡ true → from ≤ k → k < to → slice_index_or list k false ≡ true
  all_in-true k all low below =
      not-false (slice_index_or list k false)
      (first_in-absent false list from to inside k (none_is (first_place false (bits_in list from to)) (list_all-first_place (bits_in list from to) ∙ all)) low below)

  -- Where no 0 is found in a range, all of its bits are 1.
  pub all_in-none : first_place false (bits_in list from to) ≡ None → list_all (λ (bit : Bool). bit) (bits_in list from to) ≡ true
  all_in-none none = sym (list_all-first_place (bits_in list from to)) ∙ ap (λ (o : Option ℕ). not (is_some o)) none

  -- Where one bit of a range is 0, not all of its bits are 1.
  pub all_in-false : (k : ℕ) → slice_index_or list k false ≡ false → from ≤ k → k < to → list_all (λ (bit : Bool). bit) (bits_in list from to) ≡ false
  all_in-false k clear low below =
      not-true (list_all (λ (bit : Bool). bit) (bits_in list from to)) (λ (all : list_all (λ (bit : Bool). bit) (bits_in list from to) ≡ true).
      let taken = all_in-true k all low below in
      let no : true ≡ false = sym taken ∙ clear in cc)

  -- Where it is false that any bit of a range is 1, each of its bits is 0.
  pub any_in-false : (k : ℕ) → list_any (λ (bit : Bool). bit) (bits_in list from to) ≡ false → from ≤ k → k < to → slice_index_or list k false ≡ false
  any_in-false k none low below =
      not-true (slice_index_or list k false)
      (first_in-absent true list from to inside k (some_not (first_place true (bits_in list from to)) (list_any-first_place (bits_in list from to) ∙ none)) low below)

  -- Where one bit of a range is 1, it is true that any of its bits is.
  pub any_in-true : (k : ℕ) → slice_index_or list k false ≡ true → from ≤ k → k < to → list_any (λ (bit : Bool). bit) (bits_in list from to) ≡ true
  any_in-true k taken low below =
      not-false (list_any (λ (bit : Bool). bit) (bits_in list from to)) (λ (none : list_any (λ (bit : Bool). bit) (bits_in list from to) ≡ false).
      let clear = any_in-false k none low below in
      let no : true ≡ false = sym taken ∙ clear in cc)
