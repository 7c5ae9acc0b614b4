-- Where a bit stands in a part of one element, by the element whose ones are the part's bits that are sought.
use Rattle.std.specs.Prelude.{◌≡◌, ℕ, ◌+◌, ◌-◌, ◌^◌, ◌<◌, ◌≤◌, ◌==◌, min, if◌then◌else◌, Bool, true, false, length, slice_range, slice_index_or, bit_and, zero, suc, Some, None, refl}
use Rattle.std.specs.Int.{bit_at}
use Rattle.std.proofs.Common.{arith, sym, ◌∙◌, ap, ⊎_elim, inl, inr}
use Rattle.std.proofs.lemmas.Bool.{cases_lt}
use Rattle.std.proofs.lemmas.Nat.Bits.{bit_at_and, bit_at-lt}
use Rattle.bitvec_base.specs.FoundLaws.{bit-set, set-bit}
use Rattle.bitvec_base.specs.Lists.{first_place, last_place}
use Rattle.bitvec_base.specs.ListsLaws.{first_place-found, first_place-none, last_place-found, last_place-none}
use Rattle.bitvec_base.specs.MaskLaws.{mask_of-has, mask_of-lacks}
use Rattle.bitvec_base.specs.Memory.{element_bits}
use Rattle.bitvec_base.specs.MemoryLaws.{bit_of_complement, get-element_bits, length-element_bits}
use Rattle.bitvec_base.specs.Order.{Permutes, mask_of}
use Rattle.bitvec_base.specs.PlacesLaws.{first_place-absent, first_place-before, first_place-below, first_place-bit, last_place-absent, last_place-after, last_place-below, last_place-bit}
use Rattle.bitvec_base.specs.WriteLaws.{length-slice_range, get-slice_range}
use Rattle.bitvec_cells.specs.Sought.{Shows}

-- a bit that is `want` is 1 in what is masked, and one that isn't is 0
wanted : (c d : ℕ) (want : Bool) → c < 2 → d + c ≡ 1 → (c == 1) ≡ want → (if want then c else d) ≡ 1
wanted zero d true h sum is = absurd cc
wanted zero d false h sum is = omega arith
wanted (suc zero) d true h sum is = refl
wanted (suc zero) d false h sum is = absurd cc
wanted (suc (suc c)) d want h sum is = absurd (omega arith)

is_wanted : (c d : ℕ) (want : Bool) → c < 2 → d + c ≡ 1 → (if want then c else d) ≡ 1 → (c == 1) ≡ want
is_wanted zero d true h sum one = absurd (omega arith)
is_wanted zero d false h sum one = refl
is_wanted (suc zero) d true h sum one = refl
is_wanted (suc zero) d false h sum one = absurd (omega arith)
is_wanted (suc (suc c)) d want h sum one = absurd (omega arith)

bit_if : (v w p : ℕ) (want : Bool) → bit_at (if want then v else w) p ≡ (if want then bit_at v p else bit_at w p)
bit_if v w p true = refl
bit_if v w p false = refl

both_ones : {c d : ℕ} → c < 2 → d < 2 → min c d ≡ 1 → (c ≡ 1) × (d ≡ 1)
both_ones hc hd one = (omega arith, omega arith)

pub sought-shows : (b : ℕ) (at : ℕ → ℕ → ℕ) → Permutes b (at b) → (v m from to : ℕ) (want : Bool) → from ≤ to → to ≤ b → v < 2 ^ b
    → m ≡ bit_and (if want then v else 2 ^ b - 1 - v) (mask_of (at b) from to) → Shows b at v m from to want
sought-shows b at p v m from to want order bound fits is =
    let seen : ℕ = if want then v else 2 ^ b - 1 - v in
    let mask : ℕ = mask_of (at b) from to in
    let met : (i : ℕ) → bit_at m (at b i) ≡ min (bit_at seen (at b i)) (bit_at mask (at b i)) = λ i. ap (λ (n : ℕ). bit_at n (at b i)) is ∙ bit_at_and seen mask (at b i) in
    let ones : (i : ℕ) → i < b → slice_index_or (element_bits b at m) i false ≡ true → (bit_at seen (at b i) ≡ 1) × (bit_at mask (at b i) ≡ 1) =
    λ i below set. both_ones (bit_at-lt seen (at b i)) (bit_at-lt mask (at b i)) (sym (met i) ∙ set-bit b at m i below set) in
    let flipped : (i : ℕ) → i < b → bit_at (2 ^ b - 1 - v) (at b i) + bit_at v (at b i) ≡ 1 = λ i below. bit_of_complement b v (at b i) fits (p.below i below) in
    record {
      has = λ i low high set.
          let below : i < b = omega arith in
          let one : bit_at seen (at b i) ≡ 1 = bit_if v (2 ^ b - 1 - v) (at b i) want ∙ wanted _ _ want (bit_at-lt v (at b i)) (flipped i below) (sym (get-element_bits b at v i false below) ∙ set) in
          let inside = mask_of-has b (at b) p from to bound i low high in
          let meet = met i in
          bit-set b at m i below (omega arith);
      low = λ i below set.
          ⊎_elim (λ (less : i < from). let out = mask_of-lacks b (at b) p from to order bound i below (inl less) in let one = (ones i below set).1 in absurd (omega arith))
          (λ (more : from ≤ i). more) (cases_lt i from);
      high = λ i below set.
          ⊎_elim (λ (less : i < to). less)
          (λ (more : to ≤ i). let out = mask_of-lacks b (at b) p from to order bound i below (inr more) in let one = (ones i below set).1 in absurd (omega arith)) (cases_lt i to);
      bit = λ i below set.
          get-element_bits b at v i false below ∙ is_wanted _ _ want (bit_at-lt v (at b i)) (flipped i below) (sym (bit_if v (2 ^ b - 1 - v) (at b i) want) ∙ (ones i below set).0);
    }

module _ {b : ℕ} {at : ℕ → ℕ → ℕ} {v m from to : ℕ} {want : Bool} (bound : to ≤ b) (shows : Shows b at v m from to want) where
  long_ones : length (element_bits b at m) ≡ b
  long_ones = length-element_bits b at m

  long_part : length (slice_range (element_bits b at v) from to) ≡ to - from
  long_part = let long = length-element_bits b at v in length-slice_range (element_bits b at v) from to (omega arith)

  -- a place of the part is one of the element
  part-set : (k : ℕ) → k < to - from → slice_index_or (slice_range (element_bits b at v) from to) k false ≡ want → slice_index_or (element_bits b at m) (from + k) false ≡ true
  part-set k inside here = shows.has (from + k) (omega arith) (omega arith) (sym (get-slice_range (element_bits b at v) from to k false (omega arith)) ∙ here)

  set-part : (i : ℕ) → i < b → slice_index_or (element_bits b at m) i false ≡ true → slice_index_or (slice_range (element_bits b at v) from to) (i - from) false ≡ want
  set-part i below set =
      let low = shows.low i below set in
      let high = shows.high i below set in
      let place : from + (i - from) ≡ i = omega arith in
      get-slice_range (element_bits b at v) from to (i - from) false (omega arith) ∙ ap (λ (k : ℕ). slice_index_or (element_bits b at v) k false) place ∙ shows.bit i below set

  pub first-sought_none : None ≡ first_place true (element_bits b at m) → None ≡ first_place want (slice_range (element_bits b at v) from to)
  first-sought_none none =
      let part = long_part in
      let long = long_ones in
      sym (first_place-none want (slice_range (element_bits b at v) from to) (λ k inside here. first_place-absent true (element_bits b at m) (sym none) (from + k) (omega arith) (part-set k (omega arith) here)))

  pub last-sought_none : None ≡ last_place true (element_bits b at m) → None ≡ last_place want (slice_range (element_bits b at v) from to)
  last-sought_none none =
      let part = long_part in
      let long = long_ones in
      sym (last_place-none want (slice_range (element_bits b at v) from to) (λ k inside here. last_place-absent true (element_bits b at m) (sym none) (from + k) (omega arith) (part-set k (omega arith) here)))

  pub first-sought_from : {i : ℕ} → Some i ≡ first_place true (element_bits b at m) → from ≤ i
  first-sought_from {i} found =
      let long = long_ones in
      let below = first_place-below true (element_bits b at m) i (sym found) in
      shows.low i (omega arith) (first_place-bit true (element_bits b at m) i (sym found))

  pub last-sought_from : {i : ℕ} → Some i ≡ last_place true (element_bits b at m) → from ≤ i
  last-sought_from {i} found =
      let long = long_ones in
      let below = last_place-below true (element_bits b at m) i (sym found) in
      shows.low i (omega arith) (last_place-bit true (element_bits b at m) i (sym found))

  pub first-sought : {i : ℕ} → Some i ≡ first_place true (element_bits b at m) → Some (i - from) ≡ first_place want (slice_range (element_bits b at v) from to)
  first-sought {i} found =
      let part = long_part in
      let long = long_ones in
      let inside = first_place-below true (element_bits b at m) i (sym found) in
      let below : i < b = omega arith in
      let set = first_place-bit true (element_bits b at m) i (sym found) in
      let low = shows.low i below set in
      let high = shows.high i below set in
      sym (first_place-found want (slice_range (element_bits b at v) from to) (i - from) (omega arith) (set-part i below set)
      (λ k before here. first_place-before true (element_bits b at m) i (from + k) (sym found) (omega arith) (part-set k (omega arith) here)))

  pub last-sought : {i : ℕ} → Some i ≡ last_place true (element_bits b at m) → Some (i - from) ≡ last_place want (slice_range (element_bits b at v) from to)
  last-sought {i} found =
      let part = long_part in
      let long = long_ones in
      let inside = last_place-below true (element_bits b at m) i (sym found) in
      let below : i < b = omega arith in
      let set = last_place-bit true (element_bits b at m) i (sym found) in
      let low = shows.low i below set in
      let high = shows.high i below set in
      sym (last_place-found want (slice_range (element_bits b at v) from to) (i - from) (omega arith) (set-part i below set)
      (λ k after within here. last_place-after true (element_bits b at m) i (from + k) (sym found) (omega arith) (omega arith) (part-set k (omega arith) here)))
