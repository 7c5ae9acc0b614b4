-- The runs of one bit at the beginning and the end of a list, and where the other bit stands first and last.
use Rattle.std.specs.Prelude.{◌≡◌, ◌≢◌, ℕ, ◌+◌, ◌-◌, ◌<◌, ◌≤◌, Bool, true, false, not, cond, List, length, reverse, slice_index_or, Some, None, refl}
use Rattle.std.specs.List.{prefix_len, suffix_len}
use Rattle.std.specs.Option.{unwrap_or}
use Rattle.std.proofs.Common.{◌⊎◌, arith, inl, inr, sym, ◌∙◌, ap, ⊎_elim}
use Rattle.std.proofs.lemmas.Bool.{cases_lt}
use Rattle.std.proofs.lemmas.List.{get_or-reverse, length-reverse}
use Rattle.std.proofs.lemmas.List.Sums.{prefix_len-le-length, prefix_len_passes, prefix_len_stops}
use Rattle.bitvec_base.specs.Lists.{first_place, last_place}
use Rattle.bitvec_base.specs.ListsLaws.{first_place-found, first_place-none, last_place-found, last_place-none}

-- the test for the bit that is not `wanted`
abbrev pub is_other : Bool → Bool → Bool
is_other wanted bit = cond wanted (not bit) bit

passes_not : (b c : Bool) → is_other c b ≡ true → b ≢ c
passes_not true true e = λ h. cc
passes_not false false e = λ h. cc
passes_not true false e = λ h. cc
passes_not false true e = λ h. cc

stops_at : (b c : Bool) → is_other c b ≡ false → b ≡ c
stops_at true true e = refl
stops_at false false e = refl
stops_at true false e = cc
stops_at false true e = cc

module _ (wanted : Bool) (list : List Bool) where
  abbrev p : Bool → Bool
  p = is_other wanted

  not_before : (k : ℕ) → k < prefix_len p list → slice_index_or list k false ≢ wanted
  not_before k below = passes_not _ _ (prefix_len_passes p list k false below)

  -- the run of the other bit at the beginning ends at the first place
  pub first_run : unwrap_or (first_place wanted list) (length list) ≡ prefix_len (is_other wanted) list
  first_run =
      ⊎_elim
      (λ inside. ap (λ o. unwrap_or o (length list)) (first_place-found wanted list (prefix_len p list) inside (stops_at _ _ (prefix_len_stops p list false inside)) not_before))
      (λ whole.
      let bound = prefix_len-le-length p list in
      let same : length list ≡ prefix_len p list = omega arith in
      ap (λ o. unwrap_or o (length list)) (first_place-none wanted list (λ k below. not_before k (omega arith))) ∙ same)
      (cases_lt (prefix_len p list) (length list))

  -- the bit that stands k places before the end
  from_end : (k : ℕ) → k < length list → p (slice_index_or (reverse list) k false) ≡ p (slice_index_or list (length list - 1 - k) false)
  from_end k below = ap p (get_or-reverse list k false below)

  not_after : (k : ℕ) → k < length list → length list ≤ k + suffix_len p list → slice_index_or list k false ≢ wanted
  not_after k below behind =
      let back : length list - 1 - (length list - 1 - k) ≡ k = omega arith in
      passes_not _ _
      (ap (λ i. p (slice_index_or list i false)) (sym back)
      ∙ sym (from_end (length list - 1 - k) (omega arith))
      ∙ prefix_len_passes p (reverse list) (length list - 1 - k) false (omega arith))

  -- the run of the other bit at the end begins behind the last place
  pub last_run : (last_place wanted list ≡ None) × (suffix_len (is_other wanted) list ≡ length list) ⊎ (last_place wanted list ≡ Some (length list - 1 - suffix_len (is_other wanted) list)) × (suffix_len (is_other wanted) list < length list)
  last_run =
      let long = length-reverse list in
      let bound = prefix_len-le-length p (reverse list) in
      ⊎_elim
      (λ inside.
      inr (
        last_place-found wanted list (length list - 1 - suffix_len p list) (omega arith) (stops_at _ _ (sym (from_end (suffix_len p list) inside) ∙ prefix_len_stops p (reverse list) false (omega arith))) (λ k behind below. not_after k below (omega arith)),
        inside,
      ))
      (λ whole.
      inl (
        last_place-none wanted list (λ k below. not_after k below (omega arith)),
        omega arith,
      ))
      (cases_lt (suffix_len p list) (length list))
