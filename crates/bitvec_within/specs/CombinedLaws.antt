-- One range of a list of bits combined with another: its length, its bits, and a stretch after the other.
use Rattle.std.specs.Prelude.{◌≡◌, ℕ, ◌+◌, ◌-◌, ◌<◌, ◌≤◌, ◌⊎◌, Bool, false, List, length, slice_index_or, slice_range}
use Rattle.std.proofs.Common.{arith, ⊎_elim}
use Rattle.std.proofs.lemmas.Bool.{cases_lt}
use Rattle.std.proofs.lemmas.List.{places, same_lists}
use Rattle.bitvec_base.specs.Lists.{combined}
use Rattle.bitvec_base.specs.ListsLaws.{get-combined, length-combined}
use Rattle.bitvec_base.specs.Window.{write_at}
use Rattle.bitvec_within.specs.Combined.{combined_within}

module _ (f : Bool → Bool → Bool) (from to dest : ℕ) (list : List Bool) where
  -- Combining a range of a list leaves the list as long as before.
  pub length-combined_within : from ≤ to → dest + (to - from) ≤ length list → length (combined_within f from to dest list) ≡ length list
  unfolding combined_within write_at
  length-combined_within order room = grind (arith, places, length-combined)

  -- A bit before the place `dest` is as before.
  pub get-combined_within_below : (k : ℕ) (d : Bool) → from ≤ to → dest + (to - from) ≤ length list → k < dest → slice_index_or (combined_within f from to dest list) k d ≡ slice_index_or list k d
  unfolding combined_within write_at
  get-combined_within_below k d order room below = grind (arith, places)

  -- A bit that is written is `f` of its old value and of the old bit at its index in the first range.
  pub get-combined_within_inside : (k : ℕ) (d : Bool) → from ≤ to → to ≤ length list → dest + (to - from) ≤ length list → dest ≤ k → k < dest + (to - from)
      → slice_index_or (combined_within f from to dest list) k d ≡ f (slice_index_or list k false) (slice_index_or list (from + (k - dest)) false)
  unfolding combined_within write_at
  get-combined_within_inside k d order source room low high = grind (arith, places, get-combined, length-combined)

  -- A bit behind the range that is written is as before.
  pub get-combined_within_above : (k : ℕ) (d : Bool) → from ≤ to → dest + (to - from) ≤ length list → dest + (to - from) ≤ k → slice_index_or (combined_within f from to dest list) k d ≡ slice_index_or list k d
  unfolding combined_within write_at
  get-combined_within_above k d order room above = grind (arith, places, length-combined)

  -- The range that is written has its old bits combined with those of the first range.
  pub range-combined_within : from ≤ to → dest + (to - from) ≤ length list
      → slice_range (combined_within f from to dest list) dest (dest + (to - from)) ≡ combined f (slice_range list dest (dest + (to - from))) (slice_range list from to)
  unfolding combined_within write_at
  range-combined_within order room = same_lists _ _ (grind (arith, places, length-combined)) (λ k d inside. grind (arith, places, length-combined))

  -- A range that ends at or before the place `dest` is as before.
  pub range-combined_within_before : (a e : ℕ) → from ≤ to → dest + (to - from) ≤ length list → e ≤ dest → slice_range (combined_within f from to dest list) a e ≡ slice_range list a e
  unfolding combined_within write_at
  range-combined_within_before a e order room before = same_lists _ _ (grind (arith, places, length-combined)) (λ k d inside. grind (arith, places, length-combined))

  -- A range that begins behind the range that is written is as before.
  pub range-combined_within_after : (a e : ℕ) → from ≤ to → dest + (to - from) ≤ length list → dest + (to - from) ≤ a → e ≤ length list → slice_range (combined_within f from to dest list) a e ≡ slice_range list a e
  unfolding combined_within write_at
  range-combined_within_after a e order room after end = same_lists _ _ (grind (arith, places, length-combined)) (λ k d inside. grind (arith, places, length-combined))

-- a bit after a range was combined
ruleset bits = (get-combined_within_below, get-combined_within_inside, get-combined_within_above, length-combined_within)

-- Combining with a range of no bits leaves the list as it was.
pub combined_within-none : (f : Bool → Bool → Bool) (from to dest : ℕ) (list : List Bool) → from ≡ to → dest ≤ length list → combined_within f from to dest list ≡ list
combined_within-none f from to dest list none fits = same_lists _ _ (grind (arith, bits)) (λ k d inside. ⊎_elim (λ below. grind (arith, bits)) (λ above. grind (arith, bits)) (cases_lt k dest))

module _ (f : Bool → Bool → Bool) (list : List Bool) (from dest n m : ℕ) (source : from + (n + m) ≤ length list) (room : dest + (n + m) ≤ length list) where
  -- Combining `n` bits and then the `m` behind them is combining all, where the first writes leave the second ones' sources.
  pub combined_within-next : (dest ≤ from) ⊎ (from + (n + m) ≤ dest) → combined_within f (from + n) (from + n + m) (dest + n) (combined_within f from (from + n) dest list) ≡ combined_within f from (from + (n + m)) dest list
  combined_within-next kept =
      same_lists _ _ (grind (arith, bits)) (λ k d inside.
      ⊎_elim (λ below. grind (arith, bits))
      (λ low. ⊎_elim (λ early. grind (arith, bits))
      (λ late. ⊎_elim (λ high. ⊎_elim (λ before. grind (arith, bits)) (λ behind. grind (arith, bits)) kept)
      (λ above. grind (arith, bits)) (cases_lt k (dest + (n + m)))) (cases_lt k (dest + n))) (cases_lt k dest))

  -- Combining the `m` bits behind `n` bits and then those is combining all, where the destination isn't before the source.
  pub combined_within-before : from ≤ dest → combined_within f from (from + n) dest (combined_within f (from + n) (from + n + m) (dest + n) list) ≡ combined_within f from (from + (n + m)) dest list
  combined_within-before kept =
      same_lists _ _ (grind (arith, bits)) (λ k d inside.
      ⊎_elim (λ below. grind (arith, bits))
      (λ low. ⊎_elim (λ early. grind (arith, bits))
      (λ late. ⊎_elim (λ high. grind (arith, bits)) (λ above. grind (arith, bits)) (cases_lt k (dest + (n + m)))) (cases_lt k (dest + n))) (cases_lt k dest))
