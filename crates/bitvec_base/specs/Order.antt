-- Lawful bit orders, and the masks of their indices.
use Rattle.std.specs.Prelude.{◌≡◌, ℕ, ◌-◌, ◌^◌, ◌<◌, map, sum}
use Rattle.std.specs.List.{range_with_len}

-- The order `at` gives each index below `b` a bit number below `b`, no two the same, as a lawful `BitOrder` must.
pub record Permutes (b : ℕ) (at : ℕ → ℕ) : Type 0 where
  pub below : (i : ℕ) → i < b → at i < b
  pub apart : (i j : ℕ) → i < b → j < b → at i ≡ at j → i ≡ j

-- The number whose bits are exactly those that the order `at` gives to the indices `from..to`.
unfoldable pub mask_of : (ℕ → ℕ) → ℕ → ℕ → ℕ
mask_of at from to = sum (map (λ i. 2 ^ at i) (range_with_len from (to - from)))
