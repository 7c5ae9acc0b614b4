-- Leaves of 64 pages. A page is a bit, 1 where it is taken.
use Rattle.std.specs.Prelude.{◌≡◌, ℕ, ◌+◌, ◌*◌, ◌<◌, Bool, false, List, length, slice_index_or}
use Rattle.std.specs.List.{list_all}
use Rattle.bitvec.specs.Ranges.{bits_in}

-- the pages of leaf i
abbrev pub leaf_of : List Bool → ℕ → List Bool
leaf_of pages i = bits_in pages (64 * i) (64 * i + 64)

-- 4096 pages, and a summary that has a 0 exactly where a leaf has a free page
pub record IsSummed (pages summary : List Bool) : Type 0 where
  pub pages_are : length pages ≡ 4096
  pub leaves_are : length summary ≡ 64
  pub each : (i : ℕ) → i < 64 → slice_index_or summary i false ≡ list_all (λ bit. bit) (leaf_of pages i)
