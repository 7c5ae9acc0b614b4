-- How many first bits two lists have in common.
use Rattle.std.specs.Prelude.{◌≢◌, ℕ, ◌<◌, ◌≤◌, min, Bool, false, List, length, slice_index_or}
use Rattle.bitvec_base.specs.CompareLaws.{SameBelow}

-- The two lists have the same bits below `n`, and differ at `n`, or one of them ends there.
pub record DiffersFrom (xs ys : List Bool) (n : ℕ) : Type 0 where
  pub same : SameBelow xs ys n
  pub bound : n ≤ min (length xs) (length ys)
  pub differs : n < min (length xs) (length ys) → slice_index_or xs n false ≢ slice_index_or ys n false
