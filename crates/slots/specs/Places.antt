-- A map is a list of truth values, a place each: true is taken.
use Rattle.std.specs.Prelude.{◌≡◌, ℕ, ◌+◌, ◌<◌, ◌≤◌, Bool, true, false, List, length, slice_index_or}
use Rattle.std.specs.declared.ops.Range.{Range}
use Rattle.bitvec.specs.Fits.{HasNoRun, IsFirstRun}
use Rattle.bitvec.specs.Indices.{HasRange}

-- the places of the range are all there, and each has this bit
pub record Holds (bit : Bool) (map : List Bool) (range : Range ℕ) : Type 0 where
  pub there : HasRange range (length map)
  pub each : (place : ℕ) → range.start ≤ place → place < range.end → slice_index_or map place false ≡ bit

abbrev pub IsFree : List Bool → Range ℕ → Type 0
IsFree map range = Holds false map range

abbrev pub IsTaken : List Bool → Range ℕ → Type 0
IsTaken map range = Holds true map range

-- the first `count` neighbouring places that are free
pub record IsFirstFit (map : List Bool) (count : ℕ) (range : Range ℕ) : Type 0 where
  pub run : IsFirstRun false map count range.start
  pub long : range.end ≡ range.start + count

-- nowhere are `count` neighbouring places free
abbrev pub HasNoFit : List Bool → ℕ → Type 0
HasNoFit map count = HasNoRun false map count
