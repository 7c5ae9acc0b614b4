-- The runs of taken places, and how they are printed.
use Rattle.std.specs.Prelude.{◌≡◌, ℕ, ◌-◌, ◌<◌, Bool, false, List, [], ◌∷◌, ◌++◌, length, slice_index_or, Option, codes}
use Rattle.std.specs.Fmt.{decimal}
use Rattle.std.specs.Io.KnownBytes.{Appends}
use Rattle.std.specs.List.{flat_map}
use Rattle.std.specs.declared.ops.Range.{Range}
use Rattle.bitvec.specs.Pieces.{range_of}
use Rattle.slots.specs.Places.{IsFree, IsTaken}

-- the first run of taken places from a place on: those before it are free, it has some, and it goes on as far as it can
pub record IsNextRun (map : List Bool) (from : ℕ) (run : Range ℕ) : Type 0 where
  pub before : IsFree map (range_of from run.start)
  pub some : run.start < run.end
  pub taken : IsTaken map run
  pub whole : slice_index_or map run.end false ≡ false

-- these are the runs from a place on, in their order, and behind them all are free
abbrev pub AreRuns : List Bool → ℕ → List (Range ℕ) → Type 0
AreRuns map from [] = IsFree map (range_of from (length map))
AreRuns map from (run ∷ runs) = IsNextRun map from run × AreRuns map run.end runs

-- the first place and how many there are, on a line
abbrev pub range_text : Range ℕ → List ℕ
range_text range = decimal range.start ++ codes " " ++ decimal (range.end - range.start) ++ codes "\n"

-- all runs of the map were printed, a line each
pub record ShowsRuns (map : List Bool) (before after : Option (List ℕ)) : Type 0 where
  pub runs : List (Range ℕ)
  pub all : AreRuns map 0 runs
  pub printed : Appends before after (flat_map range_text runs)
