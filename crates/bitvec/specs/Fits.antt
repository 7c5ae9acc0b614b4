-- Runs of one bit: so many neighbouring places of a list that all have it.
use Rattle.std.specs.Prelude.{◌≡◌, ℕ, ◌+◌, ◌<◌, ◌≤◌, Bool, false, List, length, slice_index_or}

-- `IsRun bit list n start` says that the `n` places of a list from `start` on are there, and that each has the bit.
pub record IsRun (bit : Bool) (list : List Bool) (n start : ℕ) : Type 0 where
  pub inside : start + n ≤ length list
  pub same : (k : ℕ) → start ≤ k → k < start + n → slice_index_or list k false ≡ bit

-- `HasNoRunBefore bit list n end` says that no run of `n` places begins before `end`.
pub record HasNoRunBefore (bit : Bool) (list : List Bool) (n end : ℕ) : Type 0 where
  pub none : (start : ℕ) → start < end → ¬ IsRun bit list n start

-- `HasNoRun bit list n` says that a list has no run of `n` places.
pub record HasNoRun (bit : Bool) (list : List Bool) (n : ℕ) : Type 0 where
  pub none : (start : ℕ) → ¬ IsRun bit list n start

-- `IsFirstRun bit list n start` says that the first run of `n` places begins at `start`.
pub record IsFirstRun (bit : Bool) (list : List Bool) (n start : ℕ) : Type 0 where
  pub run : IsRun bit list n start
  pub first : HasNoRunBefore bit list n start
