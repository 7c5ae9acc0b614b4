-- The bits of a list that a test of the index and the bit keeps: a word for callers of `retain`.
use Rattle.std.specs.Prelude.{ℕ, ◌+◌, Bool, cond, List, [], ◌∷◌}

-- the bits of a list whose first one has the index `from`, of which a test of the index and the bit is true
abbrev pub kept_by : (ℕ → Bool → Bool) → ℕ → List Bool → List Bool
kept_by test from [] = []
kept_by test from (bit ∷ list) = cond (test from bit) (bit ∷ kept_by test (from + 1) list) (kept_by test (from + 1) list)
