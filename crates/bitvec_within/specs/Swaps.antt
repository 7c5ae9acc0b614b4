-- Two ranges of a list exchanged.
use Rattle.std.specs.Prelude.{ℕ, ◌+◌, ◌-◌, ◌≤◌, ◌⊎◌, List, slice_range}
use Rattle.bitvec_base.specs.Window.{write_at}

-- the list with its values from `from` up to `to` and as many from `dest` on exchanged
unfoldable pub swapped_within : {X : Type 0} → ℕ → ℕ → ℕ → List X → List X
swapped_within from to dest list = write_at (write_at list from (slice_range list dest (dest + (to - from)))) dest (slice_range list from to)

-- The range from `from` up to `to` and as many values from `dest` on have no place in common.
abbrev pub LieApart : ℕ → ℕ → ℕ → Type 0
LieApart from to dest = (to ≤ dest) ⊎ (dest + (to - from) ≤ from)
