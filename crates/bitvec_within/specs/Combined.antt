-- One range of a list of bits combined with another.
use Rattle.std.specs.Prelude.{ℕ, ◌+◌, ◌-◌, Bool, List, slice_range}
use Rattle.bitvec_base.specs.Lists.{combined}
use Rattle.bitvec_base.specs.Window.{write_at}

-- the list with as many bits from `dest` on as stand from `from` up to `to` combined with these by f
unfoldable pub combined_within : (Bool → Bool → Bool) → ℕ → ℕ → ℕ → List Bool → List Bool
combined_within f from to dest list = write_at list dest (combined f (slice_range list dest (dest + (to - from))) (slice_range list from to))
