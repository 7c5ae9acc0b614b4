-- What a copy, an exchange or a combination of ranges of a slice asks of it.
use Rattle.std.specs.Prelude.{ℕ, ◌*◌, ◌≤◌}
use Rattle.bitvec_base.specs.Lists.{FitsWithin}
use Rattle.bitvec_base.specs.Window.{max_bits}

-- `HasRoom b count from to dest` says that `count` elements of `b` bits have at most `max_bits` bits, and that `from..to` and as many from
-- `dest` on lie in them.
pub record HasRoom (b count from to dest : ℕ) : Type 0 where
  pub fits : b * count ≤ max_bits
  pub within : FitsWithin from to dest (b * count)
