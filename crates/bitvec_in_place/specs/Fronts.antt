-- The front of a list of bits, as of an array that has room for more.
use Rattle.std.specs.Prelude.{ℕ, Bool, List, take}

-- `front_bits list n` is the first `n` bits of a list, as of an array that has room for more.
unfoldable pub front_bits : List Bool → ℕ → List Bool
front_bits list n = take n list
