-- How many bits of a list are 1, and how many 0, in short.
use Rattle.std.specs.Prelude.{ℕ, Bool, not, List, count_by}

-- The number of bits of a list that are 1: `bitvec`'s `count_ones`.
abbrev pub ones_of : List Bool → ℕ
ones_of bits = count_by (λ bit. bit) bits

-- The number of bits of a list that are 0: `bitvec`'s `count_zeros`.
abbrev pub zeros_of : List Bool → ℕ
zeros_of bits = count_by not bits
