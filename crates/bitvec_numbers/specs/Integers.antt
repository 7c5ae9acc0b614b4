-- Integers as numbers of n bits, and back.
use Rattle.std.specs.Prelude.{ℕ, ◌-◌, ◌%◌, ◌^◌, Bool, ◌&&◌, nat_le, if◌then◌else◌, ℤ, pos, negsuc, ◌-ℤ◌}

-- the integer that n bits with the number v stand for: v itself, or less 2 ^ n where the type is signed and the highest bit is one
abbrev pub integer_of : Bool → ℕ → ℕ → ℤ
integer_of signed n v = if signed && nat_le (2 ^ (n - 1)) v then pos v -ℤ pos (2 ^ n) else pos v

-- the remainder of an integer by 2 ^ n, from 0 up; `negsuc v` is -1 - v
abbrev pub remainder_of : ℕ → ℤ → ℕ
remainder_of n (pos v) = v % 2 ^ n
remainder_of n (negsuc v) = 2 ^ n - 1 - v % 2 ^ n
