-- How many pieces are left of a walk, once some were passed.
use Rattle.std.specs.Prelude.{◌≡◌, ℕ, ◌+◌, ◌-◌, min, nat_lt, true}
use Rattle.std.proofs.Common.{arith}
use Rattle.std.proofs.lemmas.Bool.Decides.{nat_tests}

pub left-behind : (front back count : ℕ) → nat_lt (front + min count (back - front)) back ≡ nat_lt count (back - front)
left-behind front back count = grind (arith, nat_tests)

pub left-before : (front back count : ℕ) → nat_lt front (back - min count (back - front)) ≡ nat_lt count (back - front)
left-before front back count = grind (arith, nat_tests)

pub passed-all : (count left : ℕ) → nat_lt count left ≡ true → min count left ≡ count
passed-all count left below = grind (arith, nat_tests)
