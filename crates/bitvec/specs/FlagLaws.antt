-- A truth value as a number, as `u8::from` makes one and a number of one bit is one.
use Rattle.std.specs.Prelude.{◌≡◌, ℕ, ◌%◌, ◌^◌, ◌<◌, ◌==◌, zero, suc, Bool, false, true, refl}
use Rattle.std.specs.Int.{from_bool}
use Rattle.std.proofs.Common.{arith}

-- The number of a truth value is below 2.
pub flag-below : (flag : Bool) → from_bool flag < 2
flag-below true = omega arith
flag-below false = omega arith

-- A number of one bit holds the number of a truth value.
pub flag-fits : (flag : Bool) → from_bool flag % 2 ^ 1 ≡ from_bool flag
flag-fits true = refl
flag-fits false = refl

-- A truth value is whether its number is 1.
pub flag-back : (flag : Bool) → (from_bool flag == 1) ≡ flag
flag-back true = refl
flag-back false = refl

-- A number below 2 is that of whether it is 1.
pub flag-told : (n : ℕ) → n < 2 → from_bool (n == 1) ≡ n
flag-told zero below = refl
flag-told (suc zero) below = refl
flag-told (suc (suc n)) below = absurd (omega arith)

-- Two truth values with one number are equal.
pub flag-same : (flag other : Bool) → from_bool flag ≡ from_bool other → flag ≡ other
flag-same true true same = refl
flag-same false false same = refl
flag-same true false same = absurd (omega arith)
flag-same false true same = absurd (omega arith)
