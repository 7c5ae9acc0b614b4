-- Remainders of integers by powers of two.
use Rattle.std.specs.Prelude.{◌≡◌, ℕ, ◌+◌, ◌-◌, ◌*◌, ◌/◌, ◌%◌, ◌^◌, ◌<◌, ◌≤◌, ℤ, pos, negsuc}
use Rattle.std.proofs.Common.{arith, ◌∙◌, ap}
use Rattle.std.proofs.lemmas.Nat.{mod-mul-add, mod-pow-add, mod_below, pow-add, pow_pos}
use Rattle.bitvec_numbers.specs.Integers.{remainder_of}

-- the number of the low n of j + n bits
low_bits : (v j n : ℕ) → v % 2 ^ (j + n) % 2 ^ n ≡ v % 2 ^ n
low_bits v j n = ap (λ (m : ℕ). m % 2 ^ n) (mod-pow-add v j n) ∙ mod-mul-add (v / 2 ^ n % 2 ^ j) (2 ^ n) (v % 2 ^ n) (mod_below v (2 ^ n) (pow_pos n))

-- what is left of a power of two below a sum of a multiple and a remainder
left_below : (h l j n q : ℕ) → l < 2 ^ n → q + h + 1 ≡ 2 ^ j → 2 ^ (j + n) - 1 - (h * 2 ^ n + l) ≡ q * 2 ^ n + (2 ^ n - 1 - l)
left_below h l j n q below all =
    let power = pow-add 2 j n in
    let product : q * 2 ^ n + h * 2 ^ n + 2 ^ n ≡ 2 ^ j * 2 ^ n = (let split : q * 2 ^ n + h * 2 ^ n + 2 ^ n ≡ (q + h + 1) * 2 ^ n = omega arith in split) ∙ ap (λ (x : ℕ). x * 2 ^ n) all in
    omega arith

low_left : (v j n : ℕ) → (2 ^ (j + n) - 1 - v % 2 ^ (j + n)) % 2 ^ n ≡ 2 ^ n - 1 - v % 2 ^ n
low_left v j n =
    let high = mod_below (v / 2 ^ n) (2 ^ j) (pow_pos j) in
    let low = mod_below v (2 ^ n) (pow_pos n) in
    ap (λ (m : ℕ). (2 ^ (j + n) - 1 - m) % 2 ^ n) (mod-pow-add v j n)
    ∙ ap (λ (m : ℕ). m % 2 ^ n) (left_below (v / 2 ^ n % 2 ^ j) (v % 2 ^ n) j n (2 ^ j - 1 - v / 2 ^ n % 2 ^ j) low (omega arith))
    ∙ mod-mul-add (2 ^ j - 1 - v / 2 ^ n % 2 ^ j) (2 ^ n) (2 ^ n - 1 - v % 2 ^ n) (omega arith)

by_sum : (b j n : ℕ) (z : ℤ) → b ≡ j + n → remainder_of b z % 2 ^ n ≡ remainder_of n z
by_sum b j n (pos v) is = rw is (low_bits v j n)
by_sum b j n (negsuc v) is = rw is (low_left v j n)

-- The remainder by `2^n` of an integer's remainder by a greater power of two is the integer's remainder by `2^n`.
pub remainder-narrow : (b n : ℕ) (z : ℤ) → n ≤ b → remainder_of b z % 2 ^ n ≡ remainder_of n z
remainder-narrow b n z narrow = by_sum b (b - n) n z (omega arith)
