use Rattle.std.proofs.Common.{◌≡◌, ℕ, ◌-◌, ◌^◌, ℤ, pos, negsuc, ◌-ℤ◌, ◌≤ℤ◌, ◌<ℤ◌, FitsSigned, bit_and, arith, ap, nat_abs}
use Rattle.std.specs.Int.{w128}
use Rattle.std.proofs.lemmas.Int.{ints, to_z-of_z}
use Rattle.std.proofs.lemmas.Nat.{and_mask}
use Rattle.bitvec_numbers.specs.Integers.{remainder_of}
use Rattle.bitvec_numbers.proofs.integers.reduced.Goals as goal

masked : (z : ℤ) (n : ℕ) → pos 0 ≤ℤ z → bit_and (nat_abs z) (2 ^ n - 1) ≡ remainder_of n z
masked (pos v) n low = and_mask v n
masked (negsuc v) n low = absurd (omega (arith, ints))

before_zero : (v : ℕ) → negsuc 0 -ℤ negsuc v ≡ pos v
before_zero v = omega (arith, ints)

masked_below : (z : ℤ) (n : ℕ) → z <ℤ pos 0 → 2 ^ n - 1 - bit_and (nat_abs (negsuc 0 -ℤ z)) (2 ^ n - 1) ≡ remainder_of n z
masked_below (pos v) n below = absurd (omega (arith, ints))
masked_below (negsuc v) n below = rw (before_zero v) (ap (λ (m : ℕ). 2 ^ n - 1 - m) (and_mask v n))

fits_below : (z : ℤ) → z <ℤ pos 0 → FitsSigned w128 z → FitsSigned w128 (negsuc 0 -ℤ z)
fits_below (pos v) below fits = absurd (omega (arith, ints))
fits_below (negsuc v) below fits = rw (before_zero v) record { sfits = fits.sfits }

pub returns-then-value-ge0 : goal.returns-then-value-ge0
returns-then-value-ge0 c =
    let test = rw (to_z-of_z _ _ c.ranges.value) at c.if-value-ge0.true in
    let low : pos 0 ≤ℤ c.args.value = omega (arith, ints) in
    rw (to_z-of_z _ _ c.ranges.value, c.greatest-greatest.ensures) (masked _ _ low)

pub returns : goal.returns
returns c =
    let test = rw (to_z-of_z _ _ c.ranges.value) at c.if-value-ge0.false in
    let below : c.args.value <ℤ pos 0 = omega (arith, ints) in
    rw (to_z-of_z _ _ c.ranges.value, to_z-of_z _ _ (fits_below _ below c.ranges.value), c.greatest-greatest.ensures) (masked_below _ _ below)
