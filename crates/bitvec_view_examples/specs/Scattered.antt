-- A bit order of the tests' own, and why it is lawful.
use Rattle.std.specs.Prelude.{ℕ, ◌+◌, ◌*◌, ◌%◌}
use Rattle.std.proofs.Common.{arith}
use Rattle.bitvec.specs.Order.{Permutes}
use Rattle.bitvec.specs.Width.{IsWidth}
use Rattle.bitvec.specs.WidthLaws.{at_each_width}

-- index i of an element of b bits is bit (5 * i + 3) mod b
abbrev pub scattered : ℕ → ℕ → ℕ
scattered b i = (5 * i + 3) % b

-- 5 has no divisor in common with a width
pub scattered_permutes : (b : ℕ) → IsWidth b → Permutes b (scattered b)
scattered_permutes =
    at_each_width (λ b. Permutes b (scattered b))
    (record { below = λ i low. omega arith; apart = λ i j low high same. omega arith })
    (record { below = λ i low. omega arith; apart = λ i j low high same. omega arith })
    (record { below = λ i low. omega arith; apart = λ i j low high same. omega arith })
    (record { below = λ i low. omega arith; apart = λ i j low high same. omega arith })
    (record { below = λ i low. omega arith; apart = λ i j low high same. omega arith })
