-- The bits of an array of unsigned integers, for clauses at concrete types.
use Rattle.std.specs.Prelude.{ℕ, ◌-◌, Bool, List, map}
use Rattle.std.specs.Prelude.{bit_xor}
use Rattle.bitvec_base.specs.Memory.{memory_bits}

-- `lsb0_bits b words` is the bits of words of `b` bits under `Lsb0`: the lowest bit of the first word comes first.
abbrev pub lsb0_bits : ℕ → List ℕ → List Bool
lsb0_bits b words = memory_bits b (λ _ i. i) (map (λ x. x) words)

-- `msb0_bits b words` is the bits of words of `b` bits under `Msb0`: the highest bit of the first word comes first.
abbrev pub msb0_bits : ℕ → List ℕ → List Bool
msb0_bits b words = memory_bits b (λ w i. w - 1 - i) (map (λ x. x) words)

-- `hilo_bits b words` is the bits of words of `b` bits under `HiLo`: of each eight bits the higher four come first.
abbrev pub hilo_bits : ℕ → List ℕ → List Bool
hilo_bits b words = memory_bits b (λ _ i. bit_xor i 4) (map (λ x. x) words)
