-- Chunks of five bits, from the first bit of the bytes on, the highest bit of each byte first.
use Rattle.std.specs.Prelude.{◌≡◌, ℕ, ◌+◌, ◌-◌, ◌*◌, ◌%◌, ◌^◌, ◌<◌, List, length, min, true}
use Rattle.bitvec.specs.Arrays.{msb0_bits}
use Rattle.bitvec.specs.Ranges.{number_in}

-- where chunk k ends: the last one has as many bits as there are
abbrev pub end_of : List ℕ → ℕ → ℕ
end_of bytes k = min (8 * length bytes) (5 * k + 5)

-- each chunk that begins before `bound` has its number, as far as it fits
abbrev pub HaveNumbers : ℕ → List ℕ → Type 0
HaveNumbers bound bytes = (k : ℕ) → 5 * k < bound → number_in true true 8 (msb0_bits 8 bytes) (5 * k) (end_of bytes k) ≡ k % 2 ^ (end_of bytes k - 5 * k)
