use Rattle.std.proofs.Common.{◌≡◌, ℕ, ◌+◌, ◌*◌, ◌<◌, true}
use Rattle.bitvec.specs.Arrays.{msb0_bits}
use Rattle.bitvec.specs.Ranges.{number_in}
use Rattle.bitvec_code_examples.proofs.bytes.have_same_digits.Given as goal

abbrev pub invariant-loop-place : goal.invariant-loop-place
invariant-loop-place l = (k : ℕ) → k < l.place → number_in true true 8 (msb0_bits 8 l.left) (6 * k) (6 * k + 6) ≡ number_in true true 8 (msb0_bits 8 l.right) (6 * k) (6 * k + 6)
