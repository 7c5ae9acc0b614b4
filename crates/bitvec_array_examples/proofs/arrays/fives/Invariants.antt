use Rattle.std.proofs.Common.{◌≡◌, ℕ, ◌+◌, ◌*◌, ◌<◌, true}
use Rattle.bitvec.specs.Arrays.{msb0_bits}
use Rattle.bitvec.specs.Ranges.{number_in}
use Rattle.bitvec_array_examples.proofs.arrays.fives.Given as goal

abbrev pub invariant-loop-step : goal.invariant-loop-step
invariant-loop-step l = (k : ℕ) → k < l.step → number_in true true 8 (msb0_bits 8 l.bytes) (5 * k) (5 * k + 5) ≡ k
