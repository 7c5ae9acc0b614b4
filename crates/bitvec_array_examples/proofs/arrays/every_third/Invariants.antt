use Rattle.std.proofs.Common.{◌≡◌, ℕ, ◌*◌, ◌<◌, false, true, slice_index_or}
use Rattle.bitvec.specs.Arrays.{msb0_bits}
use Rattle.bitvec_array_examples.proofs.arrays.every_third.Given as goal

abbrev pub invariant-loop-step : goal.invariant-loop-step
invariant-loop-step l = (k : ℕ) → k < l.step → slice_index_or (msb0_bits 16 l.words) (3 * k) false ≡ true
