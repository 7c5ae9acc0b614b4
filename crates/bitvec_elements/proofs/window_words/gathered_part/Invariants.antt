use Rattle.std.proofs.Common.{◌≡◌, ◌*◌, take}
use Rattle.bitvec_base.specs.Memory.{element_bits}
use Rattle.bitvec_words.specs.ShortWindow.{padded}
use Rattle.bitvec_elements.proofs.window_words.gathered_part.Given as goal

abbrev pub invariant-loop-step : goal.invariant-loop-step
invariant-loop-step g l = element_bits 64 g.W.BitOrder.at l.word ≡ padded 64 (take (l.step * 8) (element_bits g.T.BitStore.BITS g.O.BitOrder.at (g.T.BitStore.value l.element)))
