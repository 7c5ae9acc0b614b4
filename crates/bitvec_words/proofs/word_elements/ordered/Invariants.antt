use Rattle.std.proofs.Common.{◌≡◌}
use Rattle.std.specs.Prelude.{ℕ, List}
use Rattle.bitvec_base.specs.Memory.{element_bits, list_in}
use Rattle.bitvec_words.specs.Elements.{HasElements, elements_window}
use Rattle.bitvec_words.specs.ShortWindow.{padded}
use Rattle.bitvec_words.proofs.word_elements.ordered.Given as goal

abbrev pub invariant-loop-step : goal.invariant-loop-step
invariant-loop-step g l =
    let b = g.T.BitStore.BITS in
    let at = g.O.BitOrder.at in
    record {
      value : (xs : List ℕ) → HasElements b l.word xs → element_bits 64 at l.ordered ≡ padded 64 (list_in b at xs (elements_window b 0 l.step));
    }
