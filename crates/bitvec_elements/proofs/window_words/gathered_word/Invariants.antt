use Rattle.std.proofs.Common.{◌≡◌, map}
use Rattle.bitvec_base.specs.Memory.{element_bits, list_in}
use Rattle.bitvec_cells.specs.Walk.{Walked, passed}
use Rattle.bitvec_words.specs.ShortWindow.{padded}
use Rattle.bitvec_elements.proofs.window_words.gathered_word.Given as goal

abbrev pub invariant-loop-rest : goal.invariant-loop-rest
invariant-loop-rest g l =
    let b = g.T.BitStore.BITS in
    record {
      walk : Walked b l.fn.window l.rest;
      numbers : map g.T.BitStore.value l.cells.cells.now ≡ map g.T.BitStore.value l.elements;
      value : element_bits 64 g.W.BitOrder.at l.word ≡ padded 64 (list_in b g.O.BitOrder.at (map g.T.BitStore.value l.elements) (passed l.fn.window l.rest));
    }

abbrev pub decreases-loop-rest : goal.decreases-loop-rest
decreases-loop-rest g l = l.rest.len
