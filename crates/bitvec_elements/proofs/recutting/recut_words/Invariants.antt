use Rattle.std.proofs.Common.{◌≡◌, ◌*◌, map, take}
use Rattle.bitvec_base.specs.Memory.{Writes, list_in}
use Rattle.bitvec_cells.specs.Accessors.{exclusive_borrow, exclusive_numbers}
use Rattle.bitvec_elements.proofs.StoreLemmas.{until}
use Rattle.bitvec_elements.proofs.recutting.recut_words.Given as goal

abbrev pub invariant-loop-step : goal.invariant-loop-step
invariant-loop-step g l = record {
  writes : Writes g.T.BitStore.BITS g.W.BitOrder.at (map g.T.BitStore.value l.fn.left) (exclusive_numbers g.T.BitStore.value l.cells) (until l.fn.to (l.step * 64))
      (take (l.step * 64) (list_in g.U.BitStore.BITS g.V.BitOrder.at (map g.U.BitStore.value l.right) l.fn.from));
  borrow : exclusive_borrow l.cells ≡ exclusive_borrow l.initial.cells;
}
