use Rattle.std.proofs.Common.{◌≡◌, ◌-◌, ◌≤◌, map, take}
use Rattle.bitvec_base.specs.Memory.{Writes, list_in}
use Rattle.bitvec_cells.specs.Accessors.{exclusive_borrow, exclusive_numbers}
use Rattle.bitvec_elements.proofs.StoreLemmas.{until}
use Rattle.bitvec_elements.proofs.copying.copy_words.Given as goal

abbrev pub invariant-loop-start : goal.invariant-loop-start
invariant-loop-start g l = record {
  fits : l.start ≤ l.to.len;
  writes : Writes g.T.BitStore.BITS g.W.BitOrder.at (map g.T.BitStore.value l.fn.left) (exclusive_numbers g.T.BitStore.value l.cells) (until l.to l.start)
      (take l.start (list_in g.U.BitStore.BITS g.P.BitOrder.at (map g.U.BitStore.value l.right) l.from));
  borrow : exclusive_borrow l.cells ≡ exclusive_borrow l.initial.cells;
}

abbrev pub decreases-loop-start : goal.decreases-loop-start
decreases-loop-start g l = l.to.len - l.start
