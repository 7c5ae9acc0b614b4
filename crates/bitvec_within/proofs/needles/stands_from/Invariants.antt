use Rattle.std.proofs.Common.{◌≡◌, ℕ, ◌+◌, ◌<◌, false, map, slice_index_or, true}
use Rattle.bitvec_base.specs.Lists.{stands_at}
use Rattle.bitvec_base.specs.Memory.{element_bits, list_in}
use Rattle.bitvec_within.proofs.needles.stands_from.Given as goal

abbrev pub invariant-loop-index : goal.invariant-loop-index
invariant-loop-index g l =
    let list = list_in g.T.BitStore.BITS g.O.BitOrder.at (map g.T.BitStore.value l.left) l.left_window in
    let part = list_in g.U.BitStore.BITS g.P.BitOrder.at (map g.U.BitStore.value l.right) l.right_window in
    (i : ℕ) → i < l.index → slice_index_or (element_bits 64 g.W.BitOrder.at l.starts) i false ≡ true → stands_at part list (l.from + i) ≡ false
