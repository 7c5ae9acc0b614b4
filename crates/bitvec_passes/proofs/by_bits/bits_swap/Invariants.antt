use Rattle.std.proofs.Common.{◌*◌}
use Rattle.bitvec_base.specs.Memory.{Writes, list_in}
use Rattle.bitvec_base.specs.TransferLaws.{overwritten}
use Rattle.bitvec_cells.specs.Access.{Costs}
use Rattle.bitvec_passes.proofs.by_bits.bits_swap.Given as goal

abbrev pub invariant-loop-index : goal.invariant-loop-index
invariant-loop-index g l =
    let b = g.C.Elem.BitStore.BITS in
    let at = g.O.BitOrder.at in
    let before = g.C.CellsRead.numbers l.fn.left in
    let list = list_in b at before l.left_window in
    let right_b = g.D.Elem.BitStore.BITS in
    let right_at = g.P.BitOrder.at in
    let right_before = g.D.CellsRead.numbers l.fn.right in
    let right_list = list_in right_b right_at right_before l.right_window in
    record {
      writes : Writes b at before (g.C.CellsRead.numbers l.left) l.left_window (overwritten l.index right_list list);
      cost : Costs g.C.CellsRead l.fn.left l.left l.index l.index;
      right_writes : Writes right_b right_at right_before (g.D.CellsRead.numbers l.right) l.right_window (overwritten l.index list right_list);
      right_cost : Costs g.D.CellsRead l.fn.right l.right (2 * l.index) l.index;
    }
