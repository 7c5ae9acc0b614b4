use Rattle.std.proofs.Common.{◌*◌, min}
use Rattle.bitvec_base.specs.Lists.{combined}
use Rattle.bitvec_base.specs.Memory.{Writes, list_in}
use Rattle.bitvec_base.specs.TransferLaws.{overwritten}
use Rattle.bitvec_cells.specs.Access.{Costs, OnlyReads}
use Rattle.bitvec_words.specs.Operator.{operator}
use Rattle.bitvec_passes.proofs.by_bits.bits_op.Given as goal

abbrev pub invariant-loop-index : goal.invariant-loop-index
invariant-loop-index g l =
    let b = g.C.Elem.BitStore.BITS in
    let at = g.O.BitOrder.at in
    let before = g.C.CellsRead.numbers l.fn.left in
    let list = list_in b at before l.to in
    let other = list_in g.D.Elem.BitStore.BITS g.P.BitOrder.at (g.D.CellsRead.numbers l.fn.right) l.from in
    record {
      writes : Writes b at before (g.C.CellsRead.numbers l.left) l.to (overwritten l.index (combined (operator l.op) list other) list);
      cost : Costs g.C.CellsRead l.fn.left l.left (2 * l.index) l.index;
      right : OnlyReads g.D.CellsRead l.fn.right l.right (min l.index l.from.len);
    }
