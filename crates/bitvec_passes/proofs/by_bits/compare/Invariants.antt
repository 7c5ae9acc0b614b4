use Rattle.bitvec_base.specs.CompareLaws.{SameBelow}
use Rattle.bitvec_base.specs.Memory.{list_in}
use Rattle.bitvec_cells.specs.Access.{OnlyReads}
use Rattle.bitvec_passes.proofs.by_bits.compare.Given as goal

abbrev pub invariant-loop-index : goal.invariant-loop-index
invariant-loop-index g l =
    let list = list_in g.C.Elem.BitStore.BITS g.O.BitOrder.at (g.C.CellsRead.numbers l.fn.left) l.left_window in
    let right_list = list_in g.D.Elem.BitStore.BITS g.P.BitOrder.at (g.D.CellsRead.numbers l.fn.right) l.right_window in
    record {
      same : SameBelow list right_list l.index;
      reads : OnlyReads g.C.CellsRead l.fn.left l.left l.index;
      right : OnlyReads g.D.CellsRead l.fn.right l.right l.index;
    }
