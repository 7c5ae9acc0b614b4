use Rattle.std.proofs.Common.{◌≡◌, length, take}
use Rattle.bitvec_base.specs.Memory.{list_in}
use Rattle.bitvec_run_halves.proofs.SidesLaws.{RanSides}
use Rattle.bitvec_run_halves.proofs.runner.run_sides.Given as goal

-- what is promised of all steps, of those so far
abbrev pub invariant-loop-index : goal.invariant-loop-index
invariant-loop-index g l =
    let b = g.C.Elem.BitStore.BITS in
    let right = list_in b g.O.BitOrder.at (g.D.CellsRead.numbers l.fn.right) l.source in
    record {
      ran : RanSides g.C.CellsRead b g.O.BitOrder.at g.O.SliceOrder.WORDS right l.window l.mid (take l.index l.fn.steps) l.fn.cells l.cells (take l.index l.out);
      right : g.D.CellsRead.numbers l.right ≡ g.D.CellsRead.numbers l.fn.right;
      borrow : g.C.CellsRead.borrow l.cells ≡ g.C.CellsRead.borrow l.fn.cells;
      count : length l.out ≡ length l.fn.out;
    }
