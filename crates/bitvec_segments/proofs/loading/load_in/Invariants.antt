use Rattle.std.specs.Prelude.{◌==◌, not}
use Rattle.std.proofs.Common.{◌≡◌, ◌-◌, ◌≤◌}
use Rattle.bitvec_base.specs.Memory.{HasWindow}
use Rattle.bitvec_cells.specs.Access.{OnlyReads}
use Rattle.bitvec_cells.specs.Cost.{touched_count}
use Rattle.bitvec_segments.proofs.WalkLemmas.{Begins, Loaded}
use Rattle.bitvec_segments.proofs.loading.load_in.Given as goal

abbrev pub invariant-loop-left : goal.invariant-loop-left
invariant-loop-left g l =
    let b = g.C.Elem.BitStore.BITS in
    let xs = g.C.CellsRead.numbers l.fn.cells in
    record {
      has : HasWindow b xs l.rest;
      fits : l.rest.len ≤ l.fn.window.len;
      left : l.left ≡ touched_count b l.rest.start l.rest.len;
      fewer : l.left ≤ l.fn.count;
      place : Begins b l.rest l.element l.from l.left;
      value : Loaded (not (g.row.BIG == 0)) g.O.WordOrder.HIGH b g.O.BitOrder.at xs l.fn.window l.rest l.number;
      reads : OnlyReads g.C.CellsRead l.fn.cells l.cells (l.fn.count - l.left);
    }

abbrev pub decreases-loop-left : goal.decreases-loop-left
decreases-loop-left g l = l.left
