use Rattle.std.specs.Prelude.{◌==◌, not}
use Rattle.std.proofs.Common.{◌≡◌, ◌-◌, ◌≤◌}
use Rattle.bitvec_base.specs.Memory.{HasWindow}
use Rattle.bitvec_cells.specs.Access.{CostsAtMost}
use Rattle.bitvec_cells.specs.Cost.{touched_count}
use Rattle.bitvec_cells.specs.Walk.{Walked, edge_loads}
use Rattle.bitvec_segments.proofs.WalkLemmas.{Begins, Left}
use Rattle.bitvec_segments.proofs.storing.store_in.Given as goal

abbrev pub invariant-loop-left : goal.invariant-loop-left
invariant-loop-left g l =
    let b = g.C.Elem.BitStore.BITS in
    let now = g.C.CellsRead.numbers l.cells in
    record {
      has : HasWindow b now l.rest;
      walk : Walked b l.fn.window l.rest;
      count : l.left ≡ touched_count b l.rest.start l.rest.len;
      fewer : l.left ≤ l.fn.count;
      place : Begins b l.rest l.element l.from l.left;
      left : Left (not (g.row.BIG == 0)) g.O.WordOrder.HIGH b g.O.BitOrder.at (g.C.CellsRead.numbers l.fn.cells) now l.fn.window l.rest l.fn.number;
      cost : CostsAtMost g.C.CellsRead l.fn.cells l.cells (edge_loads l.fn.window l.rest) (l.fn.count - l.left);
    }

abbrev pub decreases-loop-left : goal.decreases-loop-left
decreases-loop-left g l = l.left
