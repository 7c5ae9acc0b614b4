use Rattle.std.proofs.Common.{◌≡◌, ◌+◌, ◌*◌, ◌≤◌, reverse, slice_range}
use Rattle.bitvec_base.specs.Memory.{Writes, list_in}
use Rattle.bitvec_base.specs.Window.{write_at}
use Rattle.bitvec_cells.specs.Access.{Costs}
use Rattle.bitvec_passes.proofs.by_bits.bits_reverse.Given as goal

abbrev pub invariant-loop-low : goal.invariant-loop-low
invariant-loop-low g l =
    let before = g.C.CellsRead.numbers l.fn.cells in
    let list = list_in g.C.Elem.BitStore.BITS g.O.BitOrder.at before l.fn.window in
    record {
      ends : l.low + l.high ≡ l.fn.window.len;
      order : l.low ≤ l.high;
      writes : Writes g.C.Elem.BitStore.BITS g.O.BitOrder.at before (g.C.CellsRead.numbers l.cells) l.fn.window (write_at (reverse list) l.low (slice_range list l.low l.high));
      cost : Costs g.C.CellsRead l.fn.cells l.cells (3 * l.low) (2 * l.low);
    }

abbrev pub decreases-loop-low : goal.decreases-loop-low
decreases-loop-low g l = l.high
