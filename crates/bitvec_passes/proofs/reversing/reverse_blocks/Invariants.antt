use Rattle.std.proofs.Common.{◌≡◌, ◌+◌, ◌-◌, ◌*◌, ◌%◌, ◌<◌, ◌≤◌, reverse, slice_range, true}
use Rattle.bitvec_base.specs.Memory.{Writes, list_in}
use Rattle.bitvec_base.specs.Window.{write_at}
use Rattle.bitvec_cells.specs.Access.{CostsAtMost}
use Rattle.bitvec_cells.specs.Cost.{step_span, work_steps}
use Rattle.bitvec_passes.proofs.reversing.reverse_blocks.Given as goal

abbrev pub invariant-loop-low : goal.invariant-loop-low
invariant-loop-low g l =
    let b = g.C.Elem.BitStore.BITS in
    let at = g.O.BitOrder.at in
    let old = g.C.CellsRead.numbers l.fn.cells in
    let list = list_in b at old l.window in
    let steps = 2 * work_steps true l.low in
    record {
      bound : l.low ≤ l.half;
      words : l.low < l.half → l.low % 64 ≡ 0;
      writes : Writes b at old (g.C.CellsRead.numbers l.cells) l.window (write_at (reverse list) l.low (slice_range list l.low (l.window.len - l.low)));
      cost : CostsAtMost g.C.CellsRead l.fn.cells l.cells (steps * (step_span b true + 2)) (steps * step_span b true);
    }

abbrev pub decreases-loop-low : goal.decreases-loop-low
decreases-loop-low g l = l.half - l.low
