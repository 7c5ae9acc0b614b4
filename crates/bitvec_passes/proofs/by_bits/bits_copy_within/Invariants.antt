use Rattle.std.proofs.Common.{◌+◌, ◌-◌, ◌*◌, ◌<◌, ◌≤◌}
use Rattle.bitvec_base.specs.Lists.{copied_within}
use Rattle.bitvec_base.specs.Memory.{Writes, list_in}
use Rattle.bitvec_cells.specs.Access.{Costs}
use Rattle.bitvec_passes.proofs.by_bits.bits_copy_within.Given as goal

abbrev pub invariant-loop-step : goal.invariant-loop-step
invariant-loop-step g l =
    let b = g.C.Elem.BitStore.BITS in
    let before = g.C.CellsRead.numbers l.fn.cells in
    let now = g.C.CellsRead.numbers l.cells in
    let list = list_in b g.O.BitOrder.at before l.fn.window in
    let left = l.fn.to - l.fn.from - l.step in
    record {
      ascending : l.fn.dest ≤ l.fn.from → Writes b g.O.BitOrder.at before now l.fn.window (copied_within l.fn.from (l.fn.from + l.step) l.fn.dest list);
      descending : l.fn.from < l.fn.dest → Writes b g.O.BitOrder.at before now l.fn.window (copied_within (l.fn.from + left) l.fn.to (l.fn.dest + left) list);
      cost : Costs g.C.CellsRead l.fn.cells l.cells (2 * l.step) l.step;
    }
