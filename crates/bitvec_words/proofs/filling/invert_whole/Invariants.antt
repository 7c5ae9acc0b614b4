use Rattle.std.proofs.Common.{map, not}
use Rattle.bitvec_base.specs.Memory.{Writes, list_in}
use Rattle.bitvec_cells.specs.Access.{Costs}
use Rattle.bitvec_words.specs.Elements.{elements_window}
use Rattle.bitvec_words.proofs.filling.invert_whole.Given as goal

abbrev pub invariant-loop-step : goal.invariant-loop-step
invariant-loop-step g l =
    let b = g.C.Elem.BitStore.BITS in
    let at = g.O.BitOrder.at in
    let before = g.C.CellsRead.numbers l.fn.cells in
    let part = elements_window b l.first l.step in
    record {
      writes : Writes b at before (g.C.CellsRead.numbers l.cells) part (map not (list_in b at before part));
      cost : Costs g.C.CellsRead l.fn.cells l.cells l.step l.step;
    }
