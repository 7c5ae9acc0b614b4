use Rattle.std.proofs.Common.{◌+◌, ◌-◌, map, reverse}
use Rattle.bitvec_base.specs.Memory.{Writes, list_in}
use Rattle.bitvec_cells.specs.Access.{OnlyReads}
use Rattle.bitvec_words.specs.Elements.{elements_window}
use Rattle.bitvec_passes.proofs.reversing.load_mirrored.Given as goal

abbrev pub invariant-loop-step : goal.invariant-loop-step
invariant-loop-step g l =
    let b = g.C.Elem.BitStore.BITS in
    let at = g.O.BitOrder.at in
    let value = g.C.Elem.BitStore.value in
    let list = list_in b at (g.C.CellsRead.numbers l.fn.cells) (elements_window b (l.last + 1 - l.step) l.step) in
    record {
      writes : Writes b at (map value l.fn.held) (map value l.held) (elements_window b l.from l.step) (reverse list);
      reads : OnlyReads g.C.CellsRead l.fn.cells l.cells l.step;
    }
