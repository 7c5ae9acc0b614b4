use Rattle.std.proofs.Common.{◌≡◌, ◌-◌, ◌*◌, ◌^◌, if◌then◌else◌, Bool, length, replicate}
use Rattle.bitvec_base.specs.Memory.{Writes}
use Rattle.bitvec_cells.specs.Access.{Costs}
use Rattle.bitvec_words.specs.Elements.{elements_window}
use Rattle.bitvec_words.proofs.filling.store_whole.Given as goal

abbrev pub invariant-loop-step : goal.invariant-loop-step
invariant-loop-step g l =
    let b = g.C.Elem.BitStore.BITS in
    record {
      writes : (bit : Bool) → g.C.Elem.BitStore.value l.element ≡ (if bit then 2 ^ b - 1 else 0) → Writes b g.O.BitOrder.at (g.C.CellsRead.numbers l.fn.cells) (g.C.CellsRead.numbers l.cells) (elements_window b l.first l.step) (replicate (l.step * b) bit);
      elements : length (g.C.CellsRead.numbers l.cells) ≡ length (g.C.CellsRead.numbers l.fn.cells);
      cost : Costs g.C.CellsRead l.fn.cells l.cells 0 l.step;
    }
