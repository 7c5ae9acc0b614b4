use Rattle.bitvec_cells.specs.Access.{Costs}
use Rattle.bitvec_words.specs.Elements.{elements_window}
use Rattle.bitvec_words.specs.Moves.{SwapsWindows}
use Rattle.bitvec_move.proofs.swapping_equal.swap_whole.Given as goal

abbrev pub invariant-loop-step : goal.invariant-loop-step
invariant-loop-step g l =
    let b = g.C.Elem.BitStore.BITS in
    record {
      swaps : SwapsWindows b g.O.BitOrder.at (g.C.CellsRead.numbers l.fn.left) (g.C.CellsRead.numbers l.left) (g.D.CellsRead.numbers l.fn.right) (g.D.CellsRead.numbers l.right)
          (elements_window b l.first l.step) (elements_window b l.source l.step);
      cost : Costs g.C.CellsRead l.fn.left l.left l.step l.step;
      right_cost : Costs g.D.CellsRead l.fn.right l.right l.step l.step;
    }
