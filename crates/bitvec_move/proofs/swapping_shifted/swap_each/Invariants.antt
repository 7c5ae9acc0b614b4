use Rattle.bitvec_base.specs.Memory.{element_bits}
use Rattle.bitvec_cells.specs.Access.{Costs}
use Rattle.bitvec_words.specs.Moves.{SwapsElements}
use Rattle.bitvec_move.proofs.WaitingLaws.{JoinsEnds}
use Rattle.bitvec_move.proofs.swapping_shifted.swap_each.Given as goal

abbrev pub invariant-loop-step : goal.invariant-loop-step
invariant-loop-step g l =
    let b = g.C.Elem.BitStore.BITS in
    let at = g.O.BitOrder.at in
    let value = g.C.Elem.BitStore.value in
    record {
      swaps : SwapsElements b at (g.C.CellsRead.numbers l.fn.left) (g.C.CellsRead.numbers l.left) (g.D.CellsRead.numbers l.fn.right) (g.D.CellsRead.numbers l.right)
          l.first l.source l.skip l.step (value l.fn.waiting) (value l.last);
      cost : Costs g.C.CellsRead l.fn.left l.left l.step l.step;
      right_cost : Costs g.D.CellsRead l.fn.right l.right l.step l.step;
      ends : JoinsEnds b l.skip (element_bits b at (value l.last)) (element_bits b at (value l.before)) (element_bits b at (value l.latest));
    }
