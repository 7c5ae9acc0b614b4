use Rattle.bitvec_base.specs.Memory.{list_in}
use Rattle.bitvec_cells.specs.Access.{OnlyReads}
use Rattle.bitvec_words.specs.Elements.{elements_window, elements_window_from}
use Rattle.bitvec_combine.proofs.acting_equal.EqualPhases.act_on_stretch.Given as goal

abbrev pub invariant-loop-step : goal.invariant-loop-step
invariant-loop-step g l =
    let b = g.C.Elem.BitStore.BITS in
    let at = g.O.BitOrder.at in
    record {
      done : g.A.Act.Done at l.fn.left l.left (elements_window b l.stretch.first l.step) (list_in b at (g.D.CellsRead.numbers l.fn.right) (elements_window_from b l.stretch.source l.stretch.skip l.step)) l.fn.act l.act;
      right : OnlyReads g.D.CellsRead l.fn.right l.right l.step;
    }
