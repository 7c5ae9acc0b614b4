use Rattle.std.proofs.Common.{◌≡◌, ◌+◌, slice_index}
use Rattle.bitvec_base.specs.Memory.{list_in}
use Rattle.bitvec_cells.specs.Access.{OnlyReads}
use Rattle.bitvec_words.specs.Elements.{elements_window, elements_window_from}
use Rattle.bitvec_combine.proofs.acting_shifted.act_carried.Given as goal

abbrev pub invariant-loop-step : goal.invariant-loop-step
invariant-loop-step g l =
    let b = g.C.Elem.BitStore.BITS in
    let at = g.O.BitOrder.at in
    let ys = g.D.CellsRead.numbers l.fn.right in
    record {
      done : g.A.Act.Done at l.fn.left l.left (elements_window b l.first l.step) (list_in b at ys (elements_window_from b l.source l.skip l.step)) l.fn.act l.act;
      carried : g.K.Carried.value l.last ≡ slice_index ys (l.source + l.step);
      right : OnlyReads g.D.CellsRead l.fn.right l.right l.step;
    }
