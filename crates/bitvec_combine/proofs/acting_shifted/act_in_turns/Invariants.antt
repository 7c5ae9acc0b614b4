use Rattle.std.proofs.Common.{false, ◌+◌, ◌*◌}
use Rattle.bitvec_base.specs.Memory.{list_in}
use Rattle.bitvec_cells.specs.Access.{OnlyReads}
use Rattle.bitvec_words.specs.Elements.{elements_window, elements_window_from}
use Rattle.bitvec_combine.specs.Acts.{IsCarried}
use Rattle.bitvec_combine.proofs.acting_shifted.act_in_turns.Given as goal

abbrev pub invariant-loop-step : goal.invariant-loop-step
invariant-loop-step g l =
    let b = g.C.Elem.BitStore.BITS in
    let at = g.O.BitOrder.at in
    let ys = g.D.CellsRead.numbers l.fn.right in
    let passed = l.step * l.turn in
    record {
      done : g.A.Act.Done at l.fn.left l.left (elements_window b l.stretch.first passed) (list_in b at ys (elements_window_from b l.stretch.source l.stretch.skip passed)) l.fn.act l.act;
      carried : IsCarried false ys (l.stretch.source + passed) (g.C.Elem.BitStore.value l.last);
      right : OnlyReads g.D.CellsRead l.fn.right l.right passed;
    }
