use Rattle.std.proofs.Common.{◌≡◌, ◌+◌, ◌-◌, None}
use Rattle.bitvec_base.specs.Lists.{last_place}
use Rattle.bitvec_base.specs.Memory.{list_in}
use Rattle.bitvec_cells.specs.Access.{OnlyReads}
use Rattle.bitvec_words.specs.Elements.{elements_window}
use Rattle.bitvec_words.proofs.scanning.last_of_turn.Given as goal

abbrev pub invariant-loop-step : goal.invariant-loop-step
invariant-loop-step g l =
    let b = g.C.Elem.BitStore.BITS in
    record {
      none : None ≡ last_place l.want (list_in b g.O.BitOrder.at (g.C.CellsRead.numbers l.fn.cells) (elements_window b (l.first + l.step) (l.count - l.step)));
      reads : OnlyReads g.C.CellsRead l.fn.cells l.cells (l.count - l.step);
    }
