use Rattle.std.proofs.Common.{◌≡◌, ◌*◌, ◌/◌, None}
use Rattle.bitvec_base.specs.Lists.{first_place}
use Rattle.bitvec_base.specs.Memory.{list_in}
use Rattle.bitvec_cells.specs.Access.{OnlyReadsAtMost}
use Rattle.bitvec_words.specs.Elements.{elements_window}
use Rattle.bitvec_words.proofs.scanning_words.first_in_elements.Given as goal

abbrev pub invariant-loop-step : goal.invariant-loop-step
invariant-loop-step g l =
    let b = g.C.Elem.BitStore.BITS in
    record {
      none : None ≡ first_place l.want (list_in b g.O.BitOrder.at (g.C.CellsRead.numbers l.fn.cells) (elements_window b l.first (l.step * (1024 / b))));
      reads : OnlyReadsAtMost g.C.CellsRead l.fn.cells l.cells (l.step * (1024 / b));
    }
