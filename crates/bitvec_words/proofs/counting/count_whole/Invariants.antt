use Rattle.std.proofs.Common.{◌≡◌, ◌*◌, ◌/◌, count_by}
use Rattle.bitvec_base.specs.Memory.{list_in}
use Rattle.bitvec_cells.specs.Access.{OnlyReads}
use Rattle.bitvec_words.specs.Elements.{elements_window}
use Rattle.bitvec_words.proofs.counting.count_whole.Given as goal

abbrev pub invariant-loop-step : goal.invariant-loop-step
invariant-loop-step g l =
    let b = g.C.Elem.BitStore.BITS in
    record {
      ones : l.ones ≡ count_by (λ bit. bit) (list_in b (λ b i. i) (g.C.CellsRead.numbers l.fn.cells) (elements_window b l.first (l.step * (256 / b))));
      reads : OnlyReads g.C.CellsRead l.fn.cells l.cells (l.step * (256 / b));
    }
