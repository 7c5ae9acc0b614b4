use Rattle.std.proofs.Common.{◌≡◌}
use Rattle.bitvec_base.specs.Memory.{element_bits, list_in}
use Rattle.bitvec_cells.specs.Access.{OnlyReads}
use Rattle.bitvec_cells.specs.Cost.{touched_count}
use Rattle.bitvec_cells.specs.Walk.{Walked, passed}
use Rattle.bitvec_words.specs.ShortWindow.{padded}
use Rattle.bitvec_few.proofs.word.load_each.Given as goal

abbrev pub invariant-loop-rest : goal.invariant-loop-rest
invariant-loop-rest g l =
    let b = g.C.Elem.BitStore.BITS in
    let part = passed l.fn.window l.rest in
    record {
      walk : Walked b l.fn.window l.rest;
      value : element_bits 64 g.O.BitOrder.at l.word ≡ padded 64 (list_in b g.O.BitOrder.at (g.C.CellsRead.numbers l.fn.cells) part);
      reads : OnlyReads g.C.CellsRead l.fn.cells l.cells (touched_count b part.start part.len);
    }

abbrev pub decreases-loop-rest : goal.decreases-loop-rest
decreases-loop-rest g l = l.rest.len
