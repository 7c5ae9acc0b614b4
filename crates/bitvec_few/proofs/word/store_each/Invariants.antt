use Rattle.std.proofs.Common.{take}
use Rattle.bitvec_base.specs.Memory.{Writes, element_bits}
use Rattle.bitvec_cells.specs.Access.{CostsAtMost}
use Rattle.bitvec_cells.specs.Cost.{touched_count}
use Rattle.bitvec_cells.specs.Walk.{Walked, edge_loads, passed}
use Rattle.bitvec_few.proofs.word.store_each.Given as goal

abbrev pub invariant-loop-rest : goal.invariant-loop-rest
invariant-loop-rest g l =
    let b = g.C.Elem.BitStore.BITS in
    let part = passed l.fn.window l.rest in
    record {
      walk : Walked b l.fn.window l.rest;
      writes : Writes b g.O.BitOrder.at (g.C.CellsRead.numbers l.fn.cells) (g.C.CellsRead.numbers l.cells) part (take part.len (element_bits 64 g.O.BitOrder.at l.fn.word));
      cost : CostsAtMost g.C.CellsRead l.fn.cells l.cells (edge_loads l.fn.window l.rest) (touched_count b part.start part.len);
    }

abbrev pub decreases-loop-rest : goal.decreases-loop-rest
decreases-loop-rest g l = l.rest.len
