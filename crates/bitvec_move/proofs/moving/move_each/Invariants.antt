use Rattle.std.proofs.Common.{nat_eq, not}
use Rattle.bitvec_cells.specs.Access.{Costs}
use Rattle.bitvec_words.specs.Moves.{CopiesSome}
use Rattle.bitvec_move.proofs.moving.move_each.Given as goal

abbrev pub invariant-loop-passed : goal.invariant-loop-passed
invariant-loop-passed g l =
    let later = not (nat_eq g.row.LATER 0) in
    record {
      writes : CopiesSome later g.C.Elem.BitStore.BITS g.O.BitOrder.at (g.C.CellsRead.numbers l.fn.cells) (g.C.CellsRead.numbers l.cells) l.first l.source 0 l.count l.passed;
      cost : Costs g.C.CellsRead l.fn.cells l.cells l.passed l.passed;
    }
