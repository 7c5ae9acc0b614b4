use Rattle.std.proofs.Common.{◌*◌, nat_eq, not}
use Rattle.bitvec_cells.specs.Access.{Costs}
use Rattle.bitvec_words.specs.Moves.{CopiesSome}
use Rattle.bitvec_move.proofs.moving.move_whole.Given as goal

abbrev pub invariant-loop-step : goal.invariant-loop-step
invariant-loop-step g l =
    let later = not (nat_eq g.row.LATER 0) in
    record {
      writes : CopiesSome later g.C.Elem.BitStore.BITS g.O.BitOrder.at (g.C.CellsRead.numbers l.fn.cells) (g.C.CellsRead.numbers l.cells) l.moved.first l.moved.source 0 l.moved.count (l.step * 128);
      cost : Costs g.C.CellsRead l.fn.cells l.cells (l.step * 128) (l.step * 128);
    }
