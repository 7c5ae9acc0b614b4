use Rattle.std.proofs.Common.{◌≡◌, ◌+◌, ◌*◌, if◌then◌else◌, nat_eq, not, slice_index, slice_range}
use Rattle.bitvec_base.specs.Memory.{element_bits}
use Rattle.bitvec_cells.specs.Access.{Costs}
use Rattle.bitvec_words.specs.Moves.{CopiesSome, waiting_place}
use Rattle.bitvec_move.proofs.moving_words.shift_words.Given as goal

abbrev pub invariant-loop-step : goal.invariant-loop-step
invariant-loop-step g l =
    let later = not (nat_eq g.row.LATER 0) in
    let b = g.C.Elem.BitStore.BITS in
    let at = g.O.BitOrder.at in
    let old = g.C.CellsRead.numbers l.fn.cells in
    let done = l.step * 8 in
    let edge = if later then 0 else 56 in
    record {
      writes : CopiesSome later b at old (g.C.CellsRead.numbers l.cells) l.moved.first l.moved.source l.moved.skip l.moved.count done;
      carried : slice_range (element_bits 64 at l.last) edge (edge + 8) ≡ element_bits b at (slice_index old (l.moved.source + waiting_place later done l.moved.count));
      cost : Costs g.C.CellsRead l.fn.cells l.cells (done + 10) done;
    }
