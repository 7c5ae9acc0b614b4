use Rattle.std.proofs.Common.{◌≡◌, ◌+◌, nat_eq, not, slice_index}
use Rattle.bitvec_base.specs.Memory.{element_bits}
use Rattle.bitvec_cells.specs.Access.{Costs}
use Rattle.bitvec_words.specs.Moves.{CopiesSome, waiting_place}
use Rattle.bitvec_move.proofs.moving.shift_carried.Given as goal

abbrev pub invariant-loop-passed : goal.invariant-loop-passed
invariant-loop-passed g l =
    let later = not (nat_eq g.row.LATER 0) in
    let b = g.C.Elem.BitStore.BITS in
    let at = g.O.BitOrder.at in
    let old = g.C.CellsRead.numbers l.fn.cells in
    record {
      writes : CopiesSome later b at old (g.C.CellsRead.numbers l.cells) l.first l.source l.skip l.count l.passed;
      carried : element_bits b at (g.K.Carried.value l.last) ≡ element_bits b at (slice_index old (l.source + waiting_place later l.passed l.count));
      cost : Costs g.C.CellsRead l.fn.cells l.cells l.passed l.passed;
    }
