use Rattle.std.proofs.Common.{◌≡◌, ◌+◌, ◌^◌}
use Rattle.std.specs.Simd.Lanes.{digits_l}
use Rattle.bitvec_base.specs.Window.{write_at}
use Rattle.bitvec_cells.proofs.cells.Cells.store_word.Given as goal

abbrev pub invariant-loop-step : goal.invariant-loop-step
invariant-loop-step g l =
    let b = g.Self.Elem.BitStore.BITS in
    let cells = g.Self.CellsRead in
    record {
      numbers : cells.numbers l.self ≡ write_at (cells.numbers l.fn.self) l.first (digits_l (2 ^ b) l.step l.word);
      borrow : cells.borrow l.self ≡ cells.borrow l.fn.self;
      loads : cells.loads l.self ≡ cells.loads l.fn.self;
      stores : cells.stores l.self ≡ cells.stores l.fn.self + l.step;
    }
