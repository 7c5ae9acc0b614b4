use Rattle.std.proofs.Common.{◌≡◌, ◌+◌, ◌*◌, ◌^◌, ◌<◌, take, drop}
use Rattle.std.specs.Simd.Lanes.{digits_l}
use Rattle.bitvec_cells.proofs.cells.CellsRead.load_word.Given as goal

abbrev pub invariant-loop-step : goal.invariant-loop-step
invariant-loop-step g l =
    let b = g.Self.Elem.BitStore.BITS in
    let cells = g.Self.CellsRead in
    record {
      digits : take l.step (drop l.first (cells.numbers l.fn.self)) ≡ digits_l (2 ^ b) l.step l.word;
      below : l.word < 2 ^ (l.step * b);
      numbers : cells.numbers l.self ≡ cells.numbers l.fn.self;
      borrow : cells.borrow l.self ≡ cells.borrow l.fn.self;
      loads : cells.loads l.self ≡ cells.loads l.fn.self + l.step;
      stores : cells.stores l.self ≡ cells.stores l.fn.self;
    }
