use Rattle.std.proofs.Common.{◌≡◌, ◌+◌, ◌≤◌, ◌++◌, drop, take}
use Rattle.bitvec_base.specs.Lists.{places_of}
use Rattle.bitvec_base.specs.Memory.{list_in}
use Rattle.bitvec_cells.specs.Cost.{touched_count}
use Rattle.bitvec_places.specs.Loads.{rest_loads}
use Rattle.bitvec_places.specs.Places.{IsRestOf, places_left}
use Rattle.bitvec_places.specs.Turns.{count_given, turns_give}
use Rattle.bitvec_places.proofs.turns.scan_turns.Given as goal

abbrev pub invariant-loop-number : goal.invariant-loop-number
invariant-loop-number g l =
    let b = g.C.Elem.BitStore.BITS in
    let list = list_in b g.O.BitOrder.at (g.C.CellsRead.numbers l.fn.cells) l.window in
    record {
      inside : IsRestOf l.rest l.window.len;
      gives : take l.number l.out ++ turns_give (places_left l.want list l.rest) (drop l.number l.turns) ≡ turns_give (places_of l.want list) l.turns;
      numbers : g.C.CellsRead.numbers l.cells ≡ g.C.CellsRead.numbers l.fn.cells;
      borrow : g.C.CellsRead.borrow l.cells ≡ g.C.CellsRead.borrow l.fn.cells;
      loads : g.C.CellsRead.loads l.cells + rest_loads b l.window l.rest ≤ g.C.CellsRead.loads l.fn.cells + (touched_count b l.window.start l.window.len + count_given (take l.number l.out));
      stores : g.C.CellsRead.stores l.cells ≡ g.C.CellsRead.stores l.fn.cells;
    }
