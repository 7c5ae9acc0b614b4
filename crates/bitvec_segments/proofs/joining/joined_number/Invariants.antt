use Rattle.std.proofs.Common.{◌≡◌, ◌+◌, ◌-◌, ◌*◌, ◌/◌, ◌%◌, ◌<◌}
use Rattle.bitvec_base.specs.Memory.{list_in}
use Rattle.bitvec_cells.specs.Access.{OnlyReads}
use Rattle.bitvec_segments.specs.Segments.{segment_number}
use Rattle.bitvec_words.specs.Elements.{elements_window}
use Rattle.bitvec_segments.proofs.joining.joined_number.Given as goal

abbrev pub invariant-loop-width : goal.invariant-loop-width
invariant-loop-width g l =
    let b = g.C.Elem.BitStore.BITS in
    let window = l.fn.window in
    record {
      some : 0 < l.count;
      width : l.width ≡ l.count * b;
      last : (l.count - 1) * b < window.start % b + window.len;
      value : l.word ≡ segment_number g.O.WordOrder.HIGH (list_in b g.O.BitOrder.at (g.C.CellsRead.numbers l.fn.cells) (elements_window b (window.start / b) l.count));
      reads : OnlyReads g.C.CellsRead l.fn.cells l.cells l.count;
    }

abbrev pub decreases-loop-width : goal.decreases-loop-width
decreases-loop-width g l = l.fn.window.start % g.C.Elem.BitStore.BITS + l.fn.window.len - l.count
