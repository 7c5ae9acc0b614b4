use Rattle.std.proofs.Common.{◌≡◌, drop, length, map, take}
use Rattle.bitvec_run.specs.FieldRows.{field_outcome}
use Rattle.bitvec_checked_run.specs.Runs.{field_list, field_reply}
use Rattle.bitvec_run.specs.Fold.{replies_of}
use Rattle.bitvec_run.specs.RanLaws.{Ran}
use Rattle.bitvec_base.specs.Memory.{list_in, memory_bits}
use Rattle.bitvec_checked_run.specs.Steps.{raw_reply, step_of}
use Rattle.bitvec_checked_run.proofs.running.run_steps.Given as goal

-- what is promised of all steps, of those so far
abbrev pub invariant-loop-index : goal.invariant-loop-index
invariant-loop-index g l =
    let b = g.C.Elem.BitStore.BITS in
    let high = g.O.WordOrder.HIGH in
    let right = memory_bits b g.O.BitOrder.at (g.D.CellsRead.numbers l.fn.right) in
    let list = list_in b g.O.BitOrder.at (g.C.CellsRead.numbers l.fn.cells) l.window in
    let made = take l.index (map step_of l.fn.steps) in
    let told = replies_of (field_reply high b l.window.start right) (field_list high b l.window.start right) list made in
    record {
      ran : Ran g.C.CellsRead (field_outcome high b l.window.start right) b g.O.BitOrder.at list made l.window l.fn.cells l.cells told;
      raw : take l.index l.replies ≡ map raw_reply told;
      rest : drop l.index l.replies ≡ drop l.index l.fn.replies;
      right : g.D.CellsRead.numbers l.right ≡ g.D.CellsRead.numbers l.fn.right;
      borrow : g.C.CellsRead.borrow l.cells ≡ g.C.CellsRead.borrow l.fn.cells;
      count : length l.replies ≡ length l.fn.replies;
    }
