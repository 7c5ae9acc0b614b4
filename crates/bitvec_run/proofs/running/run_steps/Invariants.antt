use Rattle.std.proofs.Common.{◌≡◌, ◌≤◌, length, take, vec_len, vec_capacity}
use Rattle.bitvec_base.specs.Memory.{memory_bits}
use Rattle.bitvec_run.specs.Runs.{RunsBy}
use Rattle.bitvec_run.proofs.running.run_steps.Given as goal

-- what is promised of all steps, of those so far
abbrev pub invariant-loop-next : goal.invariant-loop-next
invariant-loop-next g l =
    let b = g.C.Elem.BitStore.BITS in
    let right = memory_bits b g.O.BitOrder.at (g.D.CellsRead.numbers l.fn.right) in
    record {
      ran : RunsBy g.C.CellsRead g.D.CellsRead (g.S.RunStep.outcome b l.window.start right) b g.O.BitOrder.at g.O.SliceOrder.WORDS l.window (take l.next-index l.fn.steps) l.fn.cells l.cells l.fn.right l.right l.replies.items;
      count : vec_len l.replies ≡ l.next-index;
      room : length l.fn.steps ≤ vec_capacity l.replies;
    }
