use Rattle.std.proofs.Common.{◌≡◌, ◌-◌, false, replicate, arith, sym}
use Rattle.bitvec_base.specs.CopyLaws.{copy-shifts_start}
use Rattle.bitvec_base.specs.Window.{write_at}
use Rattle.bitvec_base.specs.WritesLaws.{length-list, HasWindow-kept, Writes-range, Writes-next}
use Rattle.bitvec_engine.proofs.shifting.shift_start.Goals as goal

pub returns-clause-writes : goal.returns-clause-writes
returns-clause-writes g c =
    let has = c.requires.window in
    let len = c.args.window.len in
    let by = c.args.by in
    let copied = c.block_copy_within.ensures.writes in
    let cleared = rw c.range.ensures at c.fill.ensures.writes in
    let zeros : len - (len - by) ≡ by = omega arith in
    Writes-next (λ l. write_at l (len - by) (replicate (len - (len - by)) false)) has copied
    (Writes-range (len - by) len (HasWindow-kept _ has copied.elements) (omega arith) (omega arith) cleared)
    (rw zeros (copy-shifts_start by len _ (sym (length-list g.O.BitOrder.at has)) c.requires.bound))
