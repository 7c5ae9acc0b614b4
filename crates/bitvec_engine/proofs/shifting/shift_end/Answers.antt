use Rattle.std.proofs.Common.{◌≡◌, ◌-◌, false, replicate, arith, sym}
use Rattle.bitvec_base.specs.CopyLaws.{copy-shifts_end}
use Rattle.bitvec_base.specs.Window.{write_at}
use Rattle.bitvec_base.specs.WritesLaws.{length-list, HasWindow-kept, Writes-range, Writes-next}
use Rattle.bitvec_engine.proofs.shifting.shift_end.Goals as goal

pub returns-clause-writes : goal.returns-clause-writes
returns-clause-writes g c =
    let has = c.requires.window in
    let by = c.args.by in
    let copied = c.block_copy_within.ensures.writes in
    let cleared = rw c.range.ensures at c.fill.ensures.writes in
    let zeros : by - 0 ≡ by = omega arith in
    Writes-next (λ l. write_at l 0 (replicate (by - 0) false)) has copied
    (Writes-range 0 by (HasWindow-kept _ has copied.elements) (omega arith) c.requires.bound cleared)
    (rw zeros (copy-shifts_end by c.args.window.len _ (sym (length-list g.O.BitOrder.at has)) c.requires.bound))
