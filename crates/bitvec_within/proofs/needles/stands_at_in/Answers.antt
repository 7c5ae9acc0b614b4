use Rattle.std.proofs.Common.{arith, sym, ◌+◌}
use Rattle.bitvec_base.specs.ListsLaws.{stands_at-long}
use Rattle.bitvec_base.specs.NeedleLaws.{stands-part}
use Rattle.bitvec_base.specs.Window.{window_range}
use Rattle.bitvec_base.specs.WritesLaws.{length-list, within-list}
use Rattle.bitvec_within.proofs.needles.stands_at_in.Goals as goal

pub returns-then-end-left_window : goal.returns-then-end-left_window
returns-then-end-left_window g c =
    let left = length-list g.O.BitOrder.at c.requires.window in
    let right = length-list g.P.BitOrder.at c.requires.right_window in
    sym (stands_at-long _ _ c.args.start (omega arith))

pub returns : goal.returns
returns g c =
    let right = length-list g.P.BitOrder.at c.requires.right_window in
    rw (c.eq_in.ensures, c.range-part.ensures)
    (stands-part _ _ c.args.left_window (window_range c.args.left_window c.args.start (c.args.start + c.args.right_window.len)) c.args.start (within-list g.O.BitOrder.at c.requires.window) (omega arith) (omega arith) (omega arith))
