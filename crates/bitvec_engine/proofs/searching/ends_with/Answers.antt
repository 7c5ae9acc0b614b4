use Rattle.std.proofs.Common.{◌-◌, ◌∙◌, arith, sym}
use Rattle.std.proofs.lemmas.Bool.{lt-leb}
use Rattle.bitvec_base.specs.ListsLaws.{is_suffix-long}
use Rattle.bitvec_base.specs.NeedleLaws.{suffix-part}
use Rattle.bitvec_base.specs.Window.{window_after}
use Rattle.bitvec_base.specs.WritesLaws.{length-list, within-list}
use Rattle.bitvec_engine.proofs.searching.ends_with.Goals as goal

pub returns-then-needle-window-clause-value : goal.returns-then-needle-window-clause-value
returns-then-needle-window-clause-value g c =
    let right = length-list g.O.BitOrder.at c.requires.right_window in
    rw (c.block_eq.ensures.value, c.after.ensures)
    (suffix-part _ _ c.args.window (window_after (c.args.window.len - c.args.needle.len) c.args.window) (within-list g.O.BitOrder.at c.requires.window) (omega arith) (omega arith) (omega arith))

pub returns-else-needle-window-clause-value : goal.returns-else-needle-window-clause-value
returns-else-needle-window-clause-value g c =
    let left = length-list g.O.BitOrder.at c.requires.window in
    let right = length-list g.O.BitOrder.at c.requires.right_window in
    lt-leb _ _ c.if-needle-window.false ∙ sym (is_suffix-long _ _ (omega arith))
