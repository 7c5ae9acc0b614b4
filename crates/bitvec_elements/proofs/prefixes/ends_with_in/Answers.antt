use Rattle.std.proofs.Common.{ℕ, ◌-◌, ◌<◌, ◌≤◌, arith, sym, ◌∙◌, ⊎_elim}
use Rattle.std.proofs.lemmas.Bool.{cases_lt}
use Rattle.bitvec_base.specs.CompareLaws.{same-unequal}
use Rattle.bitvec_base.specs.ListsLaws.{is_suffix-long}
use Rattle.bitvec_base.specs.NeedleLaws.{suffix-part}
use Rattle.bitvec_base.specs.Window.{window_after}
use Rattle.bitvec_base.specs.WritesLaws.{HasWindow-range, within-list, length-list}
use Rattle.bitvec_elements.proofs.prefixes.ends_with_in.Goals as goal

pub returns : goal.returns
returns g c =
    let at = g.O.BitOrder.at in
    let window = c.args.left_window in
    let n : ℕ = window.len - c.args.right_window.len in
    let list = length-list at c.requires.window in
    let right = length-list g.P.BitOrder.at c.requires.right_window in
    let tail = length-list at (HasWindow-range n window.len c.requires.window (omega arith) (omega arith)) in
    rw (c.eq_in.ensures, c.after-tail.ensures, c.saturating_sub.ensures)
    (⊎_elim
    (λ (long : window.len < c.args.right_window.len). sym (same-unequal _ _ tail right (omega arith)) ∙ sym (is_suffix-long _ _ (omega arith)))
    (λ (fits : c.args.right_window.len ≤ window.len). suffix-part _ _ window (window_after n window) (within-list at c.requires.window) (omega arith) (omega arith) (omega arith))
    (cases_lt window.len c.args.right_window.len))
