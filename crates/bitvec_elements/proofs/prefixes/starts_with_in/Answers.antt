use Rattle.std.proofs.Common.{ℕ, ◌<◌, ◌≤◌, min, arith, sym, ◌∙◌, ⊎_elim}
use Rattle.std.proofs.lemmas.Bool.{cases_lt}
use Rattle.bitvec_base.specs.CompareLaws.{same-unequal}
use Rattle.bitvec_base.specs.ListsLaws.{is_prefix-long}
use Rattle.bitvec_base.specs.NeedleLaws.{prefix-part}
use Rattle.bitvec_base.specs.Window.{window_range}
use Rattle.bitvec_base.specs.WritesLaws.{HasWindow-range, within-list, length-list}
use Rattle.bitvec_elements.proofs.prefixes.starts_with_in.Goals as goal

pub returns : goal.returns
returns g c =
    let at = g.O.BitOrder.at in
    let window = c.args.left_window in
    let n : ℕ = min c.args.right_window.len window.len in
    let list = length-list at c.requires.window in
    let right = length-list g.P.BitOrder.at c.requires.right_window in
    let head = length-list at (HasWindow-range 0 n c.requires.window (omega arith) (omega arith)) in
    rw (c.eq_in.ensures, c.range-head.ensures, c.min.ensures)
    (⊎_elim
    (λ (long : window.len < c.args.right_window.len). sym (same-unequal _ _ head right (omega arith)) ∙ sym (is_prefix-long _ _ (omega arith)))
    (λ (fits : c.args.right_window.len ≤ window.len). prefix-part _ _ window (window_range window 0 n) (within-list at c.requires.window) (omega arith) (omega arith) (omega arith))
    (cases_lt window.len c.args.right_window.len))
