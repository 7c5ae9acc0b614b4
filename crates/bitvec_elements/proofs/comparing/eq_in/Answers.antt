use Rattle.bitvec_base.specs.CompareLaws.{same-unequal}
use Rattle.bitvec_base.specs.WritesLaws.{length-list}
use Rattle.bitvec_elements.proofs.comparing.eq_in.Goals as goal

pub returns-then-left_window-right_window : goal.returns-then-left_window-right_window
returns-then-left_window-right_window g c =
    same-unequal _ _ (length-list _ c.requires.window) (length-list _ c.requires.right_window) c.if-left_window-right_window.true
