use Rattle.std.proofs.Common.{sym, ◌∙◌}
use Rattle.bitvec_base.specs.WritesLaws.{length-list}
use Rattle.bitvec_elements.proofs.DifferenceLemmas.{common-all}
use Rattle.bitvec_elements.proofs.comparing.eq_many.Goals as goal

pub returns : goal.returns
returns g c =
    common-all _ _ _ _ (length-list g.O.BitOrder.at c.requires.window) (length-list g.P.BitOrder.at c.requires.right_window ∙ sym c.requires.lengths) c.common_bits.ensures
