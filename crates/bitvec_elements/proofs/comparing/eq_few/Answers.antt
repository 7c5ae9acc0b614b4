use Rattle.std.proofs.Common.{◌∙◌, arith, sym}
use Rattle.bitvec_base.specs.WritesLaws.{length-list}
use Rattle.bitvec_few.proofs.FewLemmas.{same-words}
use Rattle.bitvec_elements.proofs.comparing.eq_few.Goals as goal

pub returns : goal.returns
returns g c =
    let left = length-list g.W.BitOrder.at c.requires.window in
    let right = length-list g.W.BitOrder.at c.requires.right_window in
    same-words g.W.BitOrder.at g.met.W.BitOrder.permutes _ _ _ _ (omega arith) (omega arith) (left ∙ c.requires.lengths ∙ sym right) (rw c.new.ensures.numbers at c.load_parts-word.ensures.value) (rw c.new-2.ensures.numbers at c.load_parts.ensures.value)
