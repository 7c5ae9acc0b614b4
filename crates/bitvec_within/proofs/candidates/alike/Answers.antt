use Rattle.std.proofs.Common.{arith, rules, ◌∙◌}
use Rattle.bitvec_within.proofs.CandidateLemmas.{bit-not_tested, bit-tested, complement-has}
use Rattle.bitvec_within.proofs.candidates.alike.Goals as goal

pub returns-then-wanted-select-eq0 : goal.returns-then-wanted-select-eq0
returns-then-wanted-select-eq0 g c i below same =
    complement-has g.W.BitOrder.at (g.met.W.BitOrder.permutes 64 (search rules)) _ i below (omega arith) (same ∙ bit-not_tested g.W.BitOrder.at _ _ (omega arith) (rw c.select.ensures at c.if-wanted-select-eq0.true))

pub returns : goal.returns
returns g c i below same = same ∙ bit-tested g.W.BitOrder.at _ _ (omega arith) (rw c.select.ensures at c.if-wanted-select-eq0.false)
