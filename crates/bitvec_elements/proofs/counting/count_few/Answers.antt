use Rattle.std.proofs.Common.{arith}
use Rattle.bitvec_few.proofs.FewLemmas.{word-ones}
use Rattle.bitvec_elements.proofs.counting.count_few.Goals as goal

pub returns : goal.returns
returns g c = word-ones g.W.BitOrder.at g.met.W.BitOrder.permutes c.load_parts.result _ (omega arith) (rw c.new.ensures.numbers at c.load_parts.ensures.value)
