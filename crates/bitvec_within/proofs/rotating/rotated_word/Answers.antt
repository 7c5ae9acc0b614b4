use Rattle.std.proofs.Common.{arith}
use Rattle.bitvec_within.proofs.Rotated.{rotated-word}
use Rattle.bitvec_within.proofs.rotating.rotated_word.Goals as goal

pub returns : goal.returns
returns g c = rotated-word g.W.BitOrder.at c.args.word _ _ c.args.len c.args.by (omega arith) (omega arith) c.moved-first.ensures c.moved-last.ensures
