use Rattle.std.proofs.Common.{arith, rules}
use Rattle.bitvec_within.proofs.CandidateLemmas.{starts-enough}
use Rattle.bitvec_within.proofs.candidates.candidates.Goals as goal

pub returns-then-starts-eq0 : goal.returns-then-starts-eq0
returns-then-starts-eq0 g c = starts-enough g.W.BitOrder.at (g.met.W.BitOrder.permutes 64 (search rules)) _ _ _ 8 c.args.count _ (omega arith) c.few_candidates-starts.ensures
