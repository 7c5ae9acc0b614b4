use Rattle.std.proofs.Common.{arith, rules, ◌+◌}
use Rattle.bitvec_base.specs.MemoryLaws.{length-element_bits}
use Rattle.bitvec_within.proofs.CandidateLemmas.{bits-first, bits-joined, bits-own, bits-passed, starts-all, starts-enough, starts-next}
use Rattle.bitvec_within.proofs.candidates.few_candidates.Goals as goal

pub loop-step-init : goal.loop-step-init
loop-step-init g c =
    let way = g.W.BitOrder.at in
    record {
      has = starts-all way (g.met.W.BitOrder.permutes 64 (search rules)) _ _ _;
      front = bits-first way _ _;
      wanted = bits-own way _;
    }

pub loop-step-preserved : goal.loop-step-preserved
loop-step-preserved g c =
    let way = g.W.BitOrder.at in
    let inv = c.loop-step.invariant in
    let step = c.loop-step.step in
    let needle = length-element_bits 64 way c.args.needle in
    record {
      has = starts-next way (g.met.W.BitOrder.permutes 64 (search rules)) _ _ _ step _ _ _ _ inv.has inv.front inv.wanted c.alike-starts.ensures;
      front = bits-joined way _ _ (step + 1) _ (omega arith) c.joined-front.ensures;
      wanted = bits-passed way _ 0 (step + 1) (step + 1) _ _ (omega arith) (omega arith) (bits-own way _) (omega arith) c.toward_start-wanted.ensures;
    }

pub returns : goal.returns
returns g c = starts-enough g.W.BitOrder.at (g.met.W.BitOrder.permutes 64 (search rules)) _ _ _ c.loop-step.step _ _ (omega arith) c.loop-step.invariant.has
