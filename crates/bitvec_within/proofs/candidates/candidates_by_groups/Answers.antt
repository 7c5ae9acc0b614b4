use Rattle.std.proofs.Common.{arith, rules, ◌+◌, ◌-◌}
use Rattle.std.proofs.lemmas.List.{length-append}
use Rattle.bitvec_base.specs.Memory.{element_bits}
use Rattle.bitvec_base.specs.MemoryLaws.{length-element_bits}
use Rattle.bitvec_within.proofs.CandidateLemmas.{bits-first, bits-moved, bits-own, bits-passed, bits-second, starts-all, starts-more}
use Rattle.bitvec_within.proofs.candidates.candidates_by_groups.Goals as goal

pub loop-step-init : goal.loop-step-init
loop-step-init g c =
    let way = g.W.BitOrder.at in
    record {
      bound = omega arith;
      has = starts-all way (g.met.W.BitOrder.permutes 64 (search rules)) _ _ _;
      front = bits-first way _ _;
      behind = bits-second way _ _;
      wanted = bits-own way _;
    }

pub loop-step-preserved : goal.loop-step-preserved
loop-step-preserved g c =
    let way = g.W.BitOrder.at in
    let inv = c.loop-step.invariant in
    let step = c.loop-step.step in
    let low = length-element_bits 64 way c.args.low in
    let high = length-element_bits 64 way c.args.high in
    let needle = length-element_bits 64 way c.args.needle in
    let both = length-append (element_bits 64 way c.args.low) (element_bits 64 way c.args.high) in
    record {
      bound = omega arith;
      has = starts-more way (g.met.W.BitOrder.permutes 64 (search rules)) _ _ _ step 8 (step + 8) _ _ _ _ _ (omega arith) (omega arith) inv.has inv.front inv.behind inv.wanted c.few_candidates-starts.ensures;
      front = bits-moved way _ step 8 _ _ _ (omega arith) inv.front inv.behind c.joined-front.ensures;
      behind = bits-passed way _ (step + 64) 8 (step + 8 + 64) _ _ (omega arith) (omega arith) inv.behind (omega arith) c.toward_start-behind.ensures;
      wanted = bits-passed way _ step 8 (step + 8) _ _ (omega arith) (omega arith) inv.wanted (omega arith) c.toward_start-wanted.ensures;
    }

pub returns-then-starts-eq0 : goal.returns-then-starts-eq0
returns-then-starts-eq0 g c =
    let inv = c.loop-step.invariant in
    starts-more g.W.BitOrder.at (g.met.W.BitOrder.permutes 64 (search rules)) _ _ _ c.loop-step.step 8 c.args.count _ _ _ _ _ (omega arith) (omega arith) inv.has inv.front inv.behind inv.wanted c.few_candidates-starts.ensures

pub returns : goal.returns
returns g c =
    let inv = c.loop-step.invariant in
    let step = c.loop-step.step in
    starts-more g.W.BitOrder.at (g.met.W.BitOrder.permutes 64 (search rules)) _ _ _ step (c.args.count - step) c.args.count _ _ _ _ _ (omega arith) (omega arith) inv.has inv.front inv.behind inv.wanted c.few_candidates.ensures
