use Rattle.std.proofs.Common.{◌-◌, arith, rules, sym, ◌∙◌}
use Rattle.std.specs.List.{swap}
use Rattle.bitvec_base.specs.ReversalLaws.{mirror-none, mirror-step, mirror-all}
use Rattle.bitvec_base.specs.WritesLaws.{length-list, Writes-is, Writes-start, Writes-next}
use Rattle.bitvec_passes.proofs.by_bits.bits_reverse.Goals as goal

pub loop-low-init : goal.loop-low-init
loop-low-init g c =
    let has = c.requires in
    record {
      ends = omega arith;
      order = omega arith;
      writes = Writes-start has (mirror-none (sym (length-list g.O.BitOrder.at has)));
      cost = search rules;
    }

pub loop-low-preserved : goal.loop-low-preserved
loop-low-preserved g c =
    let has = c.requires in
    let inv = c.loop-low.invariant in
    let low = c.loop-low.low in
    let high = c.loop-low.high in
    record {
      ends = omega arith;
      order = omega arith;
      writes = Writes-next (λ l. swap l low (high - 1)) has inv.writes c.swap_bits.ensures.writes
          (mirror-step _ low high (inv.ends ∙ sym (length-list g.O.BitOrder.at has)) (omega arith));
      cost = search rules;
    }

pub returns-clause-writes : goal.returns-clause-writes
returns-clause-writes g c =
    let inv = c.loop-low.invariant in
    Writes-is inv.writes (mirror-all _ c.loop-low.low c.loop-low.high (inv.ends ∙ sym (length-list g.O.BitOrder.at c.requires)) inv.order (omega arith))
