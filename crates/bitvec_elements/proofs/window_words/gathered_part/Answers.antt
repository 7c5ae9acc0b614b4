use Rattle.std.proofs.Common.{◌/◌, ◌<◌, ap, arith, ◌∙◌}
use Rattle.bitvec_base.specs.Memory.{element_bits}
use Rattle.bitvec_base.specs.MemoryLaws.{length-element_bits}
use Rattle.bitvec_base.specs.PartLaws.{element-none}
use Rattle.bitvec_words.specs.ShortWindow.{padded}
use Rattle.bitvec_words.specs.MovedLaws.{padded-none}
use Rattle.bitvec_passes.proofs.WordLemmas.{eights-all, eights-next, eights-none, eights-whole}
use Rattle.bitvec_elements.proofs.window_words.gathered_part.Goals as goal

pub loop-step-init : goal.loop-step-init
loop-step-init g c = element-none 64 g.W.BitOrder.at ∙ padded-none 64 ∙ eights-none (element_bits g.T.BitStore.BITS g.O.BitOrder.at (g.T.BitStore.value c.args.element))

pub loop-step-preserved : goal.loop-step-preserved
loop-step-preserved g c =
    let b = g.T.BitStore.BITS in
    let width = length-element_bits b g.O.BitOrder.at (g.T.BitStore.value c.args.element) in
    let whole = eights-whole b g.met.T.BitStore.width_law in
    let bits = c.BITS-bits.ensures in
    let below : c.loop-step.step < b / 8 = rw bits at c.loop-step-test.true in
    eights-next g.W.BitOrder.at _ _ _ _ c.loop-step.step (omega arith) (omega arith) c.gathered-few.ensures c.moved-word.ensures c.loop-step.invariant

pub returns : goal.returns
returns g c =
    let b = g.T.BitStore.BITS in
    let width = length-element_bits b g.O.BitOrder.at (g.T.BitStore.value c.args.element) in
    c.loop-step.invariant
    ∙ ap (padded 64) (eights-all b c.loop-step.step c.args.part.from c.args.part.to _ g.met.T.BitStore.width_law width c.requires.order c.requires.bound (rw (c.BITS-bits.ensures, c.len.ensures) at c.if-len-bits.false) (rw c.BITS-bits.ensures at c.loop-step-test.false) (rw c.BITS-bits.ensures at c.loop-step.auto.step-end))
