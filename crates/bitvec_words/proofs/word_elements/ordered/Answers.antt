use Rattle.std.proofs.Common.{◌≡◌, ◌/◌, arith, ap, sym, ◌∙◌}
use Rattle.bitvec_base.specs.PartLaws.{element-none}
use Rattle.bitvec_words.specs.ShortWindow.{padded}
use Rattle.bitvec_words.specs.MovedLaws.{padded-none}
use Rattle.bitvec_words.specs.WordLaws.{list-no_element}
use Rattle.bitvec_words.proofs.OrderedLemmas.{word-all, word-next}
use Rattle.bitvec_words.proofs.word_elements.ordered.Goals as goal

pub loop-step-init : goal.loop-step-init
loop-step-init g c = record {
  value = λ xs elements. element-none 64 g.O.BitOrder.at ∙ padded-none 64 ∙ ap (padded 64) (sym (list-no_element g.T.BitStore.BITS g.O.BitOrder.at xs 0));
}

pub loop-step-preserved : goal.loop-step-preserved
loop-step-preserved g c =
    let b = g.T.BitStore.BITS in
    let width = g.met.T.BitStore.width_law in
    let taken = rw c.BITS-bits.ensures at c.moved-element.ensures in
    let moved = rw c.BITS-bits.ensures at c.moved-ordered.ensures in
    record {
      value = λ xs elements. word-next b g.O.BitOrder.at (g.met.O.BitOrder.permutes b width) width c.requires c.args.word xs elements _ _ _ c.loop-step.step (omega arith) (c.loop-step.invariant.value xs elements) taken moved;
    }

pub returns : goal.returns
returns g c = λ xs elements.
    let b = g.T.BitStore.BITS in
    let width = g.met.T.BitStore.width_law in
    let all : c.loop-step.step ≡ 64 / b = omega arith in
    c.loop-step.invariant.value xs elements ∙ word-all b g.O.BitOrder.at (g.met.O.BitOrder.permutes b width) width c.requires c.args.word xs elements c.loop-step.step all
