use Rattle.bitvec_words.proofs.WordScanLemmas.{elements-bound}
use Rattle.std.proofs.Common.{rules, ◌≡◌, arith}
use Rattle.bitvec_store.specs.WidthLaws.{width_some}
use Rattle.bitvec_words.specs.FillingLaws.{Writes-flipped, Writes-none_flipped}
use Rattle.bitvec_words.proofs.PlaceLemmas.{element-inside}
use Rattle.bitvec_words.proofs.filling.invert_whole.Goals as goal

pub loop-step-init : goal.loop-step-init
loop-step-init g c = record {
  writes = Writes-none_flipped _ _ c.requires;
  cost = search rules;
}

pub loop-step-preserved : goal.loop-step-preserved
loop-step-preserved g c =
    let inv = c.loop-step.invariant in
    let width = g.met.C.Elem.BitStore.width_law in
    record {
      writes = rw (c.store.ensures.numbers, c.not.ensures, c.load-element.ensures.numbers)
          (Writes-flipped (g.met.O.BitOrder.permutes _ width) _ (width_some _ width) c.requires c.loop-step-test.true c.load-element.ensures.value c.load-element.ensures.in_range inv.writes);
      cost = search rules;
    }

pub load-element-requires : goal.load-element-requires
load-element-requires g c = rw c.loop-step.invariant.writes.elements (element-inside _ _ c.args.first c.args.count _ (width_some _ g.met.C.Elem.BitStore.width_law) c.requires c.loop-step-test.true)

pub store-requires : goal.store-requires
store-requires g c = rw (c.load-element.ensures.numbers, c.loop-step.invariant.writes.elements) (element-inside _ _ c.args.first c.args.count _ (width_some _ g.met.C.Elem.BitStore.width_law) c.requires c.loop-step-test.true)

pub returns-clause-writes : goal.returns-clause-writes
returns-clause-writes g c =
    let all : c.loop-step.step ≡ c.args.count = omega arith in
    rw all at c.loop-step.invariant.writes

pub returns-clause-cost : goal.returns-clause-cost
returns-clause-cost g c =
    let all : c.loop-step.step ≡ c.args.count = omega arith in
    rw all at c.loop-step.invariant.cost

pub overflow_add-first : goal.overflow_add-first
overflow_add-first g c =
    let bound = elements-bound _ (λ e i. i) _ c.args.first _ c.requires (width_some _ g.met.C.Elem.BitStore.width_law) in
    record { fits = omega arith }

pub overflow_add-first-in-loop-step : goal.overflow_add-first-in-loop-step
overflow_add-first-in-loop-step g c =
    let bound = elements-bound _ (λ e i. i) _ c.args.first _ c.requires (width_some _ g.met.C.Elem.BitStore.width_law) in
    record { fits = omega arith }
