use Rattle.bitvec_words.proofs.WordScanLemmas.{elements-bound}
use Rattle.bitvec_words.proofs.PlaceLemmas.{element-inside}
use Rattle.std.proofs.Common.{◌≡◌, ◌+◌, arith, rules, sym, ap, Bool, List, count_by}
use Rattle.std.proofs.Math.Nat.{mul-le-mul_left}
use Rattle.bitvec_store.specs.WidthLaws.{width_some}
use Rattle.bitvec_words.specs.Elements.{elements_window}
use Rattle.bitvec_words.specs.WholeLaws.{HasWindow-part, list-empty}
use Rattle.bitvec_words.proofs.CountLemmas.{count-element, count-within}
use Rattle.bitvec_words.proofs.counting.count_elements.Goals as goal

pub loop-step-init : goal.loop-step-init
loop-step-init g c = record {
  ones = ap (λ (l : List Bool). count_by (λ (bit : Bool). bit) l) (sym (list-empty _ _ _ _ (omega arith)));
  reads = search rules;
}

pub overflow_add-ones : goal.overflow_add-ones
overflow_add-ones g c =
    let b = g.C.Elem.BitStore.BITS in
    let inv = c.loop-step.invariant in
    let width = g.met.C.Elem.BitStore.width_law in
    let more = c.loop-step-test.true in
    let value = rw inv.reads.numbers at c.load.ensures.value in
    let order = mul-le-mul_left b more in
    let ones = count-element b g.O.BitOrder.at (g.met.O.BitOrder.permutes _ width) _ (width_some _ width) c.requires more value c.load.ensures.in_range inv.ones c.count_ones.ensures in
    let most = count-within g.O.BitOrder.at
    (HasWindow-part (elements_window b c.args.first (c.loop-step.step + 1)) c.requires (omega arith) (omega arith))
    ones in
    omega arith

pub loop-step-preserved : goal.loop-step-preserved
loop-step-preserved g c =
    let b = g.C.Elem.BitStore.BITS in
    let inv = c.loop-step.invariant in
    let width = g.met.C.Elem.BitStore.width_law in
    let value = rw inv.reads.numbers at c.load.ensures.value in
    record {
      ones = count-element b g.O.BitOrder.at (g.met.O.BitOrder.permutes _ width) _ (width_some _ width) c.requires c.loop-step-test.true value c.load.ensures.in_range inv.ones c.count_ones.ensures;
      reads = search rules;
    }

pub overflow_add-first : goal.overflow_add-first
overflow_add-first g c =
    let bound = elements-bound _ (λ e i. i) _ c.args.first _ c.requires (width_some _ g.met.C.Elem.BitStore.width_law) in
    record { fits = omega arith }

pub load-requires : goal.load-requires
load-requires g c = rw c.loop-step.invariant.reads.numbers (element-inside _ _ c.args.first c.args.count _ (width_some _ g.met.C.Elem.BitStore.width_law) c.requires c.loop-step-test.true)

pub returns-clause-value : goal.returns-clause-value
returns-clause-value g c =
    let all : c.loop-step.step ≡ c.args.count = omega arith in
    rw all at c.loop-step.invariant.ones
