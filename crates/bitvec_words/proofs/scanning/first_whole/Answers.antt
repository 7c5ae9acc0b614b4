use Rattle.std.proofs.Common.{◌+◌, ◌-◌, ◌*◌, arith, rules, sym, ◌∙◌, ap, Bool, List, ◌≡◌}
use Rattle.std.proofs.Math.Nat.{mul-le-mul_left}
use Rattle.bitvec_store.specs.WidthLaws.{width_some}
use Rattle.bitvec_base.specs.Lists.{first_place}
use Rattle.bitvec_base.specs.PlacesLaws.{first_place-nil}
use Rattle.bitvec_words.specs.TouchedLaws.{touched-first, touched-whole}
use Rattle.bitvec_words.specs.WholeLaws.{list-empty}
use Rattle.bitvec_words.proofs.CostLemmas.{reads-exact, reads-most}
use Rattle.bitvec_words.proofs.ScanLemmas.{first-below, first-inside, first-must, first-passed}
use Rattle.bitvec_words.proofs.SplitLemmas.{elements-split, first-element_has, first-element_lacks, first-loads_behind}
use Rattle.bitvec_words.proofs.PlaceLemmas.{element-inside}
use Rattle.bitvec_words.proofs.scanning.first_whole.Goals as goal

pub loop-step-init : goal.loop-step-init
loop-step-init g c = record {
  none = sym (ap (λ (l : List Bool). first_place c.args.want l) (list-empty _ _ _ _ (omega arith)) ∙ first_place-nil c.args.want);
  reads = search rules;
}

pub load-element-requires : goal.load-element-requires
load-element-requires g c = rw c.loop-step.invariant.reads.numbers (element-inside _ _ c.args.first c.args.count _ (width_some _ g.met.C.Elem.BitStore.width_law) c.requires c.loop-step-test.true)

pub returns-in_err-found : goal.returns-in_err-found
returns-in_err-found g c =
    absurd (first-must _ g.O.BitOrder.at (g.met.O.BitOrder.permutes _ g.met.C.Elem.BitStore.width_law) _ _ _ c.args.want (c.to_u128.ensures.number ∙ c.xor.ensures) c.if-to_u128-ne0.true c.load-element.ensures.in_range c.filled-lacking.ensures c.in_err-found.ensures)

pub bit_behind-requires : goal.bit_behind-requires
bit_behind-requires g c =
    let inv = c.loop-step.invariant in
    let found = first-element_has _ g.O.BitOrder.at _ c.args.want (width_some _ g.met.C.Elem.BitStore.width_law) c.requires c.loop-step-test.true (rw inv.reads.numbers at c.load-element.ensures.value) inv.none _ c.in_ok-found.ensures in
    let below = first-inside _ g.O.BitOrder.at _ _ c.args.want _ c.requires found in
    omega arith

pub returns-then-to_u128-ne0 : goal.returns-then-to_u128-ne0
returns-then-to_u128-ne0 g c =
    let b = g.C.Elem.BitStore.BITS in
    let inv = c.loop-step.invariant in
    let some = width_some b g.met.C.Elem.BitStore.width_law in
    let below = first-below b g.O.BitOrder.at _ _ c.args.want c.in_ok-found.ensures in
    let left = mul-le-mul_left {m = 1} {n = c.args.count - c.loop-step.step} b (omega arith) in
    let most = first-loads_behind (elements-split b c.args.first c.args.count c.loop-step.step some (omega arith)) some c.in_ok-found.found (omega arith) in
    let whole = touched-whole b c.args.first c.loop-step.step some in
    let one = touched-first b ((c.args.first + c.loop-step.step) * b) (c.in_ok-found.found + 1) (omega arith) in
    rw c.bit_behind.ensures
    (record {
      value = first-element_has b g.O.BitOrder.at _ c.args.want some c.requires c.loop-step-test.true (rw inv.reads.numbers at c.load-element.ensures.value) inv.none _ c.in_ok-found.ensures;
      reads = record { numbers = search rules; borrow = search rules; loads = omega arith; stores = search rules };
    })

pub loop-step-preserved : goal.loop-step-preserved
loop-step-preserved g c =
    let b = g.C.Elem.BitStore.BITS in
    let inv = c.loop-step.invariant in
    let width = g.met.C.Elem.BitStore.width_law in
    record {
      none = first-element_lacks b g.O.BitOrder.at _ c.args.want (width_some _ width) c.requires c.loop-step-test.true (rw inv.reads.numbers at c.load-element.ensures.value) inv.none
          (first-passed b g.O.BitOrder.at (g.met.O.BitOrder.permutes _ width) _ _ _ c.args.want c.xor.ensures (sym c.to_u128.ensures.number ∙ c.if-to_u128-ne0.false) c.filled-lacking.ensures);
      reads = search rules;
    }

pub returns : goal.returns
returns g c =
    let all : c.loop-step.step ≡ c.args.count = omega arith in
    let whole = touched-whole g.C.Elem.BitStore.BITS c.args.first c.args.count (width_some _ g.met.C.Elem.BitStore.width_law) in
    let inv = rw all at c.loop-step.invariant in
    record { value = inv.none; reads = reads-most (reads-exact inv.reads) (omega arith) }
