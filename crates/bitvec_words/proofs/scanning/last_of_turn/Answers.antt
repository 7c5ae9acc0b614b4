use Rattle.std.proofs.Common.{◌≡◌, ◌<◌, ℕ, ◌+◌, ◌-◌, ◌*◌, arith, rules, refl, sym, ◌∙◌, ap, Bool, List, Some}
use Rattle.bitvec_store.specs.WidthLaws.{width_some}
use Rattle.bitvec_base.specs.Lists.{last_place}
use Rattle.bitvec_base.specs.PlacesLaws.{last_place-nil}
use Rattle.bitvec_words.specs.Elements.{elements_window}
use Rattle.bitvec_words.specs.TouchedLaws.{touched-whole}
use Rattle.bitvec_words.specs.WholeLaws.{list-empty}
use Rattle.bitvec_words.proofs.CostLemmas.{reads-exact, reads-most}
use Rattle.bitvec_words.proofs.ScanLemmas.{last-below, last-inside, last-must, last-passed, last_loads-some}
use Rattle.bitvec_words.proofs.SplitLemmas.{elements-split, last-element_has, last-element_lacks, last-loads_front}
use Rattle.bitvec_words.proofs.PlaceLemmas.{element-inside}
use Rattle.bitvec_words.proofs.scanning.last_of_turn.Goals as goal

pub loop-step-init : goal.loop-step-init
loop-step-init g c =
    let none : c.args.count - c.args.count ≡ 0 = omega arith in
    let empty : (c.args.count - c.args.count) * g.C.Elem.BitStore.BITS ≡ 0 = rw none (omega arith) in
    record {
      none = sym (ap (λ (l : List Bool). last_place c.args.want l) (list-empty _ _ _ _ empty) ∙ last_place-nil c.args.want);
      reads = search rules;
    }

pub load-element-requires : goal.load-element-requires
load-element-requires g c =
    rw c.loop-step.invariant.reads.numbers (element-inside _ _ c.args.first c.args.count (c.loop-step.step - 1) (width_some _ g.met.C.Elem.BitStore.width_law) c.requires (omega arith))

pub returns-in_err-found : goal.returns-in_err-found
returns-in_err-found g c =
    let b = g.C.Elem.BitStore.BITS in
    let at = g.O.BitOrder.at in
    absurd (last-must b at (g.met.O.BitOrder.permutes _ g.met.C.Elem.BitStore.width_law) _ _ _ c.args.want (c.to_u128.ensures.number ∙ c.xor.ensures) c.if-to_u128-ne0.true c.load-element.ensures.in_range c.filled-lacking.ensures c.in_err-found.ensures)

pub bit_behind-requires : goal.bit_behind-requires
bit_behind-requires g c =
    let b = g.C.Elem.BitStore.BITS in
    let at = g.O.BitOrder.at in
    let inv = c.loop-step.invariant in
    let here = c.in_ok-found.ensures in
    let found = last-element_has b at _ c.args.want (width_some _ g.met.C.Elem.BitStore.width_law) c.requires (omega arith) (rw inv.reads.numbers at c.load-element.ensures.value) _ (omega arith) inv.none _ here in
    let below = last-inside at c.args.want c.requires found _ refl in
    omega arith

pub returns-then-to_u128-ne0 : goal.returns-then-to_u128-ne0
returns-then-to_u128-ne0 g c =
    let b = g.C.Elem.BitStore.BITS in
    let at = g.O.BitOrder.at in
    let inv = c.loop-step.invariant in
    let load = c.load-element.ensures in
    let some = width_some _ g.met.C.Elem.BitStore.width_law in
    let here = c.in_ok-found.ensures in
    let below = last-below b at _ _ c.args.want here in
    let upto : ℕ = c.loop-step.step - 1 + 1 in
    let inside : (i : ℕ) → Some ((c.loop-step.step - 1) * b + c.in_ok-found.found) ≡ Some i → i < upto * b = λ i is. (let same : (c.loop-step.step - 1) * b + c.in_ok-found.found ≡ i = cc in omega arith) in
    let most = last-loads_front (elements-split b c.args.first c.args.count upto some (omega arith)) some _ inside in
    let one = last_loads-some b (elements_window b c.args.first upto) _ (omega arith) inside in
    let left = touched-whole b (c.args.first + upto) (c.args.count - upto) some in
    rw c.bit_behind.ensures
    (record {
      value = last-element_has b at _ c.args.want some c.requires (omega arith) (rw inv.reads.numbers at c.load-element.ensures.value) _ (omega arith) inv.none _ here;
      reads = record { numbers = load.numbers ∙ inv.reads.numbers; borrow = load.borrow ∙ inv.reads.borrow; loads = omega arith; stores = load.stores ∙ inv.reads.stores };
    })

pub loop-step-preserved : goal.loop-step-preserved
loop-step-preserved g c =
    let b = g.C.Elem.BitStore.BITS in
    let at = g.O.BitOrder.at in
    let inv = c.loop-step.invariant in
    let load = c.load-element.ensures in
    let width = g.met.C.Elem.BitStore.width_law in
    record {
      none = last-element_lacks b at _ c.args.want (width_some _ width) c.requires (omega arith) (rw inv.reads.numbers at c.load-element.ensures.value) _ (omega arith) inv.none
          (last-passed b at (g.met.O.BitOrder.permutes _ width) _ _ _ c.args.want c.xor.ensures (sym c.to_u128.ensures.number ∙ c.if-to_u128-ne0.false) c.filled-lacking.ensures);
      reads = record { numbers = load.numbers ∙ inv.reads.numbers; borrow = load.borrow ∙ inv.reads.borrow; loads = omega arith; stores = load.stores ∙ inv.reads.stores };
    }

pub returns-clause-reads : goal.returns-clause-reads
returns-clause-reads g c =
    let all = touched-whole g.C.Elem.BitStore.BITS c.args.first c.args.count (width_some _ g.met.C.Elem.BitStore.width_law) in
    reads-most (reads-exact c.loop-step.invariant.reads) (omega arith)
