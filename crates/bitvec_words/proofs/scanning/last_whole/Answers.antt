use Rattle.std.proofs.Common.{◌≡◌, ◌≤◌, ℕ, ◌+◌, ◌-◌, ◌*◌, ◌/◌, ◌%◌, arith, rules, refl, sym, ◌∙◌, ap, Bool, List}
use Rattle.bitvec_store.specs.WidthLaws.{width_some}
use Rattle.bitvec_base.specs.Lists.{last_place}
use Rattle.bitvec_base.specs.PlacesLaws.{last_place-nil}
use Rattle.bitvec_words.specs.TouchedLaws.{touched-whole}
use Rattle.bitvec_words.specs.WholeLaws.{list-empty}
use Rattle.bitvec_words.proofs.CostLemmas.{reads-both}
use Rattle.bitvec_words.proofs.ScanLemmas.{last-inside}
use Rattle.bitvec_words.proofs.SplitLemmas.{HasWindow-front, elements-split, last-loads_front, split-last_front}
use Rattle.bitvec_words.proofs.TurnLemmas.{HasWindow-turn, last-turn, last-turn_has, last-turn_loads}
use Rattle.bitvec_words.proofs.scanning.last_whole.Goals as goal

pub loop-step-init : goal.loop-step-init
loop-step-init g c =
    let none : c.args.count - (c.args.count % 4 + c.args.count / 4 * 4) ≡ 0 = omega arith in
    let empty : (c.args.count - (c.args.count % 4 + c.args.count / 4 * 4)) * g.C.Elem.BitStore.BITS ≡ 0 = rw none (omega arith) in
    record {
      none = sym (ap (λ (l : List Bool). last_place c.args.want l) (list-empty _ _ _ _ empty) ∙ last_place-nil c.args.want);
      reads = search rules;
    }

pub last_of_turn-requires : goal.last_of_turn-requires
last_of_turn-requires g c =
    let some = width_some _ g.met.C.Elem.BitStore.width_law in
    rw c.loop-step.invariant.reads.numbers
    (HasWindow-turn g.C.Elem.BitStore.BITS g.O.BitOrder.at _ c.args.first c.args.count (c.args.count % 4 + (c.loop-step.step - 1) * 4) 4 (c.args.count % 4 + c.loop-step.step * 4) c.args.want some c.requires (omega arith) (omega arith))

pub returns-in-Some : goal.returns-in-Some
returns-in-Some g c =
    let b = g.C.Elem.BitStore.BITS in
    let at = g.O.BitOrder.at in
    let some = width_some _ g.met.C.Elem.BitStore.width_law in
    let inv = c.loop-step.invariant in
    let here = rw inv.reads.numbers at c.in-Some.ensures.value in
    let passed : ℕ = c.args.count % 4 + (c.loop-step.step - 1) * 4 in
    let next : ℕ = c.args.count % 4 + c.loop-step.step * 4 in
    let sum : passed + 4 ≡ next = omega arith in
    let within : next ≤ c.args.count = omega arith in
    let loads = last-turn_loads b at _ c.args.first c.args.count passed 4 next c.args.want some c.requires sum within _ here in
    rw c.bit_behind.ensures
    (record {
      value = last-turn_has b at _ c.args.first c.args.count passed 4 next c.args.want some c.requires sum within inv.none _ here;
      reads = reads-both inv.reads c.in-Some.ensures.reads (omega arith);
    })

pub loop-step-preserved : goal.loop-step-preserved
loop-step-preserved g c =
    let b = g.C.Elem.BitStore.BITS in
    let at = g.O.BitOrder.at in
    let some = width_some _ g.met.C.Elem.BitStore.width_law in
    let inv = c.loop-step.invariant in
    let here = rw inv.reads.numbers at c.in_default.ensures.value in
    let passed : ℕ = c.args.count % 4 + (c.loop-step.step - 1) * 4 in
    let next : ℕ = c.args.count % 4 + c.loop-step.step * 4 in
    let sum : passed + 4 ≡ next = omega arith in
    let within : next ≤ c.args.count = omega arith in
    let turn = touched-whole b (c.args.first + passed) 4 some in
    record {
      none = last-turn b at _ c.args.first c.args.count passed 4 next c.args.want some c.requires sum within inv.none _ here;
      reads = reads-both inv.reads c.in_default.ensures.reads (omega arith);
    }

pub last_of_turn-requires-2 : goal.last_of_turn-requires-2
last_of_turn-requires-2 g c =
    let some = width_some _ g.met.C.Elem.BitStore.width_law in
    rw c.loop-step.invariant.reads.numbers (HasWindow-front (elements-split g.C.Elem.BitStore.BITS c.args.first c.args.count (c.args.count % 4) some (omega arith)) c.requires)

pub returns : goal.returns
returns g c =
    let b = g.C.Elem.BitStore.BITS in
    let at = g.O.BitOrder.at in
    let some = width_some _ g.met.C.Elem.BitStore.width_law in
    let inv = c.loop-step.invariant in
    let left : ℕ = c.args.count % 4 in
    let same : left + c.loop-step.step * 4 ≡ left = omega arith in
    let none = rw same at inv.none in
    let split = elements-split b c.args.first c.args.count left some (omega arith) in
    let here = rw inv.reads.numbers at c.last_of_turn-2.ensures.value in
    let behind = touched-whole b (c.args.first + left) (c.args.count - left) some in
    let loads = last-loads_front split some _ (last-inside at c.args.want (HasWindow-front split c.requires) here) in
    record {
      value = split-last_front split at c.requires c.args.want _ none here;
      reads = reads-both inv.reads c.last_of_turn-2.ensures.reads (omega arith);
    }

pub bit_behind-requires : goal.bit_behind-requires
bit_behind-requires g c =
    let b = g.C.Elem.BitStore.BITS in
    let at = g.O.BitOrder.at in
    let some = width_some _ g.met.C.Elem.BitStore.width_law in
    let inv = c.loop-step.invariant in
    let here = rw inv.reads.numbers at c.in-Some.ensures.value in
    let passed : ℕ = c.args.count % 4 + (c.loop-step.step - 1) * 4 in
    let found = last-turn_has b at _ c.args.first c.args.count passed 4 (c.args.count % 4 + c.loop-step.step * 4) c.args.want some c.requires (omega arith) (omega arith) inv.none _ here in
    let below = last-inside at c.args.want c.requires found _ refl in
    omega arith
