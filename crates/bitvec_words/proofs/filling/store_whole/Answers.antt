use Rattle.bitvec_words.proofs.WordScanLemmas.{elements-bound}
use Rattle.std.proofs.Common.{◌+◌, ◌∙◌, arith, rules}
use Rattle.std.proofs.Math.Nat.{mul-le-mul_left}
use Rattle.std.proofs.lemmas.List.{length-set}
use Rattle.bitvec_store.specs.WidthLaws.{width_some}
use Rattle.bitvec_words.specs.FieldLaws.{element_of}
use Rattle.bitvec_words.specs.FillingLaws.{Writes-filled, Writes-none_filled}
use Rattle.bitvec_words.proofs.filling.store_whole.Goals as goal

pub loop-step-init : goal.loop-step-init
loop-step-init g c = record {
  writes = λ bit is. Writes-none_filled _ _ bit c.requires;
  elements = search rules;
  cost = search rules;
}

pub store-requires : goal.store-requires
store-requires g c =
    let inv = c.loop-step.invariant in
    let more = c.loop-step-test.true in
    let order = mul-le-mul_left g.C.Elem.BitStore.BITS more in
    let some = width_some _ g.met.C.Elem.BitStore.width_law in
    rw inv.elements (element_of g.C.Elem.BitStore.BITS (c.args.first + c.loop-step.step) 0 _ (omega arith))

pub loop-step-preserved : goal.loop-step-preserved
loop-step-preserved g c =
    let inv = c.loop-step.invariant in
    let width = g.met.C.Elem.BitStore.width_law in
    record {
      writes = λ bit is. rw (c.store.ensures.numbers, is)
          (Writes-filled (g.met.O.BitOrder.permutes _ width) _ bit (width_some _ width) c.requires c.loop-step-test.true (inv.writes bit is));
      elements = rw c.store.ensures.numbers (length-set _ _ _ ∙ inv.elements);
      cost = search rules;
    }

pub overflow_add-first : goal.overflow_add-first
overflow_add-first g c =
    let bound = elements-bound _ (λ e i. i) _ c.args.first _ c.requires (width_some _ g.met.C.Elem.BitStore.width_law) in
    record { fits = omega arith }
