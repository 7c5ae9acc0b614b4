use Rattle.std.proofs.Common.{◌<◌, length, arith, ap, sym, ◌∙◌, add-one}
use Rattle.std.proofs.lemmas.List.{map_more}
use Rattle.bitvec_store.specs.DigitLaws.{digit-above, digit-most, digit-placed, digits-next}
use Rattle.bitvec_store.proofs.store.BitStore.load_word.Goals as goal

pub overflow_add-word : goal.overflow_add-word
overflow_add-word g c =
    let b = g.Self.BitStore.BITS in
    let more = rw c.BITS.ensures at c.loop-step-test.true in
    let before = c.loop-step.invariant.below in
    let fits = c.to_u128-element.ensures.in_range in
    let all = digit-most b _ _ _ more before fits in
    let last = digit-above b _ _ _ more before fits in
    rw (c.BITS-in-loop-step.ensures, digit-placed b _ _ _ more before fits) (omega arith)

pub loop-step-preserved : goal.loop-step-preserved
loop-step-preserved g c =
    let b = g.Self.BitStore.BITS in
    let value = g.Self.BitStore.value in
    let step = c.loop-step.step in
    let xs = c.args.elements.now in
    let more = rw c.BITS.ensures at c.loop-step-test.true in
    let before = c.loop-step.invariant.below in
    let fits = c.to_u128-element.ensures.in_range in
    let inside : step < length xs = omega arith in
    let element = c.to_u128-element.ensures.number ∙ ap value c.index-elements-step.is in
    rw (c.BITS-in-loop-step.ensures, digit-placed b _ _ _ more before fits) (record {
      digits =
          map_more value xs step c.index-elements-step.result inside
          ∙ (rw (c.loop-step.invariant.digits, ← element, add-one) (sym (digits-next b step _ _ before fits)));
      below = digit-above b _ _ _ more before fits;
    })
