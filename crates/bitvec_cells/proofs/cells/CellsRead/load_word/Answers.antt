use Rattle.std.proofs.Common.{ℕ, ◌+◌, ◌/◌, ◌<◌, List, drop, slice_index, arith, ap, sym, ◌∙◌, add-one}
use Rattle.std.proofs.lemmas.List.{get_or-drop, length-drop, take_more}
use Rattle.bitvec_store.specs.DigitLaws.{digit-above, digit-most, digit-placed, digits-next}
use Rattle.bitvec_cells.proofs.cells.CellsRead.load_word.Goals as goal

pub overflow_add-word : goal.overflow_add-word
overflow_add-word g c =
    let b = g.Self.Elem.BitStore.BITS in
    let more : c.loop-step.step < 64 / b = omega arith in
    let before = c.loop-step.invariant.below in
    let fits = c.to_u128-element.ensures.in_range in
    let all = digit-most b _ _ _ more before fits in
    let last = digit-above b _ _ _ more before fits in
    rw (c.bits_before.ensures.value, digit-placed b _ _ _ more before fits) (record { fits = omega arith })

pub loop-step-preserved : goal.loop-step-preserved
loop-step-preserved g c =
    let b = g.Self.Elem.BitStore.BITS in
    let step = c.loop-step.step in
    let xs = g.Self.CellsRead.numbers c.args.self.now in
    let more : c.loop-step.step < 64 / b = omega arith in
    let before = c.loop-step.invariant.below in
    let fits = c.to_u128-element.ensures.in_range in
    let rest = length-drop c.args.first xs in
    let element = c.to_u128-element.ensures.number ∙ c.load.ensures.value ∙ ap (λ (l : List ℕ). slice_index l (c.args.first + step)) c.loop-step.invariant.numbers in
    rw (c.bits_before.ensures.value, digit-placed b _ _ _ more before fits) (record {
      digits =
          take_more (drop c.args.first xs) step 0 (omega arith)
          ∙ (rw (c.loop-step.invariant.digits, get_or-drop, ← element, add-one) (sym (digits-next b step _ _ before fits)));
      below = digit-above b _ _ _ more before fits;
      numbers = c.load.ensures.numbers ∙ c.loop-step.invariant.numbers;
      borrow = c.load.ensures.borrow ∙ c.loop-step.invariant.borrow;
      loads = omega arith;
      stores = c.load.ensures.stores ∙ c.loop-step.invariant.stores;
    })
