use Rattle.std.specs.Prelude.{bit_and}
use Rattle.std.proofs.Common.{◌≡◌, ◌+◌, ◌-◌, ◌/◌, ◌%◌, ◌^◌, ℕ, arith, ap, ◌∙◌}
use Rattle.std.proofs.lemmas.Nat.{and_mask}
use Rattle.std.proofs.lemmas.Nat.Bits.{ones_shr}
use Rattle.bitvec_store.specs.WidthLaws.{width_some}
use Rattle.bitvec_segments.proofs.JoinedWindow.{HasWindow-elements, number-below, number-cut, number-element, number-next, number-one, touched-elements}
use Rattle.bitvec_segments.proofs.joining.joined_number.Goals as goal

pub loop-width-init : goal.loop-width-init
loop-width-init g c =
    let word = c.to_u128-word.ensures in
    let value = number-element g.O.WordOrder.HIGH _ g.O.BitOrder.at (g.met.O.WordOrder.ends_law _) (word.number ∙ c.load.ensures.value) word.in_range in
    record {
      some = omega arith;
      width = omega arith;
      last = omega arith;
      value = number-one _ _ _ (width_some _ g.met.C.Elem.BitStore.width_law) (HasWindow-elements 1 c.requires.window (omega arith) (omega arith)) (rw c.element-first.ensures at value);
      reads = record { numbers = c.load.ensures.numbers; borrow = c.load.ensures.borrow; loads = c.load.ensures.loads; stores = c.load.ensures.stores };
    }

pub with_element-word-requires-clause-word : goal.with_element-word-requires-clause-word
with_element-word-requires-clause-word g c =
    let inv = c.loop-width.invariant in
    rw inv.width (number-below _ _ (HasWindow-elements c.loop-width.count c.requires.window inv.some inv.last) inv.value)

pub loop-width-preserved : goal.loop-width-preserved
loop-width-preserved g c =
    let inv = c.loop-width.invariant in
    let left = rw (c.phase-from.ensures, inv.width) at c.loop-width-test.true in
    let back : c.loop-width.count + 1 - 1 ≡ c.loop-width.count = omega arith in
    let last = rw (← back) at left in
    let has = HasWindow-elements (c.loop-width.count + 1) c.requires.window (omega arith) last in
    let more = c.load-next.ensures in
    let element = number-element g.O.WordOrder.HIGH _ g.O.BitOrder.at (g.met.O.WordOrder.ends_law _) more.value more.in_range in
    let value = rw (c.element-first.ensures, inv.reads.numbers) at element in
    let joined = rw inv.width at c.with_element-word.ensures in
    let reads = inv.reads in
    record {
      some = omega arith;
      width = omega arith;
      last = last;
      value = joined ∙ number-next _ _ _ _ (width_some _ g.met.C.Elem.BitStore.width_law) has inv.value value;
      reads = record { numbers = more.numbers ∙ reads.numbers; borrow = more.borrow ∙ reads.borrow; loads = omega arith; stores = more.stores ∙ reads.stores };
    }

pub returns-clause-value : goal.returns-clause-value
returns-clause-value g c =
    let inv = c.loop-width.invariant in
    let all = rw (c.phase-from.ensures, inv.width) at c.loop-width-test.false in
    let has = HasWindow-elements c.loop-width.count c.requires.window inv.some inv.last in
    let len : ℕ = c.args.window.len in
    let back : 64 - (64 - len) ≡ len = omega arith in
    let mask : (2 ^ 64 - 1) / 2 ^ (64 - len) ≡ 2 ^ len - 1 = ones_shr 64 (64 - len) (omega arith) ∙ ap (λ (n : ℕ). 2 ^ n - 1) back in
    let size : c.args.window.start % g.C.Elem.BitStore.BITS + len - c.args.window.start % g.C.Elem.BitStore.BITS ≡ len = omega arith in
    let below = rw (c.phase-from.ensures, inv.width, size) at c.bits_below-below.ensures in
    ap (bit_and (c.loop-width.word / 2 ^ c.bits_below-below.result)) mask
    ∙ and_mask (c.loop-width.word / 2 ^ c.bits_below-below.result) len
    ∙ ap (λ (n : ℕ). c.loop-width.word / 2 ^ n % 2 ^ len) below
    ∙ number-cut _ _ c.args.window _ has all inv.value

pub returns-clause-reads : goal.returns-clause-reads
returns-clause-reads g c =
    let inv = c.loop-width.invariant in
    let all = rw (c.phase-from.ensures, inv.width) at c.loop-width-test.false in
    let count = touched-elements g.C.Elem.BitStore.BITS c.args.window.start c.args.window.len c.loop-width.count c.requires.word.some inv.some inv.last all in
    rw count inv.reads
