use Rattle.std.proofs.Common.{◌≡◌, ◌∙◌, ◌*◌, ◌-◌, ◌+◌, ◌^◌, ◌<◌, ◌≤◌, min, ℕ, [], arith, length, refl, sym}
use Rattle.std.specs.Int.{div_ceil}
use Rattle.std.proofs.Math.Nat.{lt_of_mul-lt-mul_right}
use Rattle.std.proofs.lemmas.Grind.{common_steps, div_ceil_times}
use Rattle.bitvec_base.specs.Memory.{memory_bits}
use Rattle.bitvec_base.specs.Window.{max_bits}
use Rattle.bitvec_base.specs.WriteLaws.{write_at-nil}
use Rattle.bitvec_store.specs.WidthLaws.{width_some}
use Rattle.bitvec_slice.specs.Views.{seen}
use Rattle.bitvec_owned.proofs.Held.{held}
use Rattle.bitvec_copying.specs.ElementsLaws.{refilled}
use Rattle.bitvec_owned.proofs.Repeats.{length-repeated, repeat-none}
use Rattle.bitvec_owned.proofs.repeating.repeat_of.Goals as goal

no_elements : (b : ℕ) → 0 < b → 0 ≡ div_ceil (0 + 0) b
no_elements b some =
    let rounded = div_ceil_times 0 b some in
    let none : div_ceil 0 b < 1 = lt_of_mul-lt-mul_right b (omega arith) in
    omega arith

rounded : (b t count : ℕ) → count ≡ div_ceil t b → count ≡ div_ceil (0 + t) b
rounded b t count is = let same : 0 + t ≡ t = omega arith in rw same is

-- the length, where the product fits
total : (n copies t : ℕ) → t ≡ min (n * copies) (2 ^ 64 - 1) → t ≤ max_bits → t ≡ n * copies
total n copies t is fits = omega arith

pub returns-then-total-eq0-clause-copy : goal.returns-then-total-eq0-clause-copy
returns-then-total-eq0-clause-copy g c =
    let bits = (seen c.args.view).bits in
    let all = total (length bits) c.args.copies c.saturating_mul-total.result (rw c.len.ensures.value at c.saturating_mul-total.ensures) c.if-total-gt-MAX_BITS.false in
    let is = rw c.new.ensures.items at c.from_parts.ensures.shows in
    let none = repeat-none bits c.args.copies (sym all ∙ c.if-total-eq0.true) in
    rw none (held g.T.BitStore.BITS g.O.BitOrder.at g.T.BitStore.value (width_some _ g.met.T.BitStore.width_law) g.T.BitStore.ZERO [] [] 0 0 0 [] _ g.met.T.BitStore.zero_law refl refl (no_elements _ (width_some _ g.met.T.BitStore.width_law)) refl (sym (write_at-nil (memory_bits g.T.BitStore.BITS g.O.BitOrder.at []) 0 (omega arith))) is)

pub returns-clause-copy : goal.returns-clause-copy
returns-clause-copy g c =
    let bits = (seen c.args.view).bits in
    let all = total (length bits) c.args.copies c.saturating_mul-total.result (rw c.len.ensures.value at c.saturating_mul-total.ensures) c.if-total-gt-MAX_BITS.false in
    let long = length-repeated bits c.args.copies in
    let is = rw (refilled c.write_copies.new.elements c.in-Ok.elements.items c.in-Ok.elements.len (c.write_copies.ensures.len ∙ c.as_mut_slice.ensures.len)) at c.from_parts-2.ensures.shows in
    held g.T.BitStore.BITS g.O.BitOrder.at g.T.BitStore.value (width_some _ g.met.T.BitStore.width_law) g.T.BitStore.ZERO c.as_mut_slice.result.now c.write_copies.new.elements c.div_ceil-count.result 0 c.saturating_mul-total.result _ _
    g.met.T.BitStore.zero_law (c.as_mut_slice.ensures.value ∙ c.in-Ok.ensures.items) c.write_copies.ensures.len (rounded _ _ _ (rw c.BITS-width.ensures at c.div_ceil-count.ensures)) (all ∙ sym long) c.write_copies.ensures.bits is

pub write_copies-requires-clause-fits : goal.write_copies-requires-clause-fits
write_copies-requires-clause-fits g c = grind (arith, common_steps)

pub write_copies-requires-clause-room : goal.write_copies-requires-clause-room
write_copies-requires-clause-room g c = grind (arith, common_steps)
