-- Edits of an owned sequence, and of an array of bits, one after the other, as one edit.
use Rattle.std.specs.Prelude.{◌≡◌, ℕ, ◌+◌, ◌*◌, ◌<◌, ◌≤◌, Bool, List, length, refl}
use Rattle.std.proofs.Common.{arith, sym, subst, ◌∙◌, ap}
use Rattle.std.proofs.lemmas.List.{length-map}
use Rattle.bitvec_base.specs.SliceLaws.{range-all}
use Rattle.bitvec_base.specs.Window.{IsWithin, window_of, write_window}
use Rattle.bitvec_base.specs.WindowLaws.{window-kept, window-rewritten}
use Rattle.bitvec_base.specs.declared.order.BitOrder.{Ghosts as Order}
use Rattle.bitvec_base.specs.declared.window.Window.{Window}
use Rattle.bitvec_slice.specs.SeenLaws.{length_bits, length-memory, within_memory}
use Rattle.bitvec_store.specs.declared.store.BitStore.{Ghosts as Store}
use Rattle.bitvec_owned.specs.Arrays.{WritesArray, elements_of, in_array}
use Rattle.bitvec_owned.specs.Copies.{Holds}
use Rattle.bitvec_owned.specs.Owned.{owned}
use Rattle.bitvec_owned.specs.Writes.{WritesOwned}
use Rattle.bitvec_owned.specs.WritesLaws.{sequence_elements}
use Rattle.bitvec_owned.specs.declared.array.BitArray.{BitArray}
use Rattle.bitvec_owned.specs.declared.bit_vec.BitVec.{BitVec}

-- ---- of an array

module _ {T O : Type 0} {N : ℕ} {t : Store T} {o : Order O} where
  -- A `BitArray` that was not edited has been written with its own bits.
  pub array-none : (a : BitArray T O N t o) → WritesArray a a (in_array a).bits
  unfolding window_of
  array-none a =
      let long = length-memory t.BITS o.at t.value (elements_of a) in
      let n : ℕ = t.BITS * length (elements_of a) in
      record { bits = refl; memory = sym (range-all (in_array a).memory (0 + n) (omega arith)); window = refl; length = refl }

  -- Two edits of a `BitArray`, one after the other, are one edit, which leaves the bits of the second.
  pub array-then : (first second last : BitArray T O N t o) (x y : List Bool) → WritesArray first second x → WritesArray second last y → WritesArray first last y
  array-then first second last x y one two =
      record { bits = two.bits; memory = two.memory; window = two.window ∙ one.window; length = two.length ∙ one.length }

-- ---- of a sequence

module _ {T O A : Type 0} {t : Store T} {o : Order O} (some : 0 < t.BITS) where
  inside : (v : BitVec T O A t o) → v.head + v.len ≤ t.BITS * length v.elements.items
  inside v =
      let has = (sequence_elements some v).has.within in
      let start = has.start in
      let len = has.len in
      let many = ap (λ (n : ℕ). t.BITS * n) (length-map v.elements.items t.value) in
      omega arith

  within : (v : BitVec T O A t o) → IsWithin (owned v).window (length (owned v).memory)
  within v = within_memory t.BITS o.at t.value v.elements.items v.head v.len (inside v)

  long : (v : BitVec T O A t o) → length (owned v).bits ≡ (owned v).window.len
  long v = length_bits t.BITS o.at t.value v.elements.items v.head v.len (inside v)

  -- A `BitVec` that was not edited has been written with its own bits.
  pub owned-none : (v : BitVec T O A t o) → WritesOwned v v (owned v).bits
  owned-none v = record {
    bits = refl;
    outside = refl;
    memory = sym (window-kept (owned v).memory (owned v).window (within v));
    window = refl;
    length = refl;
    capacity = refl;
    holds = λ list from held. subst (λ (l : List Bool). Holds t.BITS l from (owned v)) (sym held.bits) held;
  }

  -- Two edits of a `BitVec`, one after the other, are one edit, which leaves the bits of the second.
  pub owned-then : (first second last : BitVec T O A t o) (x y : List Bool) → WritesOwned first second x → WritesOwned second last y → WritesOwned first last y
  owned-then first second last x y one two =
      let m = (owned first).memory in
      let w = (owned first).window in
      let size : length x ≡ w.len = ap (λ (l : List Bool). length l) (sym one.bits) ∙ long second ∙ ap (λ (v : Window). v.len) one.window in
      let also : length y ≡ w.len = ap (λ (l : List Bool). length l) (sym two.bits) ∙ long last ∙ ap (λ (v : Window). v.len) (two.window ∙ one.window) in
      record {
        bits = two.bits;
        outside = two.outside ∙ one.outside;
        memory = two.memory ∙ ap (λ (l : List Bool). write_window l (owned second).window y) one.memory
            ∙ ap (λ (v : Window). write_window (write_window m w x) v y) one.window ∙ window-rewritten m w x y (within first) size also;
        window = two.window ∙ one.window;
        length = two.length ∙ one.length;
        capacity = two.capacity ∙ one.capacity;
        holds = λ list from held. two.holds x from (one.holds list from held);
      }

  -- Two edits of a `BitVec`, one after the other, are one edit, which leaves the bits that it has at last.
  pub owned-both : (first second last : BitVec T O A t o) (x y : List Bool) → WritesOwned first second x → WritesOwned second last y → WritesOwned first last (owned last).bits
  owned-both first second last x y one two = subst (λ (l : List Bool). WritesOwned first last l) (sym two.bits) (owned-then first second last x y one two)
