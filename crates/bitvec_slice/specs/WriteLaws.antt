-- What a view is after its memory's bits were written in its window.
use Rattle.std.specs.Prelude.{◌≡◌, ℕ, ◌+◌, ◌*◌, Bool, List, drop, length, map, take, refl}
use Rattle.std.proofs.Common.{sym, ◌∙◌, ap}
use Rattle.std.proofs.lemmas.List.{length-map, take_at}
use Rattle.bitvec_base.specs.Memory.{Writes, memory_bits}
use Rattle.bitvec_base.specs.Window.{window_of, write_at, write_window}
use Rattle.bitvec_base.specs.WindowLaws.{window-written}
use Rattle.bitvec_base.specs.WriteLaws.{drop-write_at, take-write_at}
use Rattle.bitvec_store.specs.declared.store.BitStore.{Ghosts as Store}
use Rattle.bitvec_base.specs.declared.order.BitOrder.{Ghosts as Order}
use Rattle.bitvec_base.specs.declared.window.Window.{Window}
use Rattle.bitvec_slice.specs.Lending.{with_elements}
use Rattle.bitvec_slice.specs.Seen.{outside_of}
use Rattle.bitvec_slice.specs.SeenLaws.{within_memory}
use Rattle.bitvec_slice.specs.Views.{seen_mut}
use Rattle.bitvec_slice.specs.Writes.{WritesBits}
use Rattle.bitvec_slice.specs.declared.view_mut.BitSliceMut.{BitSliceMut}

module _ {T O : Type 0} {t : Store T} {o : Order O} where
  -- A view whose window's bits in the memory were written with `new` is written with `new`.
  pub writes_bits : (v : BitSliceMut T O t o) (xs : List T) (new : List Bool) → Writes t.BITS o.at (map t.value v.elements.now) (map t.value xs) (seen_mut v).window new → WritesBits v (with_elements v xs) new
  unfolding outside_of
  writes_bits v xs new writes =
      let w = with_elements v xs in
      let window = (seen_mut v).window in
      let old = (seen_mut v).memory in
      let within = within_memory t.BITS o.at t.value v.elements.now v.head v.len v.inside in
      let start = within.start in
      let long = writes.long in
      let count : length xs ≡ length v.elements.now = sym (length-map xs t.value) ∙ writes.elements ∙ length-map v.elements.now t.value in
      let all : w.elements.now ≡ xs = take_at xs (drop (length xs) v.elements.now) (length v.elements.now) count in
      let memory : (seen_mut w).memory ≡ write_window old window new = ap (λ (ys : List T). memory_bits t.BITS o.at (map t.value ys)) all ∙ writes.bits in
      let before : take v.head (seen_mut w).memory ≡ take v.head old = ap (λ (m : List Bool). take v.head m) memory ∙ take-write_at old v.head new start in
      let after : drop (v.head + v.len) (seen_mut w).memory ≡ drop (v.head + v.len) old =
      ap (λ (m : List Bool). drop (v.head + v.len) m) memory ∙ ap (λ (n : ℕ). drop (v.head + n) (write_window old window new)) (sym long) ∙ drop-write_at old v.head new start
      ∙ ap (λ (n : ℕ). drop (v.head + n) old) long in
      record {
        bits = ap (λ (m : List Bool). window_of m window) memory ∙ window-written old window new within long;
        outside = ap (λ (b : List Bool). (b, drop (v.head + v.len) (seen_mut w).memory)) before ∙ ap (λ (a : List Bool). (take v.head old, a)) after;
        memory = memory;
        window = refl;
        length = ap length all ∙ count;
        name = refl;
      }

  -- A write told of elements and a window that are the view's writes the view's bits.
  pub written : (v : BitSliceMut T O t o) (xs elements : List T) (window : Window) (made new : List Bool) → Writes t.BITS o.at (map t.value elements) (map t.value xs) window made
      → elements ≡ (seen_mut v).elements → window ≡ (seen_mut v).window → made ≡ new → WritesBits v (with_elements v xs) new
  written v xs elements window made new writes same place is = writes_bits v xs new (rw (same, place, is) at writes)

  -- A view that was written with `new` has the bits `new`.
  pub has_written : (before after : BitSliceMut T O t o) (new : List Bool) → WritesBits before after new → (seen_mut after).bits ≡ new
  has_written before after new wrote = wrote.bits
