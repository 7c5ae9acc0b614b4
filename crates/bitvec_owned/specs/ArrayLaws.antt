-- What an array of bits shows, and what it is after its elements were written.
use Rattle.std.specs.Prelude.{◌≡◌, ℕ, ◌+◌, ◌*◌, ◌≤◌, Bool, List, length, map, take}
use Rattle.std.proofs.Common.{arith, ◌∙◌, ap, length-take}
use Rattle.std.proofs.Math.Nat.{mul-le-mul_left}
use Rattle.std.proofs.lemmas.List.{take_all}
use Rattle.bitvec_base.specs.Memory.{Writes, memory_bits}
use Rattle.bitvec_base.specs.Window.{max_bits}
use Rattle.bitvec_base.specs.WriteLaws.{write_at-all}
use Rattle.bitvec_base.specs.declared.order.BitOrder.{Ghosts as Order}
use Rattle.bitvec_base.specs.declared.window.Window.{Window}
use Rattle.bitvec_slice.specs.Seen.{Seen, shown}
use Rattle.bitvec_slice.specs.SeenLaws.{length-memory}
use Rattle.bitvec_slice.specs.Showing.{ShowsElements, shows_elements}
use Rattle.bitvec_store.specs.declared.store.BitStore.{Ghosts as Store}
use Rattle.bitvec_owned.specs.ArrayLending.{with_elements}
use Rattle.bitvec_owned.specs.Arrays.{WritesArray, elements_of, in_array}
use Rattle.bitvec_owned.specs.WritesLaws.{bits-written, many}
use Rattle.bitvec_owned.specs.declared.array.BitArray.{BitArray}

module _ {T O : Type 0} {N : ℕ} {t : Store T} {o : Order O} (a : BitArray T O N t o) where
  few : length (elements_of a) ≤ N
  few = omega (arith, length-take N a.elements)

  fits : t.BITS * length (elements_of a) ≤ max_bits
  fits = let product = mul-le-mul_left t.BITS few in let bound = a.bounded in omega arith

  -- A view of all bits of an array shows its elements.
  pub array_elements : ShowsElements t.BITS o.at t.value (in_array a)
  array_elements = shows_elements t.BITS o.at t.value (elements_of a) 0 (t.BITS * length (elements_of a)) (omega arith) fits

  -- A write told of elements and a window that are the array's writes the array.
  pub array_written : (now elements : List T) (window : Window) (made new : List Bool) → Writes t.BITS o.at (map t.value elements) (map t.value now) window made
      → elements ≡ (in_array a).elements → window ≡ (in_array a).window → made ≡ new → WritesArray a (with_elements a now) new
  array_written now elements window made new writes same place is =
      let old = elements_of a in
      let len = t.BITS * length old in
      let wrote : Writes t.BITS o.at (map t.value old) (map t.value now) (in_array a).window new = rw (same, place, is) at writes in
      let inside : 0 + len ≤ t.BITS * length old = omega arith in
      let count = many t.BITS o.at t.value old now 0 len new inside wrote in
      let all : take N now ≡ now = take_all N now (omega (arith, count, few)) in
      let left : in_array (with_elements a now) ≡ shown t.BITS o.at t.value now 0 len =
      ap (λ (xs : List T). shown t.BITS o.at t.value xs 0 (t.BITS * length xs)) all ∙ ap (λ (n : ℕ). shown t.BITS o.at t.value now 0 (t.BITS * n)) count in
      let long = wrote.long in
      record {
        bits = ap (λ (s : Seen T). s.bits) left ∙ bits-written t.BITS o.at t.value old now 0 len new inside wrote;
        memory = ap (λ (s : Seen T). s.memory) left ∙ wrote.bits ∙ write_at-all (memory_bits t.BITS o.at (map t.value old)) new (omega (arith, long, length-memory t.BITS o.at t.value old));
        window = ap (λ (s : Seen T). s.window) left;
        length = ap (λ (s : Seen T). length s.elements) left ∙ count;
      }

-- An array that was written with `new` has the bits `new`.
pub has_written : {T O : Type 0} {N : ℕ} {t : Store T} {o : Order O} (before after : BitArray T O N t o) (new : List Bool) → WritesArray before after new → (in_array after).bits ≡ new
has_written before after new wrote = wrote.bits
