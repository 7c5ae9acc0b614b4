-- What an owned sequence shows, and what it is after its elements were written in its window.
use Rattle.std.specs.Prelude.{◌≡◌, ℕ, ◌+◌, ◌*◌, ◌/◌, ◌<◌, ◌≤◌, Bool, false, List, drop, length, map, min, replicate, take, refl, vec_capacity, vec_len}
use Rattle.std.specs.Int.{div_ceil}
use Rattle.std.proofs.Common.{arith, sym, subst, ◌∙◌, ap}
use Rattle.std.proofs.Math.Nat.{le-div_iff_mul-le, mul-le-mul_left}
use Rattle.std.proofs.lemmas.Grind.{div_ceil_times}
use Rattle.std.proofs.lemmas.List.{length-replicate}
use Rattle.bitvec_base.specs.Memory.{Writes, memory_bits}
use Rattle.bitvec_base.specs.Window.{max_bits, window_of, write_at}
use Rattle.bitvec_base.specs.WindowLaws.{window-written}
use Rattle.bitvec_base.specs.WriteLaws.{drop-write_at, take-write_at, write_at-over}
use Rattle.bitvec_base.specs.declared.order.BitOrder.{Ghosts as Order}
use Rattle.bitvec_base.specs.declared.window.Window.{Window}
use Rattle.bitvec_slice.specs.Seen.{Seen, outside_of, shown}
use Rattle.bitvec_slice.specs.SeenLaws.{length_bits, within_memory}
use Rattle.bitvec_slice.specs.Showing.{ShowsElements, shows_elements}
use Rattle.bitvec_store.specs.declared.store.BitStore.{Ghosts as Store}
use Rattle.bitvec_copying.specs.ElementsLaws.{refilled, same_length}
use Rattle.bitvec_owned.specs.Copies.{Holds}
use Rattle.bitvec_owned.specs.Lending.{with_elements}
use Rattle.bitvec_owned.specs.Owned.{bit_capacity, owned, usable_bits}
use Rattle.bitvec_owned.specs.Writes.{WritesOwned}
use Rattle.bitvec_owned.specs.declared.bit_vec.BitVec.{BitVec}

-- The elements for which a sequence has memory hold the bits up to `end`.
pub held-usable : (b end n capacity : ℕ) → 0 < b → n ≡ div_ceil end b → n ≤ capacity → b * n ≤ max_bits → end ≤ usable_bits b capacity
held-usable b end n capacity some touched room bounded =
    let rounded = div_ceil_times end b some in
    let few : n ≤ max_bits / b = (le-div_iff_mul-le some).1 (omega arith) in
    let product = mul-le-mul_left {m = n} {n = min capacity (max_bits / b)} b (omega arith) in
    let all : b * div_ceil end b ≤ b * min capacity (max_bits / b) = rw (← touched) product in
    omega arith

module _ {T : Type 0} (b : ℕ) (at : ℕ → ℕ → ℕ) (value : T → ℕ) (old new : List T) (start len : ℕ) (list : List Bool) (inside : start + len ≤ b * length old)
    (wrote : Writes b at (map value old) (map value new) (shown b at value old start len).window list) where
  -- The elements after a write are as many as before.
  pub many : length new ≡ length old
  many = same_length value new old wrote.elements

  -- The bits in the window after a write are the written list.
  pub bits-written : (shown b at value new start len).bits ≡ list
  bits-written =
      let within = within_memory b at value old start len inside in
      ap (λ (m : List Bool). window_of m (shown b at value old start len).window) wrote.bits
      ∙ window-written (memory_bits b at (map value old)) (shown b at value old start len).window list within wrote.long

  outside-kept : outside_of (shown b at value new start len) ≡ outside_of (shown b at value old start len)
  unfolding outside_of
  outside-kept =
      let within = within_memory b at value old start len inside in
      let first = within.start in
      let m = memory_bits b at (map value old) in
      let after = memory_bits b at (map value new) in
      let front : take start after ≡ take start m = ap (λ (l : List Bool). take start l) wrote.bits ∙ take-write_at m start list first in
      let behind : drop (start + len) after ≡ drop (start + len) m =
      ap (λ (l : List Bool). drop (start + len) l) wrote.bits ∙ ap (λ (n : ℕ). drop (start + n) (write_at m start list)) (sym wrote.long) ∙ drop-write_at m start list first
      ∙ ap (λ (n : ℕ). drop (start + n) m) wrote.long in
      ap (λ (l : List Bool). (l, drop (start + len) after)) front ∙ ap (λ (l : List Bool). (take start m, l)) behind

  -- a list was there with zeros around it: so it is of what was written
  holds-then : (held : List Bool) (from : ℕ) → Holds b held from (shown b at value old start len) → Holds b list from (shown b at value new start len)
  holds-then held from holds =
      let zeros = replicate (b * length old) false in
      let places = length-replicate {A = Bool} (b * length old) false in
      let long : length held ≡ length list = sym holds.len ∙ sym wrote.long in
      record {
        bits = bits-written;
        start = holds.start;
        len = sym wrote.long;
        count = many ∙ holds.count ∙ ap (λ (n : ℕ). div_ceil (from + n) b) long;
        memory = wrote.bits ∙ ap (λ (l : List Bool). write_at l start list) holds.memory ∙ ap (λ (s : ℕ). write_at (write_at zeros from held) s list) holds.start
            ∙ write_at-over zeros from held list long (rw (sym holds.start, wrote.long, places) inside)
            ∙ ap (λ (n : ℕ). write_at (replicate (b * n) false) from list) (sym many);
      }

module _ {T O A : Type 0} {t : Store T} {o : Order O} (some : 0 < t.BITS) (v : BitVec T O A t o) where
  -- The elements of an owned sequence have the places up to its last bit.
  pub places : v.head + v.len ≤ t.BITS * vec_len v.elements
  places = let rounded = div_ceil_times (v.head + v.len) t.BITS some in rw v.touched (omega arith)

  -- An owned sequence ends at most at the place `max_bits`.
  pub ends : v.head + v.len ≤ max_bits
  ends = let all = places in let fits = v.bounded in omega arith

  -- The bits of an owned sequence lie in its elements.
  pub inside : v.head + v.len ≤ t.BITS * length v.elements.items
  inside = rw (sym v.elements.ok.0) places

  -- An owned sequence has as many bits as its length says.
  pub length-owned : length (owned v).bits ≡ v.len
  length-owned = length_bits t.BITS o.at t.value v.elements.items v.head v.len inside

  -- The elements for which an owned sequence has memory have the places up to its last bit.
  pub held : v.head + v.len ≤ usable_bits t.BITS (vec_capacity v.elements)
  held = held-usable t.BITS (v.head + v.len) (vec_len v.elements) (vec_capacity v.elements) some v.touched v.elements.ok.1 v.bounded

  -- An owned sequence has memory for all of its bits.
  pub owned-room : (owned v).window.len ≤ bit_capacity v
  owned-room = let room = held in omega arith

  -- A view of all bits of an owned sequence shows its elements.
  pub sequence_elements : ShowsElements t.BITS o.at t.value (owned v)
  sequence_elements =
      shows_elements t.BITS o.at t.value v.elements.items v.head v.len inside (subst (λ (n : ℕ). t.BITS * n ≤ max_bits) v.elements.ok.0 v.bounded)

  -- A write told of elements and a window that are the sequence's writes the sequence.
  pub sequence_written : (now elements : List T) (window : Window) (made new : List Bool) → Writes t.BITS o.at (map t.value elements) (map t.value now) window made
      → elements ≡ (owned v).elements → window ≡ (owned v).window → made ≡ new → WritesOwned v (with_elements v now) new
  sequence_written now elements window made new writes same place is =
      let old = v.elements.items in
      let wrote : Writes t.BITS o.at (map t.value old) (map t.value now) (owned v).window new = rw (same, place, is) at writes in
      let count = many t.BITS o.at t.value old now v.head v.len new inside wrote in
      let left : owned (with_elements v now) ≡ shown t.BITS o.at t.value now v.head v.len =
      ap (λ (xs : List T). shown t.BITS o.at t.value xs v.head v.len) (refilled now old v.elements.len (count ∙ sym v.elements.ok.0)) in
      record {
        bits = ap (λ (s : Seen T). s.bits) left ∙ bits-written t.BITS o.at t.value old now v.head v.len new inside wrote;
        outside = ap (λ (s : Seen T). outside_of s) left ∙ outside-kept t.BITS o.at t.value old now v.head v.len new inside wrote;
        memory = ap (λ (s : Seen T). s.memory) left ∙ wrote.bits;
        window = refl;
        length = ap (λ (s : Seen T). length s.elements) left ∙ count;
        capacity = refl;
        holds = λ list from held. subst (Holds t.BITS new from) (sym left) (holds-then t.BITS o.at t.value old now v.head v.len new inside wrote list from held);
      }

-- A sequence that was written with `new` has the bits `new`.
pub has_written : {T O A : Type 0} {t : Store T} {o : Order O} (before after : BitVec T O A t o) (new : List Bool) → WritesOwned before after new → (owned after).bits ≡ new
has_written before after new wrote = wrote.bits
