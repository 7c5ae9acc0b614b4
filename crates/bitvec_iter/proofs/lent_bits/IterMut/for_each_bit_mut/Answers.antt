use Rattle.std.specs.Prelude.{◌≡◌, ℕ, ◌+◌, ◌-◌, ◌*◌, ◌≤◌, Bool, List, length, map, min, slice_range, refl}
use Rattle.std.proofs.Common.{arith, ap, subst, sym, ◌∙◌}
use Rattle.std.proofs.lemmas.List.{length-map}
use Rattle.bitvec_slice.specs.Seen.{shown}
use Rattle.bitvec_slice.specs.SeenLaws.{has_window}
use Rattle.bitvec_base.specs.Memory.{Writes, list_in}
use Rattle.bitvec_base.specs.Window.{max_bits, window_range, write_at}
use Rattle.bitvec_base.specs.WriteLaws.{range-write_at}
use Rattle.bitvec_base.specs.WritesLaws.{Writes-holds, Writes-range, length-list, list-range}
use Rattle.bitvec_base.specs.declared.window.Window.{Window}
use Rattle.bitvec_domain.specs.Asked.{CallableOnBits, RefillsWith}
use Rattle.bitvec_iter.specs.LentBits.{BitsLeft, WritesLeft, bits_in_place, bits_to_come, start_of}
use Rattle.bitvec_iter.proofs.lent_bits.IterMut.for_each_bit_mut.Goals as goal

module _ {T : Type 0} (b : ℕ) (at : ℕ → ℕ → ℕ) (value : T → ℕ) (elements : List T) (head len front back : ℕ) (inside : head + len ≤ b * length elements) (bounded : b * length elements ≤ max_bits) (bound : back ≤ len) where
  abbrev walk : BitsLeft T
  walk = record { view = shown b at value elements head len; front = front; back = back }

  abbrev part : Window
  part = record { start = head + min front back; len = back - front }

  part-is : part ≡ window_range walk.view.window (start_of walk) back
  part-is = ap (λ (n : ℕ). record { start = head + min front back; len = n }) (omega arith)

  part-bits : list_in b at (map value elements) part ≡ bits_to_come walk
  part-bits = ap (list_in b at (map value elements)) part-is ∙ list-range at (start_of walk) back (has_window b at value elements head len inside bounded) (omega arith) bound

  module _ (xs : List T) (new : List Bool) (wrote : Writes b at (map value elements) (map value xs) part new) where
    abbrev after : BitsLeft T
    after = record { view = shown b at value xs head len; front = back; back = back }

    all-bits : after.view.bits ≡ write_at walk.view.bits (start_of walk) new
    all-bits =
        let has = has_window b at value elements head len inside bounded in
        let there = subst (λ (w : Window). Writes b at (map value elements) (map value xs) w new) part-is wrote in
        Writes-holds has (Writes-range (start_of walk) back has (omega arith) bound there)

    in-place : bits_in_place walk after ≡ new
    in-place =
        let long = length-list at (has_window b at value elements head len inside bounded) in
        let end : back ≡ start_of walk + length new = omega (arith, wrote.long) in
        ap (λ (l : List Bool). slice_range l (start_of walk) back) all-bits
        ∙ ap (λ (e : ℕ). slice_range (write_at walk.view.bits (start_of walk) new) (start_of walk) e) end
        ∙ range-write_at walk.view.bits (start_of walk) new (omega (arith, wrote.long))

    left-written : WritesLeft walk after new
    left-written = record {
      bits = all-bits;
      memory = wrote.bits;
      window = refl;
      elements = sym (length-map xs value) ∙ wrote.elements ∙ length-map elements value;
      long = omega (arith, wrote.long);
      front = refl;
      back = refl;
    }

    -- what R says of the old and the new bits of the part, and what was written
    refilled : (R : List Bool → List Bool → Type 0) → R (list_in b at (map value elements) part) new → R (bits_to_come walk) (bits_in_place walk after) × WritesLeft walk after (bits_in_place walk after)
    refilled R told =
        (subst (R (bits_to_come walk)) (sym in-place) (subst (λ (l : List Bool). R l new) part-bits told), subst (WritesLeft walk after) (sym in-place) left-written)

pub for_each_in-requires-clause-callable : goal.for_each_in-requires-clause-callable
for_each_in-requires-clause-callable g c =
    let i = c.args.self.now in
    let bits = part-bits g.T.BitStore.BITS g.O.BitOrder.at g.T.BitStore.value i.elements.now i.head i.len i.front i.back i.inside i.bounded i.numbered in
    rw (c.min.ensures, c.len.ensures) (subst (CallableOnBits g.F.FnMut c.args.f) (sym bits) c.requires)

pub returns : goal.returns
returns g c =
    let i = c.args.self.now in
    let wrote = rw (c.min.ensures, c.len.ensures) at c.for_each_in.ensures.writes in
    let (answers, left) = refilled g.T.BitStore.BITS g.O.BitOrder.at g.T.BitStore.value i.elements.now i.head i.len i.front i.back i.inside i.bounded i.numbered c.for_each_in.new.elements wrote.0 wrote.2
    (RefillsWith g.F.FnMut c.args.f) wrote.1 in
    record { answers = answers; walk = left; name = refl }
