use Rattle.std.proofs.Common.{◌≡◌, ◌+◌, ◌-◌, ◌∙◌, ℕ, [], ◌∷◌, ◌++◌, Bool, List, ap, arith, false, length, map, refl, slice_index_or, sym}
use Rattle.std.proofs.Math.Nat.{mul-le-mul_left}
use Rattle.bitvec_base.specs.Memory.{memory_bits}
use Rattle.bitvec_base.specs.WindowLaws.{get-one, get-window}
use Rattle.bitvec_copying.specs.ElementsLaws.{refilled, same_length}
use Rattle.bitvec_slice.specs.Seen.{shown}
use Rattle.bitvec_store.specs.WidthLaws.{width_some}
use Rattle.bitvec_owned.proofs.FrontLists.{one-set, with-last}
use Rattle.bitvec_owned.proofs.Fronts.{has-window, taken, taken-around, taken-bits}
use Rattle.bitvec_owned.proofs.Rooms.{more-touched}
use Rattle.bitvec_owned.specs.Owned.{owned, usable_bits}
use Rattle.bitvec_owned.specs.WritesLaws.{ends, inside, length-owned, places}
use Rattle.bitvec_owned.proofs.bit_vec.BitVec.pop.Goals as goal

pub returns-then-self-eq0-clause-some : goal.returns-then-self-eq0-clause-some
returns-then-self-eq0-clause-some g c =
    let long = length-owned (width_some _ g.met.T.BitStore.width_law) c.args.self.now in
    (λ none. cc, λ some. absurd (omega arith))

pub overflow_add-end : goal.overflow_add-end
overflow_add-end g c = omega (arith, ends (width_some _ g.met.T.BitStore.width_law) c.args.self.now)

pub replace_in-bit-requires-clause-window : goal.replace_in-bit-requires-clause-window
replace_in-bit-requires-clause-window g c =
    let old = c.args.self.now in
    let some = width_some _ g.met.T.BitStore.width_law in
    let all = places some old in
    has-window _ g.O.BitOrder.at g.T.BitStore.value some _ _ (old.head + (old.len - 1)) 1 c.as_mut_slice.ensures.len old.bounded (omega arith)

pub drop_untouched-requires : goal.drop_untouched-requires
drop_untouched-requires g c =
    let old = c.args.self.now in
    let place : old.head + (old.len - 1) + 1 ≡ old.head + old.len = omega arith in
    rw place (record { touched = old.touched })

pub invariant_of-self : goal.invariant_of-self
invariant_of-self g c =
    let b = g.T.BitStore.BITS in
    let old = c.args.self.now in
    let fewer = c.drop_untouched.new.elements in
    let place : old.head + (old.len - 1) + 1 ≡ old.head + old.len = omega arith in
    let few = more-touched b (width_some _ g.met.T.BitStore.width_law) (old.head + (old.len - 1)) 1 fewer.len old.elements.len c.drop_untouched.ensures.len (rw place old.touched) in
    let product = mul-le-mul_left {m = fewer.len} {n = old.elements.len} b few in
    record { begins = old.begins; touched = c.drop_untouched.ensures.len; bounded = omega (arith, old.bounded) }

pub returns : goal.returns
returns g c =
    let b = g.T.BitStore.BITS in
    let at = g.O.BitOrder.at in
    let value = g.T.BitStore.value in
    let some = width_some _ g.met.T.BitStore.width_law in
    let old = c.args.self.now in
    let last : ℕ = old.len - 1 in
    let new = c.replace_in-bit.new.elements in
    let rest = c.drop_untouched.new.elements.items in
    let memory = memory_bits b at (map value old.elements.items) in
    let writes = c.replace_in-bit.ensures.writes in
    let long = length-owned some old in
    let all = inside some old in
    let many : length new ≡ length old.elements.items = same_length value new _ writes.elements ∙ ap length c.as_mut_slice.ensures.value in
    let wrote = rw (one-set _ false writes.long, c.as_mut_slice.ensures.value) at writes.bits in
    let same = refilled new old.elements.items old.elements.len (many ∙ sym old.elements.ok.0) in
    let end : old.head + last + 1 ≡ old.head + old.len = omega arith in
    let left = rw end at (taken b at value some old.elements.items new rest (old.head + last) (omega arith) (rw same at c.drop_untouched.ensures.items) many wrote) in
    let front = taken-bits _ _ _ some old.elements.items rest old.head old.len (old.head + last) all left last refl (omega arith) in
    let bit = rw c.as_mut_slice.ensures.value at (c.replace_in-bit.ensures.value ∙ get-one _ (old.head + last) false) in
    record {
      bits = with-last (owned old).bits last false (omega arith)
          ∙ ap (λ (l : List Bool). l ++ slice_index_or (owned old).bits last false ∷ []) (sym front)
          ∙ ap (λ (x : Bool). (shown b at value rest old.head last).bits ++ x ∷ []) (get-window memory (owned old).window last false (omega arith) ∙ sym bit);
      some = (λ _. omega arith, λ _. refl);
      len = omega arith;
      around = taken-around _ _ _ some old.elements.items rest old.head old.len (old.head + last) all left last refl (omega arith);
      capacity = ap (λ (n : ℕ). usable_bits b n - old.head) c.drop_untouched.ensures.capacity;
    }
