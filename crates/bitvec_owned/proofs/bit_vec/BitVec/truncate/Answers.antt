use Rattle.std.proofs.Common.{◌≡◌, ◌∙◌, ◌+◌, ◌-◌, ℕ, ap, arith, length, refl, sym}
use Rattle.std.proofs.lemmas.List.{take_all}
use Rattle.bitvec_store.specs.WidthLaws.{width_some}
use Rattle.bitvec_copying.specs.ElementsLaws.{refilled}
use Rattle.bitvec_owned.proofs.Fronts.{cut, taken-around, taken-bits}
use Rattle.bitvec_owned.proofs.Rooms.{cut-fits}
use Rattle.bitvec_owned.specs.Owned.{owned, usable_bits}
use Rattle.bitvec_owned.specs.WritesLaws.{ends, inside, length-owned, places}
use Rattle.bitvec_owned.proofs.bit_vec.BitVec.truncate.Goals as goal

pub overflow_add-end : goal.overflow_add-end
overflow_add-end g c = omega (arith, ends (width_some _ g.met.T.BitStore.width_law) c.args.self.now)

pub fill_rest-requires : goal.fill_rest-requires
fill_rest-requires g c =
    let old = c.args.self.now in
    let some = width_some _ g.met.T.BitStore.width_law in
    let all = places some old in
    let left = cut-fits _ some (old.head + c.args.len) _ _ _ (omega arith) old.bounded c.touched_by.ensures c.truncate.ensures.len in
    rw c.as_mut_slice.ensures.len (record { inside = left.1; bounded = left.2 })

pub invariant_of-self : goal.invariant_of-self
invariant_of-self g c =
    let old = c.args.self.now in
    let some = width_some _ g.met.T.BitStore.width_law in
    let all = places some old in
    let left = cut-fits _ some (old.head + c.args.len) _ _ _ (omega arith) old.bounded c.touched_by.ensures c.truncate.ensures.len in
    record { begins = old.begins; touched = left.0; bounded = left.2 }

pub returns-then-len-self : goal.returns-then-len-self
returns-then-len-self g c =
    let b = g.T.BitStore.BITS in
    let some = width_some _ g.met.T.BitStore.width_law in
    let old = c.args.self.now in
    let fewer = c.truncate.new.self in
    let written = c.fill_rest.new.elements in
    let all = inside some old in
    let size : length written ≡ fewer.len = c.fill_rest.ensures.len ∙ c.as_mut_slice.ensures.len in
    let left = cut b g.O.BitOrder.at g.T.BitStore.value some old.elements.items fewer.items written (old.head + old.len) (old.head + c.args.len)
    (rw c.touched_by.ensures at c.truncate.ensures.items) (omega arith) (size ∙ fewer.ok.0) (rw c.as_mut_slice.ensures.value at c.fill_rest.ensures.bits) in
    let same = refilled written fewer.items fewer.len size in
    record {
      bits = rw same (taken-bits _ _ _ some old.elements.items written old.head old.len (old.head + c.args.len) all left c.args.len refl (omega arith));
      around = rw same (taken-around _ _ _ some old.elements.items written old.head old.len (old.head + c.args.len) all left c.args.len refl (omega arith));
      capacity = ap (λ (n : ℕ). usable_bits b n - old.head) c.truncate.ensures.capacity;
    }

pub returns-else-len-self-clause-bits : goal.returns-else-len-self-clause-bits
returns-else-len-self-clause-bits g c =
    let long = length-owned (width_some _ g.met.T.BitStore.width_law) c.args.self.now in
    sym (take_all c.args.len (owned c.args.self.now).bits (omega arith))
