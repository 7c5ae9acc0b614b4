use Rattle.std.proofs.Common.{◌≡◌, ◌+◌, ◌*◌, ◌<◌, ◌≤◌, List, refl, subst, sym}
use Rattle.std.specs.Coded.{le_prop}
use Rattle.std.specs.Int.{div_ceil}
use Rattle.std.specs.Prelude.{vec_len}
use Rattle.std.specs.Vec.{with_items}
use native.Mathlib.Nat.{ℕ_set}
use Rattle.bitvec_base.specs.Window.{max_bits}
use Rattle.bitvec_base.specs.declared.order.BitOrder.{Ghosts as Order}
use Rattle.bitvec_store.specs.declared.store.BitStore.{Ghosts as Store}
use Rattle.bitvec_owned.specs.Lending.{with_elements}
use Rattle.bitvec_owned.specs.declared.bit_vec.BitVec.{BitVec}
use Rattle.bitvec_owned.proofs.bit_vec.BitVec.as_raw_mut_slice.Goals as goal

-- a sequence's facts have one proof each
module _ {T O A : Type 0} {t : Store T} {o : Order O} (v : BitVec T O A t o) (xs : List T) where
  same : (begins : v.head < t.BITS) (touched : vec_len v.elements ≡ div_ceil (v.head + v.len) t.BITS) (bounded : t.BITS * vec_len v.elements ≤ max_bits)
      → ◌≡◌ {A = BitVec T O A t o} record { elements = with_items v.elements xs; head = v.head; len = v.len; order = v.order; begins = begins; touched = touched; bounded = bounded } (with_elements v xs)
  same begins touched bounded = λ i. record {
    elements = with_items v.elements xs;
    head = v.head;
    len = v.len;
    order = v.order;
    begins = le_prop begins v.begins i;
    touched = ℕ_set _ _ touched v.touched i;
    bounded = le_prop bounded v.bounded i;
  }

pub returns : goal.returns
returns g c = ((refl, λ w. same c.args.self.now w _ _ _), record { writes_back = tt; elements = c.as_mut_slice.ensures.value; fits = subst (λ n. g.T.BitStore.BITS * n ≤ max_bits) (sym c.as_mut_slice.ensures.len) c.args.self.now.bounded })
