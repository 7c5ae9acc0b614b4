-- A view that lent a range of its elements keeps the others.
use Rattle.std.specs.Prelude.{◌≡◌, ℕ, ◌+◌, ◌<◌, ◌≤◌, List, length}
use Rattle.std.proofs.Common.{arith, sym}
use Rattle.bitvec_store.specs.declared.store.BitStore.{Ghosts as Store}
use Rattle.bitvec_base.specs.declared.order.BitOrder.{Ghosts as Order}
use Rattle.bitvec_domain.specs.Kept.{KeepsOutside}
use Rattle.bitvec_slice.specs.Lending.{with_elements}
use Rattle.bitvec_domain.specs.Refill.{with_range}
use Rattle.bitvec_domain.specs.RefillLaws.{refilled-keeps}
use Rattle.bitvec_slice.specs.Touched.{end_touched, first_touched}
use Rattle.bitvec_slice.specs.TouchedLaws.{touches}
use Rattle.bitvec_slice.specs.Views.{seen_mut}
use Rattle.bitvec_slice.specs.declared.view_mut.BitSliceMut.{BitSliceMut}

module _ {T O : Type 0} {t : Store T} {o : Order O} (v : BitSliceMut T O t o) where
  -- A view that lent its bits from `from` up to `to` keeps each element that they don't touch.
  pub lent_bits-keep : (from to start end : ℕ) (ws : List T) → 0 < t.BITS → from ≤ to → to ≤ (seen_mut v).window.len → (seen_mut v).window.start + from ≡ start → (seen_mut v).window.start + to ≡ end
      → KeepsOutside (first_touched t.BITS start) (end_touched t.BITS end) (seen_mut v).elements
      (seen_mut (with_elements v (with_range (seen_mut v).elements (first_touched t.BITS ((seen_mut v).window.start + from)) (end_touched t.BITS ((seen_mut v).window.start + to)) ws))).elements
  lent_bits-keep from to start end ws some order bound begins ends =
      let inside = v.inside in
      let is = touches t.BITS (length (seen_mut v).elements) (v.head + from) (v.head + to) some (omega arith) (omega arith) in
      rw (sym begins, sym ends) (refilled-keeps (seen_mut v).elements ws is.order is.bound)
