-- What every view shows: as many bits as its window has, which lies in the memory of its elements.
use Rattle.std.specs.Prelude.{◌≡◌, ◌≤◌, length}
use Rattle.std.proofs.Common.{arith}
use Rattle.bitvec_base.specs.Window.{IsWithin, max_bits}
use Rattle.bitvec_store.specs.declared.store.BitStore.{Ghosts as Store}
use Rattle.bitvec_base.specs.declared.order.BitOrder.{Ghosts as Order}
use Rattle.bitvec_slice.specs.SeenLaws.{length_bits, within_memory}
use Rattle.bitvec_slice.specs.Showing.{ShowsElements, shows_elements}
use Rattle.bitvec_slice.specs.Views.{seen, seen_mut}
use Rattle.bitvec_slice.specs.declared.view.BitSlice.{BitSlice}
use Rattle.bitvec_slice.specs.declared.view_mut.BitSliceMut.{BitSliceMut}

module _ {T O : Type 0} {t : Store T} {o : Order O} where
  module _ (v : BitSlice T O t o) where
    -- A shared view shows its elements, which hold its window.
    pub shows-seen : ShowsElements t.BITS o.at t.value (seen v)
    shows-seen = shows_elements t.BITS o.at t.value v.elements.now v.head v.len v.inside v.bounded

    -- A shared view has as many bits as its window.
    pub length-seen : length (seen v).bits ≡ (seen v).window.len
    length-seen = length_bits t.BITS o.at t.value v.elements.now v.head v.len v.inside

    -- A shared view has at most `max_bits` bits.
    pub few-seen : (seen v).window.len ≤ max_bits
    few-seen =
        let inside = v.inside in
        let bounded = v.bounded in
        omega arith

  module _ (v : BitSliceMut T O t o) where
    -- A writable view shows its elements, which hold its window.
    pub shows-seen_mut : ShowsElements t.BITS o.at t.value (seen_mut v)
    shows-seen_mut = shows_elements t.BITS o.at t.value v.elements.now v.head v.len v.inside v.bounded

    -- A writable view has as many bits as its window.
    pub length-seen_mut : length (seen_mut v).bits ≡ (seen_mut v).window.len
    length-seen_mut = length_bits t.BITS o.at t.value v.elements.now v.head v.len v.inside

    -- A writable view's window lies in its memory.
    pub within-seen_mut : IsWithin (seen_mut v).window (length (seen_mut v).memory)
    within-seen_mut = within_memory t.BITS o.at t.value v.elements.now v.head v.len v.inside
