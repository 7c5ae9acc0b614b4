-- What a reference to a bit is after that was written.
use Rattle.std.specs.Prelude.{◌≡◌, Bool, List, [], ◌∷◌, map, slice_index_or, slice_set}
use Rattle.std.proofs.Common.{false, sym, ◌∙◌, ap}
use Rattle.bitvec_base.specs.Memory.{Writes, list_in, memory_bits}
use Rattle.bitvec_base.specs.Window.{bit_window}
use Rattle.bitvec_base.specs.WindowLaws.{get-one}
use Rattle.bitvec_base.specs.WritesLaws.{Writes-holds, Writes-one}
use Rattle.bitvec_store.specs.declared.store.BitStore.{Ghosts as Store}
use Rattle.bitvec_base.specs.declared.order.BitOrder.{Ghosts as Order}
use Rattle.bitvec_domain.specs.References.{WritesBit, bit_of_ref_mut, memory_of_ref_mut}
use Rattle.bitvec_domain.specs.declared.reference_mut.BitRefMut.{BitRefMut}

module _ {T O : Type 0} {t : Store T} {o : Order O} where
  pub writes_bit : (r s : BitRefMut T O t o) (new : Bool) → s.place ≡ r.place → s.elements.ghost_name ≡ r.elements.ghost_name
      → Writes t.BITS o.at (map t.value r.elements.now) (map t.value s.elements.now) (bit_window r.place) (slice_set (list_in t.BITS o.at (map t.value r.elements.now) (bit_window r.place)) 0 new) → WritesBit r s new
  unfolding bit_of_ref_mut memory_of_ref_mut
  writes_bit r s new place name wrote =
      let old = map t.value r.elements.now in
      let now = map t.value s.elements.now in
      let one = Writes-one r.place new r.window wrote in
      record {
        bit = rw place (sym (get-one (memory_bits t.BITS o.at now) r.place false) ∙ ap (λ (l : List Bool). slice_index_or l 0 false) (Writes-holds r.window one));
        writes = one;
        place = place;
        name = name;
      }
