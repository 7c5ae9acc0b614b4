-- A writable view of bits: what was written in its place was written.
use Rattle.std.specs.Prelude.{Bool, List}
use Rattle.std.proofs.Common.{ap, ◌∙◌}
use Rattle.bitvec_store.specs.declared.store.BitStore.{Ghosts as Store}
use Rattle.bitvec_base.specs.Window.{write_window}
use Rattle.bitvec_base.specs.declared.order.BitOrder.{Ghosts as Order}
use Rattle.bitvec_slice.specs.ShowingLaws.{shows-seen_mut}
use Rattle.bitvec_slice.specs.Views.{name_of, seen_mut}
use Rattle.bitvec_slice.specs.Writes.{WritesBits}
use Rattle.bitvec_slice.specs.declared.view_mut.BitSliceMut.{BitSliceMut}
use Rattle.bitvec_closures.specs.InPlace.{WritesInPlace}
use Rattle.bitvec_closures.specs.InPlaceLaws.{kept-memory}

module _ {T O : Type 0} {t : Store T} {o : Order O} where
  -- A writable view that was written in its place was written.
  pub written_so : (before after : BitSliceMut T O t o) (new : List Bool) → WritesInPlace seen_mut name_of before after new → WritesBits before after new
  written_so before after new is = record {
    bits = is.bits;
    outside = is.stays.outside;
    memory = kept-memory shows-seen_mut is.stays ∙ ap (write_window (seen_mut before).memory (seen_mut before).window) is.bits;
    window = is.stays.window;
    length = is.stays.elements;
    name = is.stays.name;
  }
