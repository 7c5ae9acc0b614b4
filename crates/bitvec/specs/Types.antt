-- The types that definitions of a user's own name, and what an element type and an order give to contracts.
pub use Rattle.bitvec_store.specs.declared.store.BitStore.{Ghosts as Store}
pub use Rattle.bitvec_base.specs.declared.order.BitOrder.{Ghosts as Order}
pub use Rattle.bitvec_base.specs.declared.window.Window.{Window}
pub use Rattle.bitvec_domain.specs.declared.reference.BitRef.{BitRef}
pub use Rattle.bitvec_domain.specs.declared.reference_mut.BitRefMut.{BitRefMut}
pub use Rattle.bitvec_slice.specs.declared.view.BitSlice.{BitSlice}
pub use Rattle.bitvec_slice.specs.declared.view_mut.BitSliceMut.{BitSliceMut}
pub use Rattle.bitvec_owned.specs.declared.array.BitArray.{BitArray}
pub use Rattle.bitvec_owned.specs.declared.bit_vec.BitVec.{BitVec}
