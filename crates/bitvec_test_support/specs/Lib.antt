pub mod Counted
pub mod Fails
pub use Rattle.bitvec_base.specs as base
pub use Rattle.bitvec_store.specs as store
