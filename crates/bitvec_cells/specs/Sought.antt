-- Which bits of a part of an element are the wanted ones, as the ones of another element.
use Rattle.std.specs.Prelude.{◌≡◌, ℕ, ◌<◌, ◌≤◌, Bool, true, false, slice_index_or}
use Rattle.bitvec_base.specs.Memory.{element_bits}

-- The ones of the element `m` are at exactly the indices `from..to` where the element `v` has the bit `want`.
pub record Shows (b : ℕ) (at : ℕ → ℕ → ℕ) (v m from to : ℕ) (want : Bool) : Type 0 where
  pub has : (i : ℕ) → from ≤ i → i < to → slice_index_or (element_bits b at v) i false ≡ want → slice_index_or (element_bits b at m) i false ≡ true
  pub low : (i : ℕ) → i < b → slice_index_or (element_bits b at m) i false ≡ true → from ≤ i
  pub high : (i : ℕ) → i < b → slice_index_or (element_bits b at m) i false ≡ true → i < to
  pub bit : (i : ℕ) → i < b → slice_index_or (element_bits b at m) i false ≡ true → slice_index_or (element_bits b at v) i false ≡ want
