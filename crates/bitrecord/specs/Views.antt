-- What contracts see of a layout.
use Rattle.std.specs.Prelude.{ℕ, List}
use Rattle.bitvec.specs.Types.{Window}
use Rattle.bitrecord.specs.declared.layout.Layout.{Layout}

module _ {A : Type 0} where
  -- `bits_of layout` is how many bits a record of this layout has.
  abbrev pub bits_of : Layout A → ℕ
  bits_of layout = layout.bits

  -- `fields_of layout` is the list of the windows where the fields lie among a record's bits.
  abbrev pub fields_of : Layout A → List Window
  fields_of layout = layout.fields.items
