-- Layouts of records, and why a list of fields is none.
use Rattle.std.specs.Prelude.{ℕ, ◌+◌, ◌<◌, ◌≤◌, List, length, slice_index_or}
use Rattle.bitvec.specs.Types.{Window}
use Rattle.bitvec.specs.Window.{IsWithin}
use Rattle.bitrecord.specs.declared.layout_error.LayoutError.{LayoutError}
use Rattle.bitrecord.specs.declared.layout_error.LayoutError.TheVariants as fault

-- `no_field` is a window of no bits, which no layout has.
abbrev pub no_field : Window
no_field = record { start = 0; len = 0 }

-- `field_at fields i` is the field of number `i`, counted from 0, or `no_field` past the last.
abbrev pub field_at : List Window → ℕ → Window
field_at fields i = slice_index_or fields i no_field

-- `HasWidth field` says that a field has from 1 to 128 bits.
pub record HasWidth (field : Window) : Type 0 where
  pub some : 0 < field.len
  pub bound : field.len ≤ 128

-- `Overlap x y` says that each of two fields ends behind the other's first place, so that fields that have bits have one in common.
pub record Overlap (x y : Window) : Type 0 where
  pub first : y.start < x.start + x.len
  pub second : x.start < y.start + y.len

-- `AreApart x y` says that two fields do not overlap.
abbrev pub AreApart : Window → Window → Type 0
AreApart x y = Overlap x y → ⊥

-- `EachBefore P fields n` says that `P` holds of each of the first `n` fields.
abbrev pub EachBefore : (Window → Type 0) → List Window → ℕ → Type 0
EachBefore P fields n = (k : ℕ) → k < n → P (field_at fields k)

-- `EachField P fields` says that `P` holds of each field.
abbrev pub EachField : (Window → Type 0) → List Window → Type 0
EachField P fields = EachBefore P fields (length fields)

-- `IsApartFrom fields i from to` says that field `i` overlaps none of the fields from number `from` up to, without, `to`.
abbrev pub IsApartFrom : List Window → ℕ → ℕ → ℕ → Type 0
IsApartFrom fields i from to = (j : ℕ) → from ≤ j → j < to → AreApart (field_at fields i) (field_at fields j)

-- `AreApartBefore fields n` says that none of the first `n` fields overlaps a later field.
abbrev pub AreApartBefore : List Window → ℕ → Type 0
AreApartBefore fields n = (i : ℕ) → i < n → IsApartFrom fields i (i + 1) (length fields)

-- `IsLayout bits fields` says that each field has from 1 to 128 bits and lies in the record's `bits` bits, and that no two overlap.
pub record IsLayout (bits : ℕ) (fields : List Window) : Type 0 where
  pub widths : EachField HasWidth fields
  pub inside : EachField (λ field. IsWithin field bits) fields
  pub apart : AreApartBefore fields (length fields)

-- `IsFirstWithout P fields i` says that field `i` is the first of which `P` does not hold.
pub record IsFirstWithout (P : Window → Type 0) (fields : List Window) (i : ℕ) : Type 0 where
  pub below : i < length fields
  pub not : P (field_at fields i) → ⊥
  pub before : EachBefore P fields i

-- `IsFirstOverlap fields i j` says that field `i` is the first that overlaps a later one, and field `j` the first later one that it
-- overlaps.
pub record IsFirstOverlap (fields : List Window) (i j : ℕ) : Type 0 where
  pub order : i < j
  pub below : j < length fields
  pub overlap : Overlap (field_at fields i) (field_at fields j)
  pub before : AreApartBefore fields i
  pub between : IsApartFrom fields i (i + 1) j

-- `OutsideFault bits fields i` says that all fields have widths, and that field `i` is the first that does not lie in the record's bits.
pub record OutsideFault (bits : ℕ) (fields : List Window) (i : ℕ) : Type 0 where
  pub widths : EachField HasWidth fields
  pub first : IsFirstWithout (λ field. IsWithin field bits) fields i

-- `OverlapFault bits fields i j` says that all fields have widths and lie in the record's bits, and that `i` and `j` are the first that
-- overlap.
pub record OverlapFault (bits : ℕ) (fields : List Window) (i j : ℕ) : Type 0 where
  pub widths : EachField HasWidth fields
  pub inside : EachField (λ field. IsWithin field bits) fields
  pub first : IsFirstOverlap fields i j

-- `MemoryFault bits fields` says that the fields, of which there are some, are a layout, so that only memory was missing.
pub record MemoryFault (bits : ℕ) (fields : List Window) : Type 0 where
  pub layout : IsLayout bits fields
  pub some : 0 < length fields

-- `IsFault bits fields fault` says that a `LayoutError` is why there is no layout: the first field without a width, else outside, else
-- overlapping; or memory.
abbrev pub IsFault : ℕ → List Window → LayoutError → Type 0
IsFault bits fields (fault.Width i) = IsFirstWithout HasWidth fields i
IsFault bits fields (fault.Outside i) = OutsideFault bits fields i
IsFault bits fields (fault.Overlap i j) = OverlapFault bits fields i j
IsFault bits fields fault.Memory = MemoryFault bits fields
