-- Records: the numbers of a layout's fields in a view.
use Rattle.std.specs.Prelude.{◌≡◌, ℕ, ◌+◌, ◌^◌, ◌<◌, ◌≤◌, ◌⊎◌, Bool, List, length, map, slice_index, slice_index_or}
use Rattle.bitvec.specs.Types.{BitSliceMut, Order, Store, Window}
use Rattle.bitvec.specs.Segments.{loaded_be, loaded_le}
use Rattle.bitvec.specs.Views.{seen_mut}
use Rattle.bitvec.specs.Window.{window_of}
use Rattle.bitvec.specs.Writes.{WritesBits}
use Rattle.bitrecord.specs.Layouts.{field_at}
use Rattle.bitrecord.specs.declared.encode_error.EncodeError.{EncodeError}
use Rattle.bitrecord.specs.declared.encode_error.EncodeError.TheVariants as refusal
use Rattle.bitrecord.specs.declared.endian.Endian.{Endian}
use Rattle.bitrecord.specs.declared.endian.Endian.TheVariants as end

-- `number_of endian high b s list` is the number of a list of bits that begins at place `s`, as `load_le` (`Little`) or `load_be` (`Big`)
-- gives it.
abbrev pub number_of : Endian → Bool → ℕ → ℕ → List Bool → ℕ
number_of end.Little high b s list = loaded_le high b s list
number_of end.Big high b s list = loaded_be high b s list

-- `field_number endian high b s list field` is the number of a field of a list of bits that begins at place `s`.
abbrev pub field_number : Endian → Bool → ℕ → ℕ → List Bool → Window → ℕ
field_number endian high b s list field = number_of endian high b (s + field.start) (window_of list field)

-- `record_in endian high b s list fields` is the list of the numbers of all fields, as `decode` gives it.
abbrev pub record_in : Endian → Bool → ℕ → ℕ → List Bool → List Window → List ℕ
record_in endian high b s list fields = map (field_number endian high b s list) fields

-- `IsBeside field place` says that a place, an index of a bit, is not in the field.
abbrev pub IsBeside : Window → ℕ → Type 0
IsBeside field place = (place < field.start) ⊎ (field.start + field.len ≤ place)

-- `IsOutside fields place` says that a place is in no field.
abbrev pub IsOutside : List Window → ℕ → Type 0
IsOutside fields place = (k : ℕ) → k < length fields → IsBeside (field_at fields k) place

-- `Fits field value` says that a value has no more bits than the field: it is below `2^len`.
abbrev pub Fits : Window → ℕ → Type 0
Fits field value = value < 2 ^ field.len

-- `AreEncodable fields values` says that there is one value a field, and that each fits its field.
pub record AreEncodable (fields : List Window) (values : List ℕ) : Type 0 where
  pub count : length values ≡ length fields
  pub fit : (k : ℕ) → k < length fields → Fits (field_at fields k) (slice_index values k)

-- `IsFirstTooLarge fields values i` says that there is one value a field, and that value `i` is the first that does not fit its field.
pub record IsFirstTooLarge (fields : List Window) (values : List ℕ) (i : ℕ) : Type 0 where
  pub count : length values ≡ length fields
  pub below : i < length fields
  pub large : 2 ^ (field_at fields i).len ≤ slice_index values i
  pub before : (k : ℕ) → k < i → Fits (field_at fields k) (slice_index values k)

-- `IsRefusal fields values why` says that an `EncodeError` is why values are refused: their count, or the first value that does not fit.
abbrev pub IsRefusal : List Window → List ℕ → EncodeError → Type 0
IsRefusal fields values refusal.Count = (length values ≡ length fields) → ⊥
IsRefusal fields values (refusal.Range i) = IsFirstTooLarge fields values i

module _ {T O : Type 0} {t : Store T} {o : Order O} where
  -- `WritesField endian high field value before after` says that the field has this number, and that all other bits of the view are as
  -- before.
  pub record WritesField (endian : Endian) (high : Bool) (field : Window) (value : ℕ) (before after : BitSliceMut T O t o) : Type 0 where
    pub number : field_number endian high t.BITS (seen_mut after).window.start (seen_mut after).bits field ≡ value
    pub others : (place : ℕ) (d : Bool) → IsBeside field place → slice_index_or (seen_mut after).bits place d ≡ slice_index_or (seen_mut before).bits place d
    pub written : WritesBits before after (seen_mut after).bits

  -- `WritesFields endian high fields values n before after` says that the first `n` fields have these numbers, and that the bits in no
  -- field are as before.
  pub record WritesFields (endian : Endian) (high : Bool) (fields : List Window) (values : List ℕ) (n : ℕ) (before after : BitSliceMut T O t o) : Type 0 where
    pub numbers : (k : ℕ) → k < n → field_number endian high t.BITS (seen_mut after).window.start (seen_mut after).bits (field_at fields k) ≡ slice_index values k
    pub others : (place : ℕ) (d : Bool) → IsOutside fields place → slice_index_or (seen_mut after).bits place d ≡ slice_index_or (seen_mut before).bits place d
    pub written : WritesBits before after (seen_mut after).bits

  -- `WritesRecord endian high fields values before after` says that all fields have these numbers, as `encode` leaves them, and that the
  -- bits in no field are as before.
  abbrev pub WritesRecord : Endian → Bool → List Window → List ℕ → BitSliceMut T O t o → BitSliceMut T O t o → Type 0
  WritesRecord endian high fields values before after = WritesFields endian high fields values (length fields) before after
