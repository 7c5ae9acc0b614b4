-- Changes of fields.
use Rattle.std.specs.Prelude.{◌≡◌, ℕ, ◌<◌, Bool, true, List, All, fold, length, slice_index_or, slice_set}
use Rattle.bitvec.specs.Types.{BitSliceMut, Order, Store, Window}
use Rattle.bitvec.specs.Writes.{WritesBits}
use Rattle.bitvec.specs.Views.{seen_mut}
use Rattle.bitrecord.specs.Layouts.{field_at}
use Rattle.bitrecord.specs.Records.{Fits, IsBeside, record_in}
use Rattle.bitrecord.specs.declared.endian.Endian.TheVariants.{Big}
use Rattle.packet.specs.Checksums.{IsRight, checksum_of}
use Rattle.packet.specs.Packets.{numbers_at, packet_bits}
use Rattle.packet.specs.declared.changes.Change.{Change}
use Rattle.packet.specs.declared.field.TheConstants.{CHECKSUM}

-- there is such a field, and its value fits it
pub record CanChange (fields : List Window) (change : Change) : Type 0 where
  pub field : change.number < length fields
  pub fits : Fits (field_at fields change.number) change.value

-- the numbers of all fields with the changes, one after the other
abbrev pub with_changes : List ℕ → List Change → List ℕ
with_changes numbers changes = fold (λ (list : List ℕ) (change : Change). slice_set list change.number change.value) numbers changes

-- the place is in no field that is changed
abbrev pub IsBesideAll : List Window → List Change → ℕ → Type 0
IsBesideAll fields changes place = All (λ (change : Change). IsBeside (field_at fields change.number) place) changes

module _ {T O : Type 0} {t : Store T} {o : Order O} where
  -- the numbers that a view has in windows
  abbrev pub numbers_seen : BitSliceMut T O t o → List Window → List ℕ
  numbers_seen v windows = record_in Big true t.BITS (seen_mut v).window.start (seen_mut v).bits windows

  -- the fields of the changes have their values; every other field, and every bit in none of these, is as before
  pub record WritesChanges (fields : List Window) (changes : List Change) (before after : BitSliceMut T O t o) : Type 0 where
    pub numbers : numbers_seen after fields ≡ with_changes (numbers_seen before fields) changes
    pub others : (place : ℕ) (d : Bool) → IsBesideAll fields changes place → slice_index_or (seen_mut after).bits place d ≡ slice_index_or (seen_mut before).bits place d
    pub written : WritesBits before after (seen_mut after).bits

  -- the checksum is right; every other field, and every other bit, is as before
  pub record MakesRight (fields words : List Window) (before after : BitSliceMut T O t o) : Type 0 where
    pub numbers : numbers_seen after fields ≡ slice_set (numbers_seen before fields) CHECKSUM (checksum_of (numbers_seen after words))
    pub right : IsRight (numbers_seen after words)
    pub others : (place : ℕ) (d : Bool) → IsBeside (field_at fields CHECKSUM) place → slice_index_or (seen_mut after).bits place d ≡ slice_index_or (seen_mut before).bits place d
    pub written : WritesBits before after (seen_mut after).bits

-- the packet `after` is the packet `before` with the changes and the checksum that is right then
pub record SetsFields (fields words : List Window) (changes : List Change) (before after : List ℕ) : Type 0 where
  pub numbers : numbers_at after fields ≡ slice_set (with_changes (numbers_at before fields) changes) CHECKSUM (checksum_of (numbers_at after words))
  pub right : IsRight (numbers_at after words)
  pub others : (place : ℕ) (d : Bool) → IsBesideAll fields changes place → IsBeside (field_at fields CHECKSUM) place → slice_index_or (packet_bits after) place d ≡ slice_index_or (packet_bits before) place d
  pub length : length after ≡ length before
