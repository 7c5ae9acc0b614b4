-- Which changes assignments are.
use Rattle.std.specs.Prelude.{◌≡◌, ℕ, ◌+◌, ◌<◌, Bool, true, false, ◌||◌, ◌==◌, List, [], length, slice_index_or, Option, Some, None, position, IsSomeAnd}
use Rattle.std.specs.Str.{bytes_eq}
use Rattle.bitrecord.specs.Layouts.{field_at}
use Rattle.bitrecord.specs.Records.{Fits}
use Rattle.packet.specs.Arguments.{Named}
use Rattle.packet.specs.Changes.{CanChange}
use Rattle.packet.specs.Packets.{Place, windows_of}
use Rattle.packet.specs.declared.changes.Change.{Change}
use Rattle.packet.specs.declared.fault.Fault.{Fault}
use Rattle.packet.specs.declared.fault.Fault.TheVariants.{Unknown, Fixed, Range}
use Rattle.packet.specs.declared.field.TheConstants.{CHECKSUM, HEADER_LENGTH, VERSION}

-- the number of the field of a name
abbrev pub place_of : List Place → List ℕ → Option ℕ
place_of fields name = position (λ (field : Place). bytes_eq field.name name) fields

-- the fields that say where others lie, and the one that is computed
abbrev pub is_fixed : ℕ → Bool
is_fixed number = number == VERSION || number == HEADER_LENGTH || number == CHECKSUM

abbrev pub fits_field : List Place → ℕ → ℕ → Type 0
fits_field fields number value = Fits (field_at (windows_of fields) number) value

-- the change of an assignment
pub record IsChange (fields : List Place) (asked : Named) (change : Change) : Type 0 where
  pub place : place_of fields asked.name ≡ Some change.number
  pub free : is_fixed change.number ≡ false
  pub value : change.value ≡ asked.value
  pub can : CanChange (windows_of fields) change

-- why an assignment, of the number that is told, has none
abbrev pub ChangeFault : List Place → Named → ℕ → Fault → Type 0
ChangeFault fields asked number (Unknown told) = (told ≡ number) × (place_of fields asked.name ≡ None)
ChangeFault fields asked number (Fixed told) = (told ≡ number) × IsSomeAnd (place_of fields asked.name) (λ place. is_fixed place ≡ true)
ChangeFault fields asked number (Range told) = (told ≡ number) × IsSomeAnd (place_of fields asked.name) (λ place. fits_field fields place asked.value → ⊥)
ChangeFault fields asked number _ = ⊥

abbrev pub asked_at : List Named → ℕ → Named
asked_at list k = slice_index_or list k (record { name = []; value = 0 })

-- the changes of assignments, each of its own
pub record AreChanges (fields : List Place) (list : List Named) (changes : List Change) : Type 0 where
  pub count : length changes ≡ length list
  pub each : (k : ℕ) → k < length list → IsChange fields (asked_at list k) (slice_index_or changes k (record { number = 0; value = 0 }))

-- the first assignment that has none, told from 1 on
pub record ChangesFault (fields : List Place) (list : List Named) (fault : Fault) : Type 0 where
  pub index : ℕ
  pub below : index < length list
  pub before : (k : ℕ) → k < index → (change : Change) × IsChange fields (asked_at list k) change
  pub comes : ChangeFault fields (asked_at list index) (index + 1) fault
