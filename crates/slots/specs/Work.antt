-- The work on a map that is read and written as bytes, the lowest bit of the first byte being place 0.
use Rattle.std.specs.Prelude.{◌≡◌, ℕ, ◌⊎◌, List, Option, IfSome}
use Rattle.std.specs.Io.KnownBytes.{Appends}
use Rattle.std.specs.declared.ops.Range.{Range}
use Rattle.bitvec.specs.Arrays.{lsb0_bits}
use Rattle.slots.specs.Changes.{Changes, Refuses as RefusesChange}
use Rattle.slots.specs.Runs.{ShowsRuns, range_text}
use Rattle.slots.specs.declared.fault.Fault.{Fault}
use Rattle.slots.specs.declared.fault.Fault.TheVariants as fault
use Rattle.slots.specs.declared.arguments.Request.{Request}
use Rattle.slots.specs.declared.arguments.Request.TheVariants as request
use Rattle.slots.specs.declared.places.Change.{Change}

-- these are the bytes of a reader, where its bytes are known
abbrev pub IsMap : Option (List ℕ) → List ℕ → Type 0
IsMap known bytes = IfSome known (λ all. bytes ≡ all)

-- the map was changed so, and the range that was taken or given back was printed
pub record ChangesMap (change : Change) (before after : Option (List ℕ)) (printed all : Option (List ℕ)) : Type 0 where
  pub old : List ℕ
  pub old_is : IsMap before old
  pub new : List ℕ
  pub new_is : IsMap after new
  pub range : Range ℕ
  pub changes : Changes change (lsb0_bits 8 old) range (lsb0_bits 8 new)
  pub prints : Appends printed all (range_text range)

-- the map that was read can't be changed so
pub record Refused (change : Change) (read : Option (List ℕ)) (why : Fault) : Type 0 where
  pub map : List ℕ
  pub map_is : IsMap read map
  pub refuses : RefusesChange change (lsb0_bits 8 map) why

-- why a map wasn't changed, or what was changed not printed: the map or the output failed, memory was refused, or the change was
abbrev pub Fails : Change → Option (List ℕ) → Fault → Type 0
Fails change read why = Refused change read why ⊎ (why ≡ fault.Read) ⊎ (why ≡ fault.Write) ⊎ (why ≡ fault.Memory) ⊎ (why ≡ fault.Output)

-- the runs of the map that was read were printed
pub record ShowsMap (read before after : Option (List ℕ)) : Type 0 where
  pub map : List ℕ
  pub map_is : IsMap read map
  pub shows : ShowsRuns (lsb0_bits 8 map) before after

-- what was asked for was done on the map, and the answer printed
abbrev pub Does : Request → Option (List ℕ) → Option (List ℕ) → Option (List ℕ) → Option (List ℕ) → Type 0
Does (request.Change change) before after printed all = ChangesMap change before after printed all
Does request.Show before after printed all = ShowsMap before printed all × (after ≡ before)

-- why it wasn't
abbrev pub Refuses : Request → Option (List ℕ) → Fault → Type 0
Refuses (request.Change change) map why = Fails change map why
Refuses request.Show map why = (why ≡ fault.Read) ⊎ (why ≡ fault.Memory) ⊎ (why ≡ fault.Output)
