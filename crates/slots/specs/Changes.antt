-- What a change makes of a map, and when it is refused.
use Rattle.std.specs.Prelude.{◌≡◌, ℕ, ◌-◌, Bool, true, false, List, replicate}
use Rattle.std.specs.declared.ops.Range.{Range}
use Rattle.bitvec.specs.Window.{write_at}
use Rattle.slots.specs.Places.{HasNoFit, IsFirstFit, IsTaken}
use Rattle.slots.specs.declared.fault.Fault.{Fault}
use Rattle.slots.specs.declared.fault.Fault.TheVariants as fault
use Rattle.slots.specs.declared.places.Change.{Change}
use Rattle.slots.specs.declared.places.Change.TheVariants.{Take, Give}

-- the map with this bit at each place of the range, and all others as they were
abbrev pub filled : List Bool → Range ℕ → Bool → List Bool
filled map range bit = write_at map range.start (replicate (range.end - range.start) bit)

-- the change makes the map `after` of the map `before`, and takes or gives back this range
abbrev pub Changes : Change → List Bool → Range ℕ → List Bool → Type 0
Changes (Take count) before range after = IsFirstFit before count range × (after ≡ filled before range true)
Changes (Give given) before range after = (range ≡ given) × IsTaken before range × (after ≡ filled before range false)

-- the change can't be made of this map, and this says why
abbrev pub Refuses : Change → List Bool → Fault → Type 0
Refuses (Take count) map why = (why ≡ fault.Full) × HasNoFit map count
Refuses (Give given) map why = (why ≡ fault.NotTaken) × (¬ IsTaken map given)
