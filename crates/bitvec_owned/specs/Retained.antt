-- What is left of a list of bits when a predicate is asked about each whether to keep it.
use Rattle.std.specs.Prelude.{◌≡◌, ℕ, ◌+◌, Bool, List}
use Rattle.std.specs.Borrow.{Bor}
use Rattle.std.specs.Fn.{Mut}
use Rattle.std.specs.List.Retain.{IsFiltered}
use Rattle.bitvec_domain.specs.Predicates.{Asks}

module _ {P : Type 0} (g : Mut P (ℕ × (Bor Bool × Unit {0})) Bool) where
  -- one question: the index and the predicate before it, the bit, the answer, and the index and the predicate after it
  abbrev pub AsksNext : ℕ × P → Bool → Bool → ℕ × P → Type 0
  AsksNext before bit answer after = (after.0 ≡ before.0 + 1) × Asks g before.1 before.0 bit answer after.1

  -- the bits of which it said yes, asked about each index and bit of a list from 0 on: as std's `retain` has it, where the predicate is told the index too
  abbrev pub Retains : P → List Bool → List Bool → Type 0
  Retains pred old new = IsFiltered AsksNext (0, pred) old new
