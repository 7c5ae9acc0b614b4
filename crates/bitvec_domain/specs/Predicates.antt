-- What a predicate is asked about the bits of a view, and what it answered.
use Rattle.std.specs.Prelude.{◌≡◌, ℕ, ◌<◌, ◌≤◌, zero, suc, Bool, false, List, [], ◌∷◌, length, Option, Some, None, ⊤, slice_index_or}
use Rattle.std.specs.Bool.{MatchBool}
use Rattle.std.specs.Borrow.{Bor}
use Rattle.std.specs.Fn.{Called, Mut, Takes}
use Rattle.std.specs.List.{range_with_len}

-- The indices below `n`, from 0 up.
abbrev pub upward : ℕ → List ℕ
upward n = range_with_len 0 n

-- The indices below `n`, from the last down.
abbrev pub downward : ℕ → List ℕ
downward zero = []
downward (suc n) = n ∷ downward n

module _ {P : Type 0} (g : Mut P (ℕ × (Bor Bool × Unit {0})) Bool) where
  -- asked about an index and the bit there, the predicate gave the answer, and was `next` afterwards
  pub record Asks (pred : P) (index : ℕ) (bit : Bool) (answer : Bool) (next : P) : Type 0 where
    pub shown : Bor Bool
    pub shows : shown.now ≡ bit
    pub called : Called g pred (index, (shown, tt)) answer next

  -- asked about these indices of the bits in turn, until it said yes, the predicate said yes at `found`, if at any, and was `last` afterwards
  abbrev pub Asked : List Bool → P → List ℕ → Option ℕ → P → Type 0
  Asked bits pred [] found last = (found ≡ None) × (last ≡ pred)
  Asked bits pred (i ∷ more) found last =
      (answer : Bool) × (next : P) × Asks pred i (slice_index_or bits i false) answer next
      × MatchBool answer ((found ≡ Some i) × (last ≡ next)) (Asked bits next more found last)

  -- the predicate may be asked about these indices and bits in turn, where they are below n
  abbrev pub MayAskEach : ℕ → P → List (ℕ × Bool) → Type 0
  MayAskEach n pred [] = ⊤
  MayAskEach n pred (q ∷ more) =
      q.0 < n → ((shown : Bor Bool) → shown.now ≡ q.1 → Takes g pred (q.0, (shown, tt)))
      × ((answer : Bool) (next : P) → Asks pred q.0 q.1 answer next → MayAskEach n next more)

  -- The predicate may be asked at most `times` times about indices below `n` and either bit, whatever it answered before.
  pub record MayAskTimes (n times : ℕ) (pred : P) : Type 0 where
    pub at : (questions : List (ℕ × Bool)) → length questions ≤ times → MayAskEach n pred questions

  -- The predicate may be asked as a split of `n` bits asks it: at most `n` times, about indices below `n`.
  abbrev pub MayAsk : ℕ → P → Type 0
  MayAsk n pred = MayAskTimes n n pred
