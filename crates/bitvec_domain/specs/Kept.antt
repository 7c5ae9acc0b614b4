-- What stays of a list of which a range was lent.
use Rattle.std.specs.Prelude.{◌≡◌, ℕ, List, drop, length, take}

-- The new list is as long as the old one, with the same values before the place `start` and from `end` on.
pub record KeepsOutside {X : Type 0} (start end : ℕ) (old new : List X) : Type 0 where
  pub length : length new ≡ length old
  pub before : take start new ≡ take start old
  pub behind : drop end new ≡ drop end old
