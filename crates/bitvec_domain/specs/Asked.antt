-- What a closure answers that is asked for the bits of a window in ascending order.
use Rattle.std.specs.Prelude.{ℕ, Bool, List, false, length, slice_index_or}
use Rattle.std.specs.Array.{FillsFrom, index_steps}
use Rattle.std.specs.Fn.{Called, Mut, Takes}
use Rattle.std.specs.Iterator.{CallableAtEachTurn}

module _ {F A : Type 0} (g : Mut F A Bool) (asked : ℕ → A) where
  -- The closure, called with what is asked at 0, 1, 2 and so on, answered the bits `new`, one call after the other.
  abbrev pub AnswersTo : F → List Bool → Type 0
  AnswersTo f new = (last : F) × FillsFrom (λ p i bit q. Called g p (asked i) bit q) f 0 new last

  -- The closure may be called with what is asked at each index below `n`, whatever the calls before answered.
  abbrev pub CallableTo : F → ℕ → Type 0
  CallableTo f n = CallableAtEachTurn (index_steps n) (λ p i q. (bit : Bool) × Called g p (asked i) bit q) (λ p i. Takes g p (asked i)) 0 f

-- The closure, called with the indices from 0 on, answered the bits `new`, as `fill_with` of `bitvec` calls it.
abbrev pub FillsWith : {F : Type 0} → Mut F (ℕ × Unit {0}) Bool → F → List Bool → Type 0
FillsWith g f new = AnswersTo g (λ i. (i, tt)) f new

-- The closure may be called with each index below `n`, in ascending order.
abbrev pub CallableBelow : {F : Type 0} → Mut F (ℕ × Unit {0}) Bool → F → ℕ → Type 0
CallableBelow g f n = CallableTo g (λ i. (i, tt)) f n

-- The closure, called with each index and the bit of `old` there, answered the bits `new`.
abbrev pub RefillsWith : {F : Type 0} → Mut F (ℕ × (Bool × Unit {0})) Bool → F → List Bool → List Bool → Type 0
RefillsWith g f old new = AnswersTo g (λ i. (i, (slice_index_or old i false, tt))) f new

-- The closure may be called with each index and the bit of `old` there, in ascending order.
abbrev pub CallableOnBits : {F : Type 0} → Mut F (ℕ × (Bool × Unit {0})) Bool → F → List Bool → Type 0
CallableOnBits g f old = CallableTo g (λ i. (i, (slice_index_or old i false, tt))) f (length old)
