-- What a view shows, whichever of the two types it has, and what its parts are.
use Rattle.std.specs.Prelude.{◌≡◌, ℕ, ◌+◌, ◌-◌, ◌*◌, ◌%◌, ◌↔◌, Bool, List, [], Option, IfSome, IsSome, drop, length, map, slice_range, take}
use Rattle.bitvec_base.specs.Memory.{list_in, memory_bits}
use Rattle.bitvec_base.specs.declared.window.Window.{Window}
use Rattle.bitvec_slice.specs.Touched.{touched_elements}

-- What a view shows: its bits, the elements that they touch, all bits of these, and where among them its own stand.
pub record Seen (T : Type 0) : Type 0 where
  pub bits : List Bool
  pub elements : List T
  pub memory : List Bool
  pub window : Window

-- The bits of a view's elements that are outside the view: those before it, and those behind it.
unfoldable pub outside_of : {T : Type 0} → Seen T → List Bool × List Bool
outside_of view = (take view.window.start view.memory, drop (view.window.start + view.window.len) view.memory)

module _ {T : Type 0} (b : ℕ) (at : ℕ → ℕ → ℕ) (value : T → ℕ) where
  -- What a view of `len` bits of these elements from the place `start` on shows.
  abbrev pub shown : List T → ℕ → ℕ → Seen T
  shown elements start len =
      let window : Window = record { start = start; len = len } in
      record { bits = list_in b at (map value elements) window; elements = elements; memory = memory_bits b at (map value elements); window = window }

  -- the view has all bits of the elements
  pub record IsWhole (xs : List T) (view : Seen T) : Type 0 where
    pub bits : view.bits ≡ memory_bits b at (map value xs)
    pub elements : view.elements ≡ xs
    pub memory : view.memory ≡ memory_bits b at (map value xs)
    pub start : view.window.start ≡ 0
    pub len : view.window.len ≡ b * length xs

-- the view has no bit, of no element
pub record IsEmpty {T : Type 0} (view : Seen T) : Type 0 where
  pub bits : view.bits ≡ []
  pub elements : view.elements ≡ []
  pub memory : view.memory ≡ []
  pub start : view.window.start ≡ 0
  pub len : view.window.len ≡ 0

module _ {T : Type 0} (b : ℕ) where
  -- the part has the view's bits from the index `from` up to, without, `to`; it holds the elements that
  -- they touch, of b bits each, and begins in the first of these
  pub record IsRangeOf (view : Seen T) (from to : ℕ) (part : Seen T) : Type 0 where
    pub bits : part.bits ≡ slice_range view.bits from to
    pub elements : part.elements ≡ touched_elements b view.elements (view.window.start + from) (view.window.start + to)
    pub start : part.window.start ≡ (view.window.start + from) % b
    pub len : part.window.len ≡ to - from

  -- the parts are the view's bits before the index `mid`, and those from it on
  pub record AreHalves (view : Seen T) (mid : ℕ) (left right : Seen T) : Type 0 where
    pub front : IsRangeOf view 0 mid left
    pub rest : IsRangeOf view mid view.window.len right

  -- the view has all bits of its elements
  pub record CoversElements (view : Seen T) : Type 0 where
    pub start : view.window.start ≡ 0
    pub len : view.window.len ≡ b * length view.elements

-- There is a value exactly where `P` holds, and `Q` holds of each value that there is.
pub record IsGiven {X : Type 0} (P : Type 0) (Q : X → Type 0) (value : Option X) : Type 0 where
  pub some : IsSome value ↔ P
  pub gives : IfSome value Q
