-- What an act needs of two windows, and what one that copies leaves.
use Rattle.std.specs.Prelude.{◌≡◌, ℕ, ◌+◌, ◌-◌, ◌/◌, ◌%◌, ◌==◌, ◌<◌, ◌≤◌, min, Bool, false, if◌then◌else◌, List, slice_index}
use Rattle.bitvec_base.specs.declared.window.Window.{Window}
use Rattle.bitvec_base.specs.Memory.{HasWindow, Writes, list_in}
use Rattle.bitvec_base.specs.Spans.{HasSpan}
use Rattle.bitvec_cells.specs.Access.{CostsAtMost, OnlyReads}
use Rattle.bitvec_cells.specs.declared.cells.CellsRead.{Ghosts as Access}
use Rattle.bitvec_cells.specs.Cost.{touched_count}
use Rattle.bitvec_words.specs.Elements.{elements_window, elements_window_from}
use Rattle.bitvec_words.specs.ShortWindow.{padded}
use Rattle.bitvec_words.specs.declared.stretch.Stretch.{Stretch}

-- two windows, the second of which ends where the first does, or before it in the last element that the first touches
pub record HasMet (b : ℕ) (xs ys : List ℕ) (left right : Window) : Type 0 where
  pub window : HasWindow b xs left
  pub beside : HasWindow b ys right
  pub some : 0 < right.len
  pub lengths : right.len ≤ left.len
  pub inside : right.len < left.len → 0 < (left.start + right.len) % b
  pub reach : (left.start + right.len) % b + (left.len - right.len) ≤ b

-- The bits of the second window, followed by zeros up to the length of the first.
abbrev pub bits_beside : (b : ℕ) (at : ℕ → ℕ → ℕ) → List ℕ → Window → Window → List Bool
bits_beside b at ys left right = padded left.len (list_in b at ys right)

-- Where the two windows' bits stand at different indices, `carry` is the element of the second memory at `element`.
abbrev pub IsCarried : Bool → List ℕ → ℕ → ℕ → Type 0
IsCarried equal ys element carry = equal ≡ false → carry ≡ slice_index ys element

-- How many elements are carried from step to step: none where the bits stand at equal indices, and else one.
abbrev pub held : Bool → ℕ
held equal = if equal then 0 else 1

-- a window of at most the bits from an index of an element on
pub record HasBeside (b : ℕ) (ys : List ℕ) (window : Window) (index : ℕ) (equal : Bool) (carry : ℕ) : Type 0 where
  pub inside : HasWindow b ys window
  pub some : 0 < window.len
  pub bound : index + window.len ≤ b
  pub phases : (index == window.start % b) ≡ equal
  pub carried : IsCarried equal ys (window.start / b) carry

-- The stretch with these four numbers.
abbrev pub stretch_at : ℕ → ℕ → ℕ → ℕ → Stretch
stretch_at first source skip count = record { first = first; source = source; skip = skip; count = count }

-- The window of whole elements that a stretch covers in the first memory.
abbrev pub stretch_window : ℕ → Stretch → Window
stretch_window b stretch = elements_window b stretch.first stretch.count

-- The window of as many bits that a stretch reads in the second memory.
abbrev pub stretch_source : ℕ → Stretch → Window
stretch_source b stretch = elements_window_from b stretch.source stretch.skip stretch.count

-- Both memories have the stretch's windows; where the indices differ, the carried element is the first one read.
pub record HasStretch (b : ℕ) (xs ys : List ℕ) (stretch : Stretch) (equal : Bool) (carry : ℕ) : Type 0 where
  pub span : HasSpan b xs ys (stretch_window b stretch) (stretch_source b stretch)
  pub bound : stretch.skip < b
  pub phases : (0 == stretch.skip) ≡ equal
  pub carried : IsCarried equal ys stretch.source carry

-- What an act did on a stretch: it did its work in the window, read `count` elements beside it, and carries the last.
pub record ActsOnStretch {C D E S : Type 0} (access : Access D E) (Done : (ℕ → ℕ → ℕ) → C → C → Window → List Bool → S → S → Type 0) (b : ℕ) (at : ℕ → ℕ → ℕ)
    (c d : C) (old new : D) (stretch : Stretch) (equal : Bool) (s t : S) (last : ℕ) : Type 0 where
  pub done : Done at c d (stretch_window b stretch) (list_in b at (access.numbers old) (stretch_source b stretch)) s t
  pub carried : IsCarried equal (access.numbers old) (stretch.source + stretch.count) last
  pub right : OnlyReads access old new stretch.count

-- a window cut in two at the edge of an element
pub record IsCut (b : ℕ) (whole first second : Window) : Type 0 where
  pub start : first.start ≡ whole.start
  pub next : second.start ≡ first.start + first.len
  pub len : whole.len ≡ first.len + second.len
  pub edge : second.start % b ≡ 0

-- the edges of a window that lie inside an element
abbrev pub inside_edges : ℕ → Window → ℕ
inside_edges b window = min 1 (window.start % b) + min 1 ((window.start + window.len) % b)

-- the window holds other bits; each element that it touches was stored once at most, and none loaded but those of such edges
module _ {E C : Type 0} (access : Access C E) where
  -- The list's bits stand in the window, and each element that it touches was loaded at its edges and stored at most once.
  pub record PutsBits (b : ℕ) (at : ℕ → ℕ → ℕ) (old new : C) (window : Window) (list : List Bool) : Type 0 where
    pub writes : Writes b at (access.numbers old) (access.numbers new) window list
    pub cost : CostsAtMost access old new (inside_edges b window) (touched_count b window.start window.len)
