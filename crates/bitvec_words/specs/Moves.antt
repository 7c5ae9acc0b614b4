-- What copies and exchanges need of their windows, and what they leave.
use Rattle.std.specs.Prelude.{◌≡◌, ℕ, ◌+◌, ◌-◌, ◌<◌, ◌≤◌, ◌/◌, ◌%◌, ◌==◌, nat_le, Bool, true, false, if◌then◌else◌, List, slice_set}
use Rattle.bitvec_base.specs.declared.part.Part.{Part}
use Rattle.bitvec_base.specs.declared.window.Window.{Window}
use Rattle.bitvec_base.specs.Memory.{HasWindow, Writes, list_in}
use Rattle.bitvec_base.specs.Parts.{HasPart}
use Rattle.bitvec_base.specs.Spans.{HasSpan}
use Rattle.bitvec_words.specs.Elements.{elements_window, elements_window_from}
use Rattle.bitvec_words.specs.declared.stretch.Stretch.{Stretch}

-- a part of one element, and a window of the other memory with as many bits, but not none
pub record HasPartSpan (b : ℕ) (xs ys : List ℕ) (part : Part) (window : Window) : Type 0 where
  pub element : HasPart b xs part
  pub beside : HasWindow b ys window
  pub lengths : part.to ≡ part.from + window.len
  pub some : 0 < window.len

-- a window that begins where an element does, and one of the other memory, as long, that begins inside an element
pub record HasSkippedSpan (b : ℕ) (xs ys : List ℕ) (left right : Window) : Type 0 where
  pub span : HasSpan b xs ys left right
  pub edge : left.start % b ≡ 0
  pub inside : 0 < right.start % b

-- whole elements from `first` on, and as many bits from the index `skip` of the element `source` on, not its first bit
pub record HasSkippedElements (b : ℕ) (xs ys : List ℕ) (first source skip count : ℕ) : Type 0 where
  pub span : HasSpan b xs ys (elements_window b first count) (elements_window_from b source skip count)
  pub inside : 0 < skip
  pub bound : skip < b

-- the whole elements of a window of elements of b bits, and as many bits from another one's first bit on
abbrev pub stretch_of : ℕ → Window → Window → Stretch
stretch_of b to from = record { first = to.start / b; source = from.start / b; skip = from.start % b; count = to.len / b }

-- `count` elements behind `passed` others
abbrev pub stretch_part : ℕ → ℕ → Stretch → Stretch
stretch_part passed count stretch = record { first = stretch.first + passed; source = stretch.source + passed; skip = stretch.skip; count = count }

-- ---- what moves within one memory: elements from the first one on, or `later` from the last one back

-- a place is no later than the one that is read from, or `later` no earlier
abbrev pub IsToward : Bool → ℕ → ℕ → Type 0
IsToward false to from = to ≤ from
IsToward true to from = from ≤ to

-- the place, of n, of the element that is moved after k others
abbrev pub nth_place : Bool → ℕ → ℕ → ℕ
nth_place later k n = if later then n - (k + 1) else k

-- where the k elements begin that were moved
abbrev pub moved_place : Bool → ℕ → ℕ → ℕ
moved_place later k n = if later then n - k else 0

-- of the n + 1 elements that are read, the one that is carried then
abbrev pub waiting_place : Bool → ℕ → ℕ → ℕ
waiting_place later k n = if later then n - k else k

-- What a move of n bits in elements of b bits may load and store beside, where at most `edges` of them lie beside whole elements: bytes that
-- are many, but not very many, go by words, and then some go twice.
unfoldable pub late_words : ℕ → ℕ → ℕ → ℕ
late_words b edges n = if b == 8 then (if nat_le 640 n then (if nat_le (4096 + edges) n then 0 else 9) else 0) else 0

-- ---- what is left

-- The window holds the bits of the window `from` of the other memory, and every bit outside it is as before.
abbrev pub Copies : ℕ → (ℕ → ℕ → ℕ) → List ℕ → List ℕ → Window → List ℕ → Window → Type 0
Copies b at old new window other from = Writes b at old new window (list_in b at other from)

-- whole elements hold the bits from the index `skip` of the other memory's element `source` on
abbrev pub CopiesElements : ℕ → (ℕ → ℕ → ℕ) → List ℕ → List ℕ → List ℕ → ℕ → ℕ → ℕ → ℕ → Type 0
CopiesElements b at old new other first source skip count = Copies b at old new (elements_window b first count) other (elements_window_from b source skip count)

-- k of those elements do, the first ones or `later` the last ones
abbrev pub CopiesSome : Bool → ℕ → (ℕ → ℕ → ℕ) → List ℕ → List ℕ → ℕ → ℕ → ℕ → ℕ → ℕ → Type 0
CopiesSome later b at old new first source skip count k =
    let moved = moved_place later k count in
    CopiesElements b at old new old (first + moved) (source + moved) skip k

-- Each of two windows holds the bits that the other one held, and every bit outside them is as before.
pub record SwapsWindows (b : ℕ) (at : ℕ → ℕ → ℕ) (xs new_xs ys new_ys : List ℕ) (left right : Window) : Type 0 where
  pub writes : Copies b at xs new_xs left ys right
  pub right_writes : Copies b at ys new_ys right xs left

-- Whole elements and bits from index `skip` of `source` on are exchanged, where `waiting` is to be `source`, and `last` the last element.
abbrev pub SwapsElements : ℕ → (ℕ → ℕ → ℕ) → List ℕ → List ℕ → List ℕ → List ℕ → ℕ → ℕ → ℕ → ℕ → ℕ → ℕ → Type 0
SwapsElements b at xs new_xs ys new_ys first source skip count waiting last =
    SwapsWindows b at xs new_xs (slice_set ys source waiting) (slice_set new_ys (source + count) last) (elements_window b first count) (elements_window_from b source skip count)
