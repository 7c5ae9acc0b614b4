-- Parts of one element, and where a window is cut at the edges of elements of b bits.
use Rattle.std.specs.Prelude.{ℕ, ◌+◌, ◌-◌, ◌*◌, ◌/◌, ◌%◌, ◌<◌, ◌≤◌, List, length, min}
use Rattle.bitvec_base.specs.declared.part.Part.{Part}
use Rattle.bitvec_base.specs.declared.window.Window.{Window}

-- The part's element is one of the memory, and its range of indices is in order and ends at most at `b`.
pub record HasPart (b : ℕ) (numbers : List ℕ) (part : Part) : Type 0 where
  pub element : part.element < length numbers
  pub order : part.from ≤ part.to
  pub bound : part.to ≤ b

-- The window of a part's bits in a memory of elements of `b` bits.
abbrev pub part_window : ℕ → Part → Window
part_window b part = record { start = part.element * b + part.from; len = part.to - part.from }

-- The part of its first element, of `b` bits, that a window covers.
abbrev pub first_part_of : ℕ → Window → Part
first_part_of b window = record { element = window.start / b; from = window.start % b; to = window.start % b + min window.len (b - window.start % b) }

-- The part of its last element, of `b` bits, that a window covers.
abbrev pub last_part_of : ℕ → Window → Part
last_part_of b window =
    let last = window.start + (window.len - 1) in
    record { element = last / b; from = last % b + 1 - min window.len (last % b + 1); to = last % b + 1 }

-- The bits behind the whole elements of a window that begins at an element's edge, as a part of their element.
abbrev pub tail_part_of : ℕ → Window → Part
tail_part_of b window = record { element = window.start / b + window.len / b; from = 0; to = window.len % b }
