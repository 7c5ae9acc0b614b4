-- How a window is cut at the edges of elements.
use Rattle.std.specs.Prelude.{◌≡◌, ℕ, ◌+◌, ◌-◌, ◌/◌, ◌<◌, ◌≤◌, ◌==◌, if◌then◌else◌, Option, None, Some, IfSome}
use Rattle.bitvec_base.specs.declared.part.Part.{Part}
use Rattle.bitvec_base.specs.declared.window.Window.{Window}
use Rattle.bitvec_base.specs.Parts.{first_part_of, last_part_of}
use Rattle.bitvec_domain.specs.declared.cut.Cut.{Cut}
use Rattle.bitvec_domain.specs.declared.cut.Cut.TheVariants.{Inside, Across}

-- from the head and the whole element `start` on, up to the end of the last part, which is the tail if it doesn't end its element
abbrev pub cut_across : ℕ → Option Part → ℕ → Part → Cut
cut_across b head start last =
    if last.to == b then Across head start (last.element + 1) None
    else Across head start last.element (Some last)

-- the window, in elements of b bits
abbrev pub cut_of : ℕ → Window → Cut
cut_of b window =
    let first = first_part_of b window in
    if window.len == 0 then Across None (window.start / b) (window.start / b) None
    else (if first.from == 0 then cut_across b None first.element (last_part_of b window)
    else (if first.to == b then cut_across b (Some first) (first.element + 1) (last_part_of b window)
    else Inside first))

-- The part isn't empty, and lies in one of `n` elements of `b` bits.
pub record IsPartWithin (b n : ℕ) (part : Part) : Type 0 where
  pub element : part.element < n
  pub order : part.from < part.to
  pub bound : part.to ≤ b

-- The part ends where its element does, which is the one before the element `start`.
pub record IsHeadWithin (b n start : ℕ) (part : Part) : Type 0 where
  pub within : IsPartWithin b n part
  pub end : part.to ≡ b
  pub next : part.element + 1 ≡ start

-- The part begins where its element does, which is the element `end`.
pub record IsTailWithin (b n end : ℕ) (part : Part) : Type 0 where
  pub within : IsPartWithin b n part
  pub start : part.from ≡ 0
  pub next : part.element ≡ end

-- the cut lies in a memory of n elements of b bits
abbrev pub IsCutWithin : ℕ → ℕ → Cut → Type 0
IsCutWithin b n (Inside part) = IsPartWithin b n part
IsCutWithin b n (Across head start end tail) =
    IfSome head (IsHeadWithin b n start) × (start ≤ end) × (end ≤ n) × IfSome tail (IsTailWithin b n end)

-- `part_from first part` is `part` with its element counted from the element `first` on.
abbrev pub part_from : ℕ → Part → Part
part_from first part = record { element = part.element - first; from = part.from; to = part.to }

-- `part_if_from first part` is that part, where there is one.
abbrev pub part_if_from : ℕ → Option Part → Option Part
part_if_from first None = None
part_if_from first (Some part) = Some (part_from first part)
