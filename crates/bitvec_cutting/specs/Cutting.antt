-- Where the pieces of a list stand that is cut into numbered ones, by how many values the list has.
use Rattle.std.specs.Prelude.{ℕ, ◌+◌, ◌-◌, ◌*◌, ◌/◌, ◌%◌, ◌≤◌, List, min, slice_range}
use Rattle.std.specs.Int.{div_ceil}
use Rattle.std.specs.declared.ops.Range.{Range}

-- The range is in order and lies in a list of `len` values.
abbrev pub LiesIn : ℕ → Range ℕ → Type 0
LiesIn len places = (places.start ≤ places.end) × (places.end ≤ len)

-- The values of the list in the range.
abbrev pub cut : {X : Type 0} → List X → Range ℕ → List X
cut xs places = slice_range xs places.start places.end

-- How many windows of a size a list has, as `windows` of std and `bitvec` gives them.
abbrev pub window_count : ℕ → ℕ → ℕ
window_count size len = len + 1 - size

-- The window with this number begins at the place `number` and has `size` values.
abbrev pub window : ℕ → ℕ → ℕ → Range ℕ
window size len number = record { start = number; end = number + size }

-- How many chunks of a size a list has, the last of which may be shorter.
abbrev pub chunk_count : ℕ → ℕ → ℕ
chunk_count size len = div_ceil len size

-- The chunk with this number, from the list's start: it ends after `size` values or where the list does.
abbrev pub chunk : ℕ → ℕ → ℕ → Range ℕ
chunk size len number = record { start = number * size; end = min ((number + 1) * size) len }

-- How many whole chunks of a size a list has.
abbrev pub whole_count : ℕ → ℕ → ℕ
whole_count size len = len / size

-- The whole chunk with this number, from the list's start.
abbrev pub whole_chunk : ℕ → ℕ → ℕ → Range ℕ
whole_chunk size len number = record { start = number * size; end = (number + 1) * size }

-- The values behind the last whole chunk, as the remainder of `chunks_exact` has them.
abbrev pub left_behind : ℕ → ℕ → Range ℕ
left_behind size len = record { start = len - len % size; end = len }

-- The chunk with this number, from the list's end: it begins `size` values before its end or where the list does.
abbrev pub back_chunk : ℕ → ℕ → ℕ → Range ℕ
back_chunk size len number = record { start = len - (number + 1) * size; end = len - number * size }

-- The values before the last whole chunk from the end, as the remainder of `rchunks_exact` has them.
abbrev pub left_before : ℕ → ℕ → Range ℕ
left_before size len = record { start = 0; end = len % size }
