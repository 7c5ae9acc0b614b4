-- The loads and stores that work on bits may take.
use Rattle.std.specs.Prelude.{ℕ, Bool, ◌+◌, ◌-◌, ◌*◌, ◌/◌, ◌==◌, nat_le, if◌then◌else◌, Option, Some, None}
use Rattle.bitvec_base.specs.declared.part.Part.{Part}
use Rattle.bitvec_base.specs.declared.window.Window.{Window}

-- The number of elements of `b` bits that hold a bit of the `n` places from `s` on, which is 0 if `n` is 0.
unfoldable pub touched_count : ℕ → ℕ → ℕ → ℕ
touched_count b s n = if n == 0 then 0 else (s + n - 1) / b - s / b + 1

-- The loads that filling a part takes: none if it is a whole element of `b` bits, and else one.
abbrev pub part_loads : ℕ → Part → ℕ
part_loads b part = if part.to - part.from == b then 0 else 1

-- The most loads that filling a window of `n` bits takes: two, for its edges, or none if `n` is 0.
abbrev pub fill_loads : ℕ → ℕ
fill_loads n = if n == 0 then 0 else 2

-- The loads of a search from the front: the window's elements up to the one with the bit, or all if none has it.
abbrev pub first_loads : ℕ → Window → Option ℕ → ℕ
first_loads b window None = touched_count b window.start window.len
first_loads b window (Some i) = touched_count b window.start (i + 1)

-- The loads of a search from the back: the window's elements from the one with the bit on, or all if none has it.
abbrev pub last_loads : ℕ → Window → Option ℕ → ℕ
last_loads b window None = touched_count b window.start window.len
last_loads b window (Some i) = touched_count b (window.start + i) (window.len - i)

-- ---- work on whole windows, in steps

-- The bits of one step: the 64 of a word if the order works by words, and else one bit.
abbrev pub step_bits : Bool → ℕ
step_bits words = if words then 64 else 1

-- The number of steps that `n` bits take, where the last step may have fewer bits.
unfoldable pub work_steps : Bool → ℕ → ℕ
work_steps words n = (n + (step_bits words - 1)) / step_bits words

-- A bound on the number of elements of `b` bits that one step touches.
unfoldable pub step_span : ℕ → Bool → ℕ
step_span b words = (step_bits words + b - 1) / b + 1

-- The most loads that reading `n` bits takes: those of each element that a step touches.
unfoldable pub read_loads : ℕ → Bool → ℕ → ℕ
read_loads b words n = work_steps words n * step_span b words

-- The most loads that writing `n` bits takes: two for each step.
unfoldable pub write_loads : ℕ → Bool → ℕ → ℕ
write_loads b words n = work_steps words n * 2

-- The most stores that writing `n` bits takes: those of each element that a step touches.
unfoldable pub write_stores : ℕ → Bool → ℕ → ℕ
write_stores b words n = work_steps words n * step_span b words

-- The most loads that `n` bits take which are both read and written.
abbrev pub edit_loads : ℕ → Bool → ℕ → ℕ
edit_loads b words n = read_loads b words n + write_loads b words n

-- The most loads that reversing `n` bits takes: those of one step more if it goes by words, else two for each bit.
unfoldable pub reverse_loads : ℕ → Bool → ℕ → ℕ
reverse_loads b words n = if words then (work_steps words n + 1) * (step_span b words + 2) else 2 * n

-- The most stores that reversing `n` bits takes: those of one step more if it goes by words, else one for each bit.
unfoldable pub reverse_stores : ℕ → Bool → ℕ → ℕ
reverse_stores b words n = if words then (work_steps words n + 1) * step_span b words else n

-- The most loads that rotating `m` bits by `k` takes: those of three reversals, of `k`, `m - k` and `m` bits.
abbrev pub rotate_loads : ℕ → Bool → ℕ → ℕ → ℕ
rotate_loads b words k m = reverse_loads b words k + reverse_loads b words (m - k) + reverse_loads b words m

-- The most stores that rotating `m` bits by `k` takes: those of three reversals, of `k`, `m - k` and `m` bits.
abbrev pub rotate_stores : ℕ → Bool → ℕ → ℕ → ℕ
rotate_stores b words k m = reverse_stores b words k + reverse_stores b words (m - k) + reverse_stores b words m

-- The most loads on each side of a comparison of `m` bits with `r` bits: none if they aren't as many.
abbrev pub equal_loads : ℕ → Bool → ℕ → ℕ → ℕ
equal_loads b words m r = if m == r then read_loads b words m else 0

-- The most loads on each side of looking for `r` bits at `k` places of `m` bits: none if `r` is greater than `m`.
abbrev pub needle_loads : ℕ → Bool → ℕ → ℕ → ℕ → ℕ
needle_loads b words m r k = if nat_le r m then k * read_loads b words r else 0
