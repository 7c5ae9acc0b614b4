-- Runs: fields that follow one another, of at most 64 bits together, and the numbers that lists of bits have there.
use Rattle.std.specs.Prelude.{◌≡◌, ℕ, ◌+◌, ◌-◌, ◌*◌, ◌^◌, ◌<◌, ◌≤◌, if◌then◌else◌, Bool, false, true, List, length, slice_index}
use Rattle.bitvec.specs.Segments.{segment_number}
use Rattle.bitvec.specs.Types.{Window}
use Rattle.bitvec.specs.Window.{window_of}
use Rattle.bitrecord.specs.Layouts.{field_at}
use Rattle.bitrecord.specs.Records.{field_number}
use Rattle.bitrecord.specs.declared.endian.Endian.{Endian}
use Rattle.bitrecord.specs.declared.endian.Endian.TheVariants as end

-- `end_of fields k` is the place behind the last bit of field `k`.
abbrev pub end_of : List Window → ℕ → ℕ
end_of fields k = (field_at fields k).start + (field_at fields k).len

-- `IsRun fields first last` says that the fields from number `first` to `last` follow one another, and that several have at most 64 bits
-- together.
pub record IsRun (fields : List Window) (first last : ℕ) : Type 0 where
  pub order : first ≤ last
  pub below : last < length fields
  pub next : (k : ℕ) → first ≤ k → k < last → end_of fields k ≡ (field_at fields (k + 1)).start
  pub front : (k : ℕ) → first ≤ k → k ≤ last → (field_at fields first).start ≤ (field_at fields k).start
  pub behind : (k : ℕ) → first ≤ k → k ≤ last → end_of fields k ≤ end_of fields last
  pub few : last + (field_at fields first).start < first + end_of fields last
  pub bound : first < last → end_of fields last ≤ (field_at fields first).start + 64

-- `AreRuns fields runs` says that `runs` has, for each of the first 64 fields, how many fields follow it in its run.
abbrev pub AreRuns : List Window → List ℕ → Type 0
AreRuns fields runs = (n : ℕ) → n < length fields → n < 64 → IsRun fields n (n + slice_index runs n)

-- `ReadsRun endian high b s list fields first last old new` says that `new` has the numbers of the run's fields, and before them what `old`
-- has.
pub record ReadsRun (endian : Endian) (high : Bool) (b s : ℕ) (list : List Bool) (fields : List Window) (first last : ℕ) (old new : List ℕ) : Type 0 where
  pub done : (k : ℕ) → first ≤ k → k ≤ last → slice_index new k ≡ field_number endian high b s list (field_at fields k)
  pub kept : (k : ℕ) → k < first → slice_index new k ≡ slice_index old k

-- `across fields first last` is the window from the first bit of field `first` to the last bit of field `last`.
abbrev pub across : List Window → ℕ → ℕ → Window
across fields first last = record { start = (field_at fields first).start; len = end_of fields last - (field_at fields first).start }

-- `IsSeamless endian high` says that numbers have no seam at the edge of an element: `Little` under `Lsb0`, `Big` under `Msb0`.
abbrev pub IsSeamless : Endian → Bool → Type 0
IsSeamless end.Little high = high ≡ false
IsSeamless end.Big high = high ≡ true

-- `plain_number high list window` is the number of a window of a list, as one segment.
abbrev pub plain_number : Bool → List Bool → Window → ℕ
plain_number high list window = segment_number high (window_of list window)

-- `aligned high number len` is a word of 64 bits that has a number of `len` bits as its highest bits (`high`) or its lowest.
abbrev pub aligned : Bool → ℕ → ℕ → ℕ
aligned high number len = if high then number * 2 ^ (64 - len) else number

-- `SplitsOff high word len number left` says that `number` is the highest (`high`) or lowest `len` bits of a word of 64, and `left` the
-- others, moved up or down.
abbrev pub SplitsOff : Bool → ℕ → ℕ → ℕ → ℕ → Type 0
SplitsOff true word len number left = (word * 2 ^ len ≡ number * 2 ^ 64 + left) × (left < 2 ^ 64)
SplitsOff false word len number left = (word ≡ left * 2 ^ len + number) × (number < 2 ^ len)
