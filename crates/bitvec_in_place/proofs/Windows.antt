-- What is written into a window of a memory's bits, by the words on ranges and on whole lists.
use Rattle.std.specs.Prelude.{◌≡◌, ℕ, ◌+◌, ◌-◌, ◌*◌, ◌≤◌, Bool, false, List, length, slice_index_or, slice_range, slice_set, map}
use Rattle.std.specs.List.{swap}
use Rattle.std.proofs.Common.{arith, refl, sym, ◌∙◌, ap}
use Rattle.std.proofs.lemmas.List.{length-map, length-set}
use Rattle.std.proofs.lemmas.List.Edits.{length-swap}
use Rattle.bitvec_base.specs.LengthLaws as lasting
use Rattle.bitvec_within.specs.Combined.{combined_within}
use Rattle.bitvec_within.specs.CombinedLaws.{length-combined_within}
use Rattle.bitvec_base.specs.Lists.{copied_within}
use Rattle.bitvec_base.specs.Memory.{HasWindow, Writes, memory_bits}
use Rattle.bitvec_base.specs.SliceLaws.{range-all}
use Rattle.bitvec_base.specs.Window.{max_bits, window_of, write_at}
use Rattle.bitvec_base.specs.WriteLaws.{range-write_at, write_at-all}
use Rattle.bitvec_base.specs.declared.window.Window.{Window}
use Rattle.bitvec_within.specs.Swaps.{swapped_within}
use Rattle.bitvec_within.specs.SwapsLaws.{length-swapped}
use Rattle.bitvec_in_place.specs.MovedLaws.{get-put_outside, length-bits_of, length-put}
use Rattle.bitvec_in_place.specs.Ranges.{ChangesOnly, HasBits, bits_in, edited}

-- ---- the window of a range

pub window_range : (bits : List Bool) (from to : ℕ) → from ≤ to → window_of bits (record { start = from; len = to - from }) ≡ slice_range bits from to
unfolding window_of
window_range bits from to order = let end : from + (to - from) ≡ to = omega arith in ap (slice_range bits from) end

pub bits-is : (bits : List Bool) (from to : ℕ) → from ≤ to → bits_in bits from to ≡ window_of bits (record { start = from; len = to - from })
unfolding bits_in
bits-is bits from to order = sym (window_range bits from to order)

pub window_has : {T : Type 0} (b : ℕ) (value : T → ℕ) (elements : List T) (from to : ℕ) → HasBits b (length elements) from to → HasWindow b (map value elements) (record { start = from; len = to - from })
window_has b value elements from to has =
    let room = ap (λ (n : ℕ). b * n) (length-map elements value) in
    record { fits = omega arith; within = record { start = omega arith; len = omega arith } }

-- an edit by the range's bits

pub edited-is : (edit : List Bool → List Bool) (list : List Bool) (from to : ℕ) → edited edit list from to ≡ write_at list from (edit (bits_in list from to))
unfolding edited bits_in
edited-is edit list from to = refl

-- ---- the window of all

pub all_has : {T : Type 0} (b : ℕ) (value : T → ℕ) (elements : List T) → b * length elements ≤ max_bits → HasWindow b (map value elements) (record { start = 0; len = b * length elements })
all_has b value elements fits =
    let room = ap (λ (n : ℕ). b * n) (length-map elements value) in
    record { fits = omega arith; within = record { start = omega arith; len = omega arith } }

pub window_all : (bits : List Bool) (n : ℕ) → n ≡ length bits → window_of bits (record { start = 0; len = n }) ≡ bits
unfolding window_of
window_all bits n all = range-all bits (0 + n) (omega arith)

module _ (bits : List Bool) where
  pub whole-set : (i : ℕ) (bit : Bool) → write_at bits 0 (slice_set bits i bit) ≡ slice_set bits i bit
  whole-set i bit = write_at-all bits (slice_set bits i bit) (length-set bits i bit)

  pub whole-swap : (i j : ℕ) → write_at bits 0 (swap bits i j) ≡ swap bits i j
  whole-swap i j = write_at-all bits (swap bits i j) (length-swap bits i j)

  pub whole-copy : (from to dest : ℕ) → to ≤ length bits → dest + (to - from) ≤ length bits → write_at bits 0 (copied_within from to dest bits) ≡ copied_within from to dest bits
  whole-copy from to dest source room = write_at-all bits (copied_within from to dest bits) (lasting.length-copied_within from to dest bits source room)

  pub whole-exchange : (from to dest : ℕ) → from ≤ to → to ≤ length bits → dest + (to - from) ≤ length bits → write_at bits 0 (swapped_within from to dest bits) ≡ swapped_within from to dest bits
  whole-exchange from to dest order source room = write_at-all bits (swapped_within from to dest bits) (length-swapped from to dest bits order source room)

  pub whole-combine : (f : Bool → Bool → Bool) (from to dest : ℕ) → from ≤ to → dest + (to - from) ≤ length bits → write_at bits 0 (combined_within f from to dest bits) ≡ combined_within f from to dest bits
  whole-combine f from to dest order room = write_at-all bits (combined_within f from to dest bits) (length-combined_within f from to dest bits order room)

-- ---- a window that is a range

pub window_is : (bits : List Bool) (window : Window) (from to : ℕ) → window ≡ record { start = from; len = to - from } → from ≤ to → window_of bits window ≡ bits_in bits from to
window_is bits window from to is order = ap (λ (w : Window). window_of bits w) is ∙ sym (bits-is bits from to order)

module _ {T : Type 0} (b : ℕ) (at : ℕ → ℕ → ℕ) (value : T → ℕ) (old new : List T) (window : Window) (from to : ℕ) (list : List Bool)
    (is : window ≡ record { start = from; len = to - from }) (order : from ≤ to) (inside : to ≤ b * length old) (wrote : Writes b at (map value old) (map value new) window list) where
  was : List Bool
  was = memory_bits b at (map value old)

  size : length list ≡ to - from
  size = wrote.long ∙ ap (λ (w : Window). w.len) is

  now : memory_bits b at (map value new) ≡ write_at was from list
  unfolding was
  now = wrote.bits ∙ ap (λ (w : Window). write_at (memory_bits b at (map value old)) w.start list) is

  -- the range has what was written, and no bit outside it changed
  pub written_range : bits_in (memory_bits b at (map value new)) from to ≡ list
  unfolding bits_in was
  written_range =
      let whole = length-bits_of b at value old in
      let long = size in
      let end : to ≡ from + length list = omega arith in
      ap (λ (m : List Bool). bits_in m from to) now ∙ ap (λ (e : ℕ). slice_range (write_at was from list) from e) end ∙ range-write_at was from list (omega arith)

  pub written_outside : ChangesOnly from to (memory_bits b at (map value old)) (memory_bits b at (map value new))
  unfolding was
  written_outside =
      let whole = length-bits_of b at value old in
      record {
        length = ap (λ (m : List Bool). length m) now ∙ length-put was from to list order (omega arith) size;
        bits = λ k apart. ap (λ (m : List Bool). slice_index_or m k false) now ∙ get-put_outside was from to list order (omega arith) size k false apart;
      }

pub ruleset wholes = (arith, length-bits_of, whole-set, whole-swap, whole-copy, whole-exchange, whole-combine)

pub ruleset spans = (arith, bits-is, window_all, length-bits_of)
