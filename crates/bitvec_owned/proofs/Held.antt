-- Elements that were 0, and into which a list was written.
use Rattle.std.specs.Prelude.{◌≡◌, ℕ, ◌+◌, ◌*◌, ◌<◌, ◌≤◌, Bool, false, List, [], length, map, replicate, refl}
use Rattle.std.specs.Int.{div_ceil}
use Rattle.std.proofs.Common.{◌∙◌, ap, arith, sym}
use Rattle.std.proofs.Math.Nat.{lt_of_mul-lt-mul_right}
use Rattle.std.proofs.lemmas.Grind.{div_ceil_times}
use Rattle.std.proofs.lemmas.List.{length-replicate}
use Rattle.bitvec_base.specs.FilledLaws.{bits-zeros}
use Rattle.bitvec_base.specs.Memory.{memory_bits}
use Rattle.bitvec_base.specs.Window.{window_of, write_at}
use Rattle.bitvec_base.specs.WriteLaws.{range-write_at, write_at-nil}
use Rattle.bitvec_slice.specs.Seen.{Seen, shown}
use Rattle.bitvec_copying.specs.ElementsLaws.{zeros}
use Rattle.bitvec_owned.specs.Copies.{Holds}

module _ {T : Type 0} (b : ℕ) (at : ℕ → ℕ → ℕ) (value : T → ℕ) (some : 0 < b) where
  -- what elements hold into which a list was written, where all their bits were 0
  pub holds : (elements : List T) (from n : ℕ) (list : List Bool) → n ≡ length list → length elements ≡ div_ceil (from + n) b
      → memory_bits b at (map value elements) ≡ write_at (replicate (b * length elements) false) from list → Holds b list from (shown b at value elements from n)
  unfolding window_of
  holds elements from n list long count written =
      let rounded = div_ceil_times (from + n) b some in
      let places = length-replicate (b * length elements) false in
      let fits : from + length list ≤ length (replicate (b * length elements) false) = rw (places, count) (omega arith) in
      record {
        bits = rw (written, long) (range-write_at (replicate (b * length elements) false) from list fits);
        start = refl;
        len = long;
        count = rw (← long) count;
        memory = written;
      }

  -- what such elements hold
  pub held : (none : T) (old elements : List T) (count from n : ℕ) (list : List Bool) (sequence : Seen T) → value none ≡ 0 → old ≡ replicate count none → length elements ≡ length old
      → count ≡ div_ceil (from + n) b → n ≡ length list → memory_bits b at (map value elements) ≡ write_at (memory_bits b at (map value old)) from list
      → sequence ≡ shown b at value elements from n → Holds b list from sequence
  held none old elements count from n list sequence is_zero filled many rounded long written is =
      let size : length elements ≡ count = many ∙ ap length filled ∙ length-replicate count none in
      let before : memory_bits b at (map value old) ≡ replicate (b * length elements) false = rw (size, filled) (zeros b at value none count is_zero) in
      rw is (holds elements from n list long (size ∙ rounded) (written ∙ ap (λ (memory : List Bool). write_at memory from list) before))

  -- a sequence of no element
  pub held_none : (elements : List T) (sequence : Seen T) → elements ≡ [] → sequence ≡ shown b at value elements 0 0 → Holds b [] 0 sequence
  held_none elements sequence empty is =
      let rounded = div_ceil_times (0 + 0) b some in
      let none_touched : div_ceil (0 + 0) b < 1 = lt_of_mul-lt-mul_right b (omega arith) in
      rw (rw empty at is) (holds [] 0 0 [] refl (omega arith) (bits-zeros b at [] refl ∙ sym (write_at-nil (replicate (b * 0) false) 0 (omega arith))))
