-- Elements replaced by others at once, as a write of their bits.
use Rattle.std.specs.Prelude.{◌≡◌, ℕ, ◌+◌, ◌*◌, ◌<◌, ◌≤◌, Bool, List, ◌++◌, length, take, drop, slice_range, refl}
use Rattle.std.proofs.Common.{arith, sym, ap, ◌∙◌}
use Rattle.std.proofs.Math.Nat.{mul-le-mul_right}
use Rattle.bitvec_base.specs.Memory.{memory_bits}
use Rattle.bitvec_base.specs.MemoryLaws.{length-memory_bits, memory-range}
use Rattle.bitvec_base.specs.SliceLaws.{range-all, range-from_start, range-join, range-same, range-to_end}
use Rattle.bitvec_base.specs.Window.{write_at}
use Rattle.bitvec_base.specs.WriteLaws.{length-write_at, range-write_at, range-write_at_after, range-write_at_before}

-- elements that two memories have in common
same-part : (b : ℕ) (at : ℕ → ℕ → ℕ) (xs zs : List ℕ) (a e : ℕ) → 0 < b → a ≤ e → e ≤ length xs → e ≤ length zs → slice_range zs a e ≡ slice_range xs a e
    → slice_range (memory_bits b at zs) (a * b) (e * b) ≡ slice_range (memory_bits b at xs) (a * b) (e * b)
same-part b at xs zs a e some order fits short same = sym (memory-range b at zs a e some order short) ∙ ap (memory_bits b at) same ∙ memory-range b at xs a e some order fits

pub memory-write_at : (b : ℕ) (at : ℕ → ℕ → ℕ) (xs new : List ℕ) (first : ℕ) → 0 < b → first + length new ≤ length xs
    → memory_bits b at (write_at xs first new) ≡ write_at (memory_bits b at xs) (first * b) (memory_bits b at new)
unfolding write_at
memory-write_at b at xs new first some fits =
    let n = length xs in
    let end = first + length new in
    let zs = write_at xs first new in
    let old = memory_bits b at xs in
    let now = memory_bits b at zs in
    let long = length-write_at xs first new fits in
    let old-long = length-memory_bits b at xs in
    let now-long = length-memory_bits b at zs ∙ ap (λ (m : ℕ). b * m) long in
    let new-long = length-memory_bits b at new in
    let high = mul-le-mul_right {m = end} {n = n} b fits in
    let front : slice_range now 0 (first * b) ≡ take (first * b) old =
    range-same now 0 (first * b) (0 * b) (first * b) (omega arith) refl
    ∙ same-part b at xs zs 0 first some (omega arith) (omega arith) (omega arith) (range-write_at_before xs first new 0 first fits (omega arith))
    ∙ range-same old (0 * b) (first * b) 0 (first * b) (omega arith) refl
    ∙ range-from_start old (first * b) (first * b) refl in
    let middle : slice_range now (first * b) (end * b) ≡ memory_bits b at new =
    sym (memory-range b at zs first end some (omega arith) (omega arith)) ∙ ap (memory_bits b at) (range-write_at xs first new fits) in
    let back : slice_range now (end * b) (n * b) ≡ drop (first * b + length (memory_bits b at new)) old =
    same-part b at xs zs end n some fits (omega arith) (omega arith) (range-write_at_after xs first new end n fits (omega arith) (omega arith))
    ∙ range-to_end old (end * b) (n * b) (omega arith)
    ∙ ap (λ (k : ℕ). drop k old) (let same : end * b ≡ first * b + length (memory_bits b at new) = omega arith in same) in
    sym (range-all now (n * b) (omega arith))
    ∙ sym (range-join now 0 (first * b) (n * b) (omega arith) (omega arith) (omega arith))
    ∙ ap (λ (l : List Bool). slice_range now 0 (first * b) ++ l) (sym (range-join now (first * b) (end * b) (n * b) (omega arith) (omega arith) (omega arith)))
    ∙ ap (λ (l : List Bool). l ++ (slice_range now (first * b) (end * b) ++ slice_range now (end * b) (n * b))) front
    ∙ ap (λ (l : List Bool). take (first * b) old ++ (l ++ slice_range now (end * b) (n * b))) middle
    ∙ ap (λ (l : List Bool). take (first * b) old ++ (memory_bits b at new ++ l)) back
