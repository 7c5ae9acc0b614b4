-- The elements that a range of places touches hold the range's bits.
use Rattle.std.specs.Prelude.{◌≡◌, ℕ, ◌+◌, ◌-◌, ◌*◌, ◌%◌, ◌<◌, ◌≤◌, Bool, List, length, slice_range}
use Rattle.std.proofs.Common.{arith, ◌∙◌, ap}
use Rattle.std.proofs.Math.Nat.{add-mul, lt_of_mul-lt-mul_right, mul-le-mul_left, mul-le-mul_right}
use Rattle.std.proofs.lemmas.Grind.{div_ceil_times}
use Rattle.std.proofs.lemmas.Nat.{div-add-mod', mod_below}
use Rattle.bitvec_base.specs.Memory.{memory_bits}
use Rattle.bitvec_base.specs.MemoryLaws.{length-memory_bits, memory-range}
use Rattle.bitvec_base.specs.SliceLaws.{range-same}
use Rattle.bitvec_base.specs.WriteLaws.{length-slice_range, range-range}
use Rattle.bitvec_slice.specs.Touched.{end_touched, first_touched, touched_elements}

-- they are some of n elements, and the places are theirs from the index `start % b` of the first on
pub record Touches (b n start end : ℕ) : Type 0 where
  pub order : first_touched b start ≤ end_touched b end
  pub bound : end_touched b end ≤ n
  pub begins : first_touched b start * b + start % b ≡ start
  pub index : start % b < b
  pub holds : start % b + (end - start) ≤ b * (end_touched b end - first_touched b start)

module _ (b n start end : ℕ) (some : 0 < b) (order : start ≤ end) (bound : end ≤ b * n) where
  -- The elements that a range of places touches are in order, among the `n`, and hold the range.
  pub touches : Touches b n start end
  touches =
      let first = first_touched b start in
      let last = end_touched b end in
      let place = div-add-mod' start b in
      let index = mod_below start b some in
      let ends = div_ceil_times end b some in
      let next = add-mul n 1 b in
      let after = add-mul last 1 b in
      let within : last < n + 1 = lt_of_mul-lt-mul_right b (omega arith) in
      let ordered : first < last + 1 = lt_of_mul-lt-mul_right b (omega arith) in
      let spread = add-mul first (last - first) b in
      let sum : first + (last - first) ≡ last = omega arith in
      let rows = ap (λ (k : ℕ). k * b) sum in
      record {
        order = omega arith;
        bound = omega arith;
        begins = place;
        index = index;
        holds = omega arith;
      }

-- The bits of a range are those of the elements that it touches, from the range's index in the first of them on.
pub touched-bits : (b : ℕ) (at : ℕ → ℕ → ℕ) (xs : List ℕ) (start end n : ℕ) → 0 < b → start + n ≡ end → end ≤ b * length xs
    → slice_range (memory_bits b at (touched_elements b xs start end)) (start % b) (start % b + n) ≡ slice_range (memory_bits b at xs) start end
touched-bits b at xs start end n some sum bound =
    let is = touches b (length xs) start end some (omega arith) bound in
    let first = first_touched b start in
    let last = end_touched b end in
    let memory = memory_bits b at xs in
    let long = length-memory_bits b at xs in
    let begins = is.begins in
    let ends = div_ceil_times end b some in
    let within = mul-le-mul_right {m = last} {n = length xs} b is.bound in
    ap (λ (l : List Bool). slice_range l (start % b) (start % b + n)) (memory-range b at xs first last some is.order is.bound)
    ∙ range-range memory (first * b) (last * b) (start % b) (start % b + n) (omega arith) (omega arith)
    ∙ range-same memory _ _ _ _ begins (omega arith)

-- the elements that a range of a view's bits touches are some of its own, and have room for the range
module _ {X : Type 0} (b : ℕ) (elements : List X) (start len from to : ℕ) (some : 0 < b) (inside : start + len ≤ b * length elements) (order : from ≤ to) (bound : to ≤ len) where
  touches_range : Touches b (length elements) (start + from) (start + to)
  touches_range = touches b (length elements) (start + from) (start + to) some (omega arith) (omega arith)

  -- The elements that a view's range touches end at most at the last of the view's elements.
  pub touched_end : end_touched b (start + to) ≤ length elements
  touched_end = touches_range.bound

  length-touched : length (touched_elements b elements (start + from) (start + to)) ≡ end_touched b (start + to) - first_touched b (start + from)
  length-touched = length-slice_range elements (first_touched b (start + from)) (end_touched b (start + to)) touched_end

  -- The elements that a view's range touches have room for its bits from its index in the first of them on.
  pub touched_holds : (start + from) % b + (to - from) ≤ b * length (touched_elements b elements (start + from) (start + to))
  touched_holds = let holds = touches_range.holds in rw length-touched (omega arith)

  -- The elements that a view's range touches have at most as many bits as the view's elements.
  pub touched_few : (most : ℕ) → b * length elements ≤ most → b * length (touched_elements b elements (start + from) (start + to)) ≤ most
  touched_few most few =
      let within = touched_end in
      let fewer = mul-le-mul_left {m = end_touched b (start + to) - first_touched b (start + from)} {n = length elements} b (omega arith) in
      rw length-touched (omega arith)
