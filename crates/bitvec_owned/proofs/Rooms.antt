-- How many bits fit the elements for which there is memory.
use Rattle.std.specs.Prelude.{◌≡◌, ℕ, ◌+◌, ◌-◌, ◌*◌, ◌/◌, ◌%◌, ◌<◌, ◌≤◌, if◌then◌else◌, is_ok, min, OnErr, OnOk, Result, Ok, Err}
use Rattle.std.specs.Int.{div_ceil}
use Rattle.std.proofs.Common.{◌∙◌, ap, arith}
use Rattle.std.proofs.Math.Nat.{le-div_iff_mul-le, lt_of_mul-lt-mul_right, mul-le-mul_left}
use Rattle.std.proofs.lemmas.Nat.{div-add-mod', mod_below}
use Rattle.std.proofs.lemmas.Grind.{div_ceil_times}
use Rattle.bitvec_base.specs.Window.{max_bits}
use Rattle.bitvec_owned.specs.Owned.{usable_bits}

-- what is so at any answer
pub refused : {V E P : Type 0} (r : Result V E) → P → OnErr r P
refused (Ok v) p = tt
refused (Err e) p = p

module _ (b : ℕ) (some : 0 < b) where
  -- so many bits touch no more elements than there are
  pub fewest : (end n : ℕ) → end ≤ b * n → div_ceil end b ≤ n
  fewest end n inside =
      let rounded = div_ceil_times end b some in
      let less : div_ceil end b < n + 1 = lt_of_mul-lt-mul_right b (omega arith) in
      omega arith

  -- bits that touch more elements than so many don't fit these
  pub past-fit : (end n : ℕ) → n < div_ceil end b → b * n < end
  past-fit end n past =
      let rounded = div_ceil_times end b some in
      let more : b * (n + 1) ≤ b * div_ceil end b = mul-le-mul_left {m = n + 1} {n = div_ceil end b} b (omega arith) in
      let apart : b * (n + 1) ≡ b * n + b = omega arith in
      omega arith

  -- so many elements have no more bits than a memory may
  pub few-fit : (n : ℕ) → n ≤ max_bits / b → b * n ≤ max_bits
  few-fit n few = let product = (le-div_iff_mul-le {k = b} {x = n} {y = max_bits} some).0 few in omega arith

  -- they hold the bits that touch them
  pub touched-inside : (end n : ℕ) → n ≡ div_ceil end b → end ≤ b * n
  touched-inside end n is = let rounded = div_ceil_times end b some in rw is (omega arith)

  -- more bits touch as many elements, or more
  pub more-touched : (end more n k : ℕ) → n ≡ div_ceil end b → k ≡ div_ceil (end + more) b → n ≤ k
  more-touched end more n k few many = let inside = touched-inside (end + more) k many in rw few (fewest end k (omega arith))

  -- of n elements those are left that the first bits touch: they hold these, and fit
  pub cut-fits : (end n left k : ℕ) → end ≤ b * n → b * n ≤ max_bits → k ≡ div_ceil end b → left + (n - k) ≡ n → (left ≡ div_ceil end b) × (end ≤ b * left) × (b * left ≤ max_bits)
  cut-fits end n left k inside fits is cut =
      let few = fewest end n inside in
      let count : left ≡ div_ceil end b = omega arith in
      let product = mul-le-mul_left {m = left} {n = n} b (omega arith) in
      (count, touched-inside end left count, omega arith)

  -- where an element ends with the bits, one bit more touches one element more
  pub next-touched : (end : ℕ) → end % b ≡ 0 → div_ceil (end + 1) b ≡ div_ceil end b + 1
  next-touched end whole =
      let now = div_ceil_times end b some in
      let later = div_ceil_times (end + 1) b some in
      let sum = div-add-mod' end b in
      let none : div_ceil end b ≡ end / b = rw whole (omega arith) in
      let low : end / b < div_ceil (end + 1) b = lt_of_mul-lt-mul_right b (omega arith) in
      let high : div_ceil (end + 1) b < end / b + 2 = lt_of_mul-lt-mul_right b (omega arith) in
      omega arith

  -- where it ends within one, one bit more touches no other
  pub same-touched : (end : ℕ) → (end % b ≡ 0 → ⊥) → div_ceil (end + 1) b ≡ div_ceil end b
  same-touched end inside =
      let now = div_ceil_times end b some in
      let later = div_ceil_times (end + 1) b some in
      let sum = div-add-mod' end b in
      let part : 0 < end % b = omega (arith, inside) in
      let up : div_ceil end b ≡ end / b + 1 = omega arith in
      let low : end / b < div_ceil (end + 1) b = lt_of_mul-lt-mul_right b (omega arith) in
      let below = mod_below end b some in
      let high : div_ceil (end + 1) b < end / b + 2 = lt_of_mul-lt-mul_right b (omega arith) in
      omega arith

  -- and then there is room for no bit more where there is for no element more
  pub past-next : (end n : ℕ) → end % b ≡ 0 → min n (max_bits / b) ≤ div_ceil end b → usable_bits b n ≤ end
  past-next end n whole past =
      let sum = div-add-mod' end b in
      let none : div_ceil end b ≡ end / b = rw whole (omega arith) in
      let product = mul-le-mul_left {m = min n (max_bits / b)} {n = div_ceil end b} b (omega arith) in
      let all : b * div_ceil end b ≡ b * (end / b) = ap (λ (k : ℕ). b * k) none in
      omega arith

  -- ---- the elements that there may be

  pub usable-fits : (n : ℕ) → usable_bits b n ≤ max_bits
  usable-fits n = few-fit (min n (max_bits / b)) (omega arith)

  pub usable-most : (n : ℕ) → usable_bits b n ≤ b * (max_bits / b)
  usable-most n = mul-le-mul_left {m = min n (max_bits / b)} {n = max_bits / b} b (omega arith)

  pub usable-more : (n k : ℕ) → n ≤ k → usable_bits b n ≤ usable_bits b k
  usable-more n k more = mul-le-mul_left {m = min n (max_bits / b)} {n = min k (max_bits / b)} b (omega arith)

  -- n elements were asked for, as many as the bits up to `end` touch
  pub granted : {V E : Type 0} (r : Result V E) (end n len was before after : ℕ) → n ≡ div_ceil end b → n ≤ max_bits / b → len ≡ (if is_ok r then n else was) → OnErr r (before < n) → before ≤ after
      → OnOk r (b * len ≤ max_bits) × OnOk r (end ≤ b * len) × OnErr r (usable_bits b before < end) × (usable_bits b before ≤ usable_bits b after)
  granted (Ok v) end n len was before after is few count full more = (rw count (few-fit n few), touched-inside end len (count ∙ is), tt, usable-more before after more)
  granted (Err e) end n len was before after is few count full more = (tt, tt, past-fit end (min before (max_bits / b)) (omega (arith, is, full)), usable-more before after more)
