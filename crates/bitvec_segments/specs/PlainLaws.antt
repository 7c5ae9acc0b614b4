-- Numbers whose segments join without a seam: where the first bit counts as the first segment does, a list's number is that of one segment.
use Rattle.std.specs.Prelude.{◌≡◌, ℕ, ◌+◌, ◌*◌, ◌%◌, ◌^◌, ◌==◌, if◌then◌else◌, Bool, true, false, List, [], ◌∷◌, ◌++◌, length, refl, suc}
use Rattle.std.specs.List.{sum_by}
use Rattle.std.proofs.Common.{arith, sym, ◌∙◌, ap, ⊎_elim, length-append}
use Rattle.std.proofs.lemmas.Bool.{cases_Bool, cond-true, cond-false}
use Rattle.std.proofs.lemmas.List.Sums.{sum_by-cons}
use Rattle.std.proofs.lemmas.Nat.{pow-add}
use Rattle.bitvec_segments.specs.LoadLaws.{end_number-first, lower_bits, segments-total}
use Rattle.bitvec_segments.specs.Segments.{end_number, in_first, loaded, loaded_be, loaded_le, segment_number, segments}

lower_bit : (x v c p q : ℕ) → q ≡ p * 2 → x * q + (v * 2 + c) ≡ (x * p + v) * 2 + c
lower_bit x v c p q is = rw is (omega arith)

higher_bit : (c v x p q r : ℕ) → r ≡ p * q → (c * p + v) * q + x ≡ c * r + (v * q + x)
higher_bit c v x p q r is = rw is (omega arith)

-- a bit counts in front of the first segment as it does alone
bit_before : (high bit : Bool) (list : List (List Bool)) → end_number high high (in_first bit list) ≡ end_number high high ((bit ∷ []) ∷ list)
unfolding end_number segment_number
bit_before high bit [] = refl
bit_before false bit (segment ∷ rest) =
    let twice = pow-add 2 (length segment) 1 in
    let same = lower_bit (end_number false false rest) (segment_number false segment) (if bit then 1 else 0) (2 ^ length segment) (2 ^ suc (length segment)) (omega arith) in
    omega arith
bit_before true bit (segment ∷ rest) =
    let total = sum_by-cons length segment rest in
    let power = pow-add 2 (length segment) (sum_by length rest) in
    let same = higher_bit (if bit then 1 else 0) (segment_number true segment) (end_number true true rest) (2 ^ length segment) (2 ^ sum_by length rest) (2 ^ sum_by length (segment ∷ rest))
    (ap (λ (n : ℕ). 2 ^ n) total ∙ power) in
    omega arith

bit_alone : (high bit : Bool) (list : List Bool) → segment_number high (bit ∷ []) * 2 ^ lower_bits high 0 (length list) + segment_number high list * 2 ^ lower_bits high 1 0 ≡ segment_number high (bit ∷ list)
unfolding segment_number
bit_alone false bit list = omega arith
bit_alone true bit list = omega arith

joined : (high : Bool) (b s : ℕ) (list : List Bool) → end_number high high (segments b s list) ≡ segment_number high list
unfolding segments end_number segment_number
joined high b s [] = refl
joined high b s (bit ∷ list) =
    let rest : List (List Bool) = segments b (s + 1) list in
    ⊎_elim
    (λ (edge : (s + 1) % b == 0 ≡ true). ap (end_number high high) (cond-true _ _ _ edge))
    (λ (inside : (s + 1) % b == 0 ≡ false). ap (end_number high high) (cond-false _ _ _ inside) ∙ bit_before high bit rest)
    (cases_Bool ((s + 1) % b == 0))
    ∙ end_number-first high high (bit ∷ []) rest
    ∙ ap (λ (n : ℕ). segment_number high (bit ∷ []) * 2 ^ lower_bits high 0 n + end_number high high rest * 2 ^ lower_bits high 1 0) (segments-total b (s + 1) list)
    ∙ ap (λ (n : ℕ). segment_number high (bit ∷ []) * 2 ^ lower_bits high 0 (length list) + n * 2 ^ lower_bits high 1 0) (joined high b (s + 1) list)
    ∙ bit_alone high bit list

-- Where the first segment and a segment's first bit are both highest or both lowest, a load gives the number of one segment.
pub loaded-plain : (big high : Bool) (b s : ℕ) (list : List Bool) → big ≡ high → loaded big high b s list ≡ segment_number high list
unfolding loaded
loaded-plain big high b s list is = rw is (joined high b s list)

-- ---- the number of two lists side by side
-- Where the first bit is the lowest, the second of two joined lists counts `2^(length first)` times its number.
pub append-lowest : (first second : List Bool) → segment_number false (first ++ second) ≡ segment_number false second * 2 ^ length first + segment_number false first
unfolding segment_number
append-lowest [] second = omega arith
append-lowest (bit ∷ first) second =
    let twice = pow-add 2 (length first) 1 in
    ap (λ (n : ℕ). n * 2 + (if bit then 1 else 0)) (append-lowest first second)
    ∙ sym (lower_bit (segment_number false second) (segment_number false first) (if bit then 1 else 0) (2 ^ length first) (2 ^ suc (length first)) (omega arith))

-- Where the first bit is the highest, the first of two joined lists counts `2^(length second)` times its number.
pub append-highest : (first second : List Bool) → segment_number true (first ++ second) ≡ segment_number true first * 2 ^ length second + segment_number true second
unfolding segment_number
append-highest [] second = omega arith
append-highest (bit ∷ first) second =
    let long = length-append first second in
    let power = pow-add 2 (length first) (length second) in
    ap (λ (n : ℕ). (if bit then 1 else 0) * 2 ^ length (first ++ second) + n) (append-highest first second)
    ∙ sym (higher_bit (if bit then 1 else 0) (segment_number true first) (segment_number true second) (2 ^ length first) (2 ^ length second) (2 ^ length (first ++ second))
    (ap (λ (n : ℕ). 2 ^ n) long ∙ power))

-- ---- from either end

-- Under an order whose first bit is the lowest, a little-endian load gives the number of one segment, across elements too.
pub loaded_le-plain : (high : Bool) (b s : ℕ) (list : List Bool) → high ≡ false → loaded_le high b s list ≡ segment_number high list
loaded_le-plain high b s list is = loaded-plain false high b s list (sym is)

-- Under an order whose first bit is the highest, a big-endian load gives the number of one segment, across elements too.
pub loaded_be-plain : (high : Bool) (b s : ℕ) (list : List Bool) → high ≡ true → loaded_be high b s list ≡ segment_number high list
loaded_be-plain high b s list is = loaded-plain true high b s list (sym is)
