-- The numbers of a list, a segment at a time.
use Rattle.std.specs.Prelude.{◌≡◌, ℕ, ◌+◌, ◌-◌, ◌*◌, ◌%◌, ◌^◌, ◌<◌, ◌≤◌, ◌==◌, if◌then◌else◌, Bool, true, false, List, [], ◌∷◌, length, take, drop, refl, suc}
use Rattle.std.specs.List.{sum_by}
use Rattle.std.proofs.Common.{arith, sym, ◌∙◌, ap, ⊎_elim, length-drop}
use Rattle.std.proofs.lemmas.Bool.{cases_Bool, cond-true, cond-false}
use Rattle.std.proofs.lemmas.List.{drop_all, length-take, take_all}
use Rattle.std.proofs.lemmas.List.Sums.{sum_by-cons}
use Rattle.std.proofs.Math.Nat.{mul-le-mul_left}
use Rattle.std.proofs.lemmas.Nat.{pow-add}
use Rattle.bitvec_segments.specs.NumberLaws.{segment_number-below}
use Rattle.bitvec_segments.specs.Segments.{end_number, in_first, loaded, loaded_be, loaded_le, segment_number, segments}
use Rattle.bitvec_segments.specs.SegmentsLaws.{first_len, segments-first, segments-phase}

-- ---- all bits are in segments

in_first-total : (bit : Bool) (list : List (List Bool)) → sum_by length (in_first bit list) ≡ suc (sum_by length list)
in_first-total bit [] = refl
in_first-total bit (segment ∷ rest) =
    let longer = sum_by-cons length (bit ∷ segment) rest in
    let before = sum_by-cons length segment rest in
    omega arith

-- The segments of a list have as many bits together as the list.
pub segments-total : (b s : ℕ) (list : List Bool) → sum_by length (segments b s list) ≡ length list
unfolding segments
segments-total b s [] = refl
segments-total b s (bit ∷ list) =
    let rest = segments-total b (s + 1) list in
    ⊎_elim
    (λ (edge : (s + 1) % b == 0 ≡ true). ap (λ (l : List (List Bool)). sum_by length l) (cond-true _ _ _ edge) ∙ sum_by-cons length (bit ∷ []) (segments b (s + 1) list) ∙ omega arith)
    (λ (inside : (s + 1) % b == 0 ≡ false). ap (λ (l : List (List Bool)). sum_by length l) (cond-false _ _ _ inside) ∙ in_first-total bit (segments b (s + 1) list) ∙ omega arith)
    (cases_Bool ((s + 1) % b == 0))

-- ---- a number has as many bits as its list

-- A number below `2^j` above `k` lower bits of another number makes a number below `2^(k + j)`.
pub joined_below : (v w j k : ℕ) → v < 2 ^ j → w < 2 ^ k → v * 2 ^ k + w < 2 ^ (k + j)
joined_below v w j k high low =
    let order = mul-le-mul_left (2 ^ k) high in
    let power = pow-add 2 k j in
    omega arith

end_number-below : (big high : Bool) (list : List (List Bool)) → end_number big high list < 2 ^ sum_by length list
unfolding end_number
end_number-below big high [] = omega arith
end_number-below false high (segment ∷ rest) =
    let total = sum_by-cons length segment rest in
    rw total (joined_below _ _ (sum_by length rest) (length segment) (end_number-below false high rest) (segment_number-below high segment))
end_number-below true high (segment ∷ rest) =
    let total : sum_by length (segment ∷ rest) ≡ sum_by length rest + length segment = sum_by-cons length segment rest ∙ omega arith in
    rw total (joined_below _ _ (length segment) (sum_by length rest) (segment_number-below high segment) (end_number-below true high rest))

-- The number loaded from a list of `n` bits is below `2^n`.
pub loaded-below : (big high : Bool) (b s : ℕ) (list : List Bool) → loaded big high b s list < 2 ^ length list
unfolding loaded
loaded-below big high b s list = let total = segments-total b s list in rw (← total) (end_number-below big high (segments b s list))

-- ---- the first segment and the rest

-- The number loaded from no bits is 0.
pub loaded-none : (big high : Bool) (b s : ℕ) → loaded big high b s [] ≡ 0
unfolding loaded end_number segments
loaded-none big high b s = refl

-- How many bits of a number are lower than those of a part: those behind the part where `big` holds, else those before it.
abbrev pub lower_bits : Bool → ℕ → ℕ → ℕ
lower_bits big before behind = if big then behind else before

-- The number of a list of segments is its first segment's number and the rest's, each shifted by the bits lower than it.
pub end_number-first : (big high : Bool) (segment : List Bool) (rest : List (List Bool))
    → end_number big high (segment ∷ rest) ≡ segment_number high segment * 2 ^ lower_bits big 0 (sum_by length rest) + end_number big high rest * 2 ^ lower_bits big (length segment) 0
unfolding end_number
end_number-first true high segment rest = omega arith
end_number-first false high segment rest = omega arith

-- A loaded number is made of the number of the `k` bits in the first element and that of the bits behind them.
pub loaded-first : (big high : Bool) (b s : ℕ) (list : List Bool) (k : ℕ) → 0 < b → 0 < length list → k ≡ first_len b s (length list)
    → loaded big high b s list ≡ segment_number high (take k list) * 2 ^ lower_bits big 0 (length list - k) + loaded big high b (s + k) (drop k list) * 2 ^ lower_bits big k 0
unfolding loaded
loaded-first big high b s list k some more is =
    let first : ℕ = segment_number high (take k list) in
    let rest : List (List Bool) = segments b (s + k) (drop k list) in
    let long : length (take k list) ≡ k = length-take k list ∙ omega arith in
    let left : sum_by length rest ≡ length list - k = segments-total b (s + k) (drop k list) ∙ length-drop k list in
    ap (end_number big high) (segments-first b s list k some more is)
    ∙ end_number-first big high (take k list) rest
    ∙ ap (λ (n : ℕ). first * 2 ^ lower_bits big 0 n + end_number big high rest * 2 ^ lower_bits big (length (take k list)) 0) left
    ∙ ap (λ (n : ℕ). first * 2 ^ lower_bits big 0 (length list - k) + end_number big high rest * 2 ^ lower_bits big n 0) long

-- ---- a list in one element

one_len : (b s n : ℕ) → s % b + n ≤ b → n ≡ first_len b s n
one_len b s n inside = omega arith

-- nothing is lower than what is alone
alone : (big : Bool) (v n : ℕ) → v * 2 ^ lower_bits big 0 0 + 0 * 2 ^ lower_bits big n 0 ≡ v
alone true v n = omega arith
alone false v n = omega arith

loaded-some : (big high : Bool) (b s : ℕ) (list : List Bool) → 0 < b → 0 < length list → s % b + length list ≤ b → loaded big high b s list ≡ segment_number high list
loaded-some big high b s list some more inside =
    let n : ℕ = length list in
    let all = take_all n list (omega arith) in
    let none = drop_all n list (omega arith) in
    let zero_left = loaded-none big high b (s + n) in
    let left : n - n ≡ 0 = omega arith in
    loaded-first big high b s list n some more (one_len b s n inside)
    ∙ rw (all, none, zero_left, left) (alone big (segment_number high list) n)

-- The number loaded from bits that lie in one element is their segment's number.
pub loaded-segment : (big high : Bool) (b s : ℕ) (list : List Bool) → 0 < b → s % b + length list ≤ b → loaded big high b s list ≡ segment_number high list
unfolding segment_number
loaded-segment big high b s [] some inside = loaded-none big high b s
loaded-segment big high b s (bit ∷ list) some inside = loaded-some big high b s (bit ∷ list) some (omega arith) inside

-- For bits that lie in one element the little-endian and the big-endian load give the same number.
pub loaded-one : (high : Bool) (b s : ℕ) (list : List Bool) → 0 < b → s % b + length list ≤ b → loaded_le high b s list ≡ loaded_be high b s list
loaded-one high b s list some inside = loaded-segment false high b s list some inside ∙ sym (loaded-segment true high b s list some inside)

-- A loaded number depends on the list's place only by the index of its first bit in an element.
pub loaded-phase : (big high : Bool) (b s t : ℕ) (list : List Bool) → s % b ≡ t % b → loaded big high b s list ≡ loaded big high b t list
unfolding loaded
loaded-phase big high b s t list same = ap (end_number big high) (segments-phase b s t list same)

-- ---- from either end

-- The number that a little-endian load of `n` bits gives is below `2^n`.
pub loaded_le-below : (high : Bool) (b s : ℕ) (list : List Bool) → loaded_le high b s list < 2 ^ length list
loaded_le-below = loaded-below false

-- The number that a big-endian load of `n` bits gives is below `2^n`.
pub loaded_be-below : (high : Bool) (b s : ℕ) (list : List Bool) → loaded_be high b s list < 2 ^ length list
loaded_be-below = loaded-below true

-- A little-endian load depends on the list's place only by the index of its first bit in an element.
pub loaded_le-phase : (high : Bool) (b s t : ℕ) (list : List Bool) → s % b ≡ t % b → loaded_le high b s list ≡ loaded_le high b t list
loaded_le-phase = loaded-phase false

-- A big-endian load depends on the list's place only by the index of its first bit in an element.
pub loaded_be-phase : (high : Bool) (b s t : ℕ) (list : List Bool) → s % b ≡ t % b → loaded_be high b s list ≡ loaded_be high b t list
loaded_be-phase = loaded-phase true
