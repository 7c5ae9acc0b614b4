-- How a list is cut into segments: its first one, and those of the rest.
use Rattle.std.specs.Prelude.{◌≡◌, ℕ, ◌+◌, ◌-◌, ◌*◌, ◌/◌, ◌%◌, ◌<◌, ◌≤◌, min, ◌==◌, if◌then◌else◌, Bool, true, false, List, [], ◌∷◌, length, take, drop, refl, suc}
use Rattle.std.proofs.Common.{arith, sym, ◌∙◌, ap, ⊎_elim}
use Rattle.std.proofs.lemmas.Bool.{cases_Bool, cases_lt, cond-true, cond-false, eq-eqb, ne_eqb}
use Rattle.std.proofs.lemmas.Nat.{div-add-mod', mod_below, mod-mul-add}
use Rattle.std.proofs.Math.Nat.{mod-add-mod}
use Rattle.bitvec_segments.specs.Segments.{in_first, segments}

-- How many of the first `n` bits from the place `s` on stand in the element in which they begin.
abbrev pub first_len : ℕ → ℕ → ℕ → ℕ
first_len b s n = min n (b - s % b)

-- A list that isn't empty has at least one bit in its first element.
pub first-some : (b s n : ℕ) → 0 < b → 0 < n → 0 < first_len b s n
first-some b s n some more = let below = mod_below s b some in omega arith

-- the next place stands in the same element, or at the start of the next one
next_inside : (b s : ℕ) → s % b + 1 < b → (s + 1) % b ≡ s % b + 1
next_inside b s inside =
    let place = div-add-mod' s b in
    ap (λ (n : ℕ). n % b) (let e : s + 1 ≡ s / b * b + (s % b + 1) = omega arith in e) ∙ mod-mul-add (s / b) b (s % b + 1) inside

next_edge : (b s : ℕ) → 0 < b → s % b + 1 ≡ b → (s + 1) % b ≡ 0
next_edge b s some edge =
    let place = div-add-mod' s b in
    ap (λ (n : ℕ). n % b) (let e : s + 1 ≡ (s / b + 1) * b + 0 = omega arith in e) ∙ mod-mul-add (s / b + 1) b 0 some

-- one bit alone
segments-one : (b s : ℕ) (bit : Bool) → segments b s (bit ∷ []) ≡ (bit ∷ []) ∷ []
unfolding segments
segments-one b s bit =
    ⊎_elim
    (λ (t : (s + 1) % b == 0 ≡ true). cond-true _ _ _ t)
    (λ (f : (s + 1) % b == 0 ≡ false). cond-false _ _ _ f)
    (cases_Bool ((s + 1) % b == 0))

segments-edge : (b s : ℕ) (bit : Bool) (list : List Bool) → (s + 1) % b ≡ 0 → segments b s (bit ∷ list) ≡ (bit ∷ []) ∷ segments b (s + 1) list
unfolding segments
segments-edge b s bit list edge = cond-true _ _ _ (eq-eqb ((s + 1) % b) 0 edge)

segments-inside : (b s r : ℕ) (bit : Bool) (list : List Bool) → (s + 1) % b ≡ r + 1 → segments b s (bit ∷ list) ≡ in_first bit (segments b (s + 1) list)
unfolding segments
segments-inside b s r bit list inside = cond-false _ _ _ (ne_eqb ((s + 1) % b) 0 (λ e. let no : r + 1 ≡ 0 = sym inside ∙ e in omega arith))

-- The segments of a list are its bits in the first element and the segments of the rest.
pub segments-first : (b s : ℕ) (list : List Bool) (k : ℕ) → 0 < b → 0 < length list → k ≡ first_len b s (length list) → segments b s list ≡ take k list ∷ segments b (s + k) (drop k list)
unfolding segments
segments-first b s [] k some more is = absurd (omega arith)
segments-first b s (bit ∷ []) k some more is =
    let below = mod_below s b some in
    let one : k ≡ 1 = omega arith in
    rw one (segments-one b s bit)
segments-first b s (bit ∷ (second ∷ list)) k some more is =
    let below = mod_below s b some in
    ⊎_elim
    (λ (inside : s % b + 1 < b).
    let next = next_inside b s inside in
    let j : ℕ = first_len b (s + 1) (length (second ∷ list)) in
    let longer : k ≡ suc j = omega arith in
    let place : s + 1 + j ≡ s + suc j = omega arith in
    rw longer
    (segments-inside b s (s % b) bit (second ∷ list) next
    ∙ ap (in_first bit) (segments-first b (s + 1) (second ∷ list) j some (omega arith) refl)
    ∙ ap (λ (e : ℕ). (bit ∷ take j (second ∷ list)) ∷ segments b e (drop j (second ∷ list))) place))
    (λ (over : b ≤ s % b + 1).
    let one : k ≡ 1 = omega arith in
    rw one (segments-edge b s bit (second ∷ list) (next_edge b s some (omega arith))))
    (cases_lt (s % b + 1) b)

-- ---- where a list begins in its first element is all that its cuts depend on

next-phase : (b s t : ℕ) → s % b ≡ t % b → (s + 1) % b ≡ (t + 1) % b
next-phase b s t same = sym (mod-add-mod s b 1) ∙ ap (λ (n : ℕ). (n + 1) % b) same ∙ mod-add-mod t b 1

-- A list's segments depend on its place only by the index of its first bit in an element.
pub segments-phase : (b s t : ℕ) (list : List Bool) → s % b ≡ t % b → segments b s list ≡ segments b t list
unfolding segments
segments-phase b s t [] same = refl
segments-phase b s t (bit ∷ list) same =
    let next = next-phase b s t same in
    ap (λ (n : ℕ). if n == 0 then (bit ∷ []) ∷ segments b (s + 1) list else in_first bit (segments b (s + 1) list)) next
    ∙ ap (λ (l : List (List Bool)). if (t + 1) % b == 0 then (bit ∷ []) ∷ l else in_first bit l) (segments-phase b (s + 1) (t + 1) list next)
