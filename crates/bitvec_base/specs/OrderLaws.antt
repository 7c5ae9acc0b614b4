-- Each bit of an element has an index, and why two of the orders are lawful.
use Rattle.std.specs.Prelude.{◌≡◌, ◌≢◌, ℕ, ◌-◌, ◌<◌, ◌⊎◌, zero, suc, min, max}
use Rattle.std.proofs.Common.{arith, ⊎_elim, inl, inr}
use Rattle.std.proofs.lemmas.Bool.{cases_eq, cases_lt}
use Rattle.bitvec_base.specs.Order.{Permutes}
use Rattle.bitvec_store.specs.Width.{IsWidth}

-- The order `Lsb0`, which gives index `i` the bit number `i`, is lawful at each width.
pub lsb0_permutes : (b : ℕ) → IsWidth b → Permutes b (λ i. i)
lsb0_permutes b w = record { below = λ i h. h; apart = λ i j h k e. e }

-- The order `Msb0`, which gives index `i` the bit number `b - 1 - i`, is lawful at each width.
pub msb0_permutes : (b : ℕ) → IsWidth b → Permutes b (λ i. b - 1 - i)
msb0_permutes b w = record { below = λ i h. omega arith; apart = λ i j h k e. omega arith }

-- ---- each bit has an index

-- the index of a place below b, unless it has none
index_of : (at : ℕ → ℕ) (place b : ℕ) → ((i : ℕ) × (i < b) × (at i ≡ place)) ⊎ ((i : ℕ) → i < b → at i ≢ place)
index_of at place zero = inr (λ i h e. absurd (omega arith))
index_of at place (suc n) =
    ⊎_elim
    (λ found. inl (found.0, omega arith, found.2))
    (λ none. ⊎_elim
    (λ here. inl (n, omega arith, here))
    (λ other. inr (λ i h. ⊎_elim (λ below. none i below) (λ above. let last : i ≡ n = omega arith in rw last other) (cases_lt i n)))
    (cases_eq (at n) place))
    (index_of at place n)

-- x, one less if it stands above a number that is taken out
abbrev without : ℕ → ℕ → ℕ
without taken x = max (min x taken) (x - 1)

-- b numbers below b, no two the same, miss none below b
none_missed : (b : ℕ) (at : ℕ → ℕ) → Permutes b at → (place : ℕ) → place < b → ((i : ℕ) → i < b → at i ≢ place) → ⊥
none_missed zero at p place h missed = absurd (omega arith)
none_missed (suc n) at p place h missed =
    let smaller : (i : ℕ) → i < suc n → without place (at i) < n = λ i k. let low = p.below i k in let other = missed i k in omega arith in
    let same : (i j : ℕ) → i < suc n → j < suc n → without place (at i) ≡ without place (at j) → i ≡ j =
    λ i j hi hj e. let l = missed i hi in let r = missed j hj in p.apart i j hi hj (omega arith) in
    none_missed n (λ i. without place (at i))
    (record { below = λ i k. smaller i (omega arith); apart = λ i j hi hj e. same i j (omega arith) (omega arith) e })
    (without place (at n)) (smaller n (omega arith))
    (λ i k e. let last = same i n (omega arith) (omega arith) e in omega arith)

-- Under a lawful order each bit number below `b` belongs to an index below `b`.
pub Permutes-onto : (b : ℕ) (at : ℕ → ℕ) → Permutes b at → (place : ℕ) → place < b → (i : ℕ) × (i < b) × (at i ≡ place)
Permutes-onto b at p place h = ⊎_elim (λ found. found) (λ missed. absurd (none_missed b at p place h missed)) (index_of at place b)
