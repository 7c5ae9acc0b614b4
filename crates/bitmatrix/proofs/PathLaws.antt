-- Warshall's algorithm.
use Rattle.std.specs.Prelude.{◌≡◌, ℕ, ◌+◌, ◌<◌, ◌≤◌, ◌⊎◌, ◌||◌, ◌&&◌, Bool, true, false, List, refl}
use Rattle.std.proofs.Common.{arith, sym, ◌∙◌, inl, inr}
use Rattle.std.proofs.lemmas.Bool.{cases_lt}
use Rattle.bitmatrix.specs.Matrix.{Closes, JoinsRow, Passes, Path, edge, entry, join}

-- ---- truth values

absorbed : (a b : Bool) → (a || (b && a)) ≡ a
absorbed true b = refl
absorbed false true = refl
absorbed false false = refl

or-false : (a : Bool) → (a || false) ≡ a
or-false true = refl
or-false false = refl

or-up : (a b : Bool) → a ≡ true → (a || b) ≡ true
or-up a b h = rw h refl

or-join : (a b c : Bool) → b ≡ true → c ≡ true → (a || (b && c)) ≡ true
or-join true b c hb hc = refl
or-join false b c hb hc = rw (hb, hc) refl

or-down : (a b c : Bool) → (a || (b && c)) ≡ true → (a ≡ true) ⊎ ((b ≡ true) × (c ≡ true))
or-down true b c h = inl refl
or-down false true c h = inr (refl, h)
or-down false false c h = grind arith

-- ---- one pass

-- rows before i were passed, those from i on are as before
pub record PassesBelow (n k i : ℕ) (old now : List Bool) : Type 0 where
  pub done : (r j : ℕ) → r < i → j < n → entry n now r j ≡ (entry n old r j || (entry n old r k && entry n old k j))
  pub rest : (r j : ℕ) → i ≤ r → r < n → j < n → entry n now r j ≡ entry n old r j

pub passes-start : (n k : ℕ) (bits : List Bool) → PassesBelow n k 0 bits bits
passes-start n k bits = record { done = λ r j h hj. absurd (omega arith); rest = λ r j le h hj. refl }

-- row k stays as it is
kth-row : (n k i j : ℕ) (old now : List Bool) → k < n → j < n → PassesBelow n k i old now → entry n now k j ≡ entry n old k j
kth-row n k i j old now hk hj known = elim (cases_lt k i) [
  | inl lt ↦ known.done k j lt hj ∙ absorbed (entry n old k j) (entry n old k k)
  | inr le ↦ known.rest k j le hk hj
]

pub passes-joined : (n k i : ℕ) (old now new : List Bool) → k < n → i < n → PassesBelow n k i old now → entry n now i k ≡ true → JoinsRow n i k now new → PassesBelow n k (i + 1) old new
passes-joined n k i old now new hk hi known one joined = record {
  done = λ r j h hj. elim (cases_lt r i) [
    | inl lt ↦ joined.others r j (omega arith) hj (omega arith) ∙ known.done r j lt hj
    | inr le ↦
        let here : r ≡ i = omega arith in
        let set : entry n old i k ≡ true = sym (known.rest i k (omega arith) hi hk) ∙ one in
        rw (here, set) (joined.row j hj ∙ rw (known.rest i j (omega arith) hi hj, kth-row n k i j old now hk hj known) refl)
  ];
  rest = λ r j le h hj. joined.others r j h hj (omega arith) ∙ known.rest r j (omega arith) h hj;
}

pub passes-kept : (n k i : ℕ) (old now : List Bool) → k < n → i < n → PassesBelow n k i old now → entry n now i k ≡ false → PassesBelow n k (i + 1) old now
passes-kept n k i old now hk hi known none = record {
  done = λ r j h hj. elim (cases_lt r i) [
    | inl lt ↦ known.done r j lt hj
    | inr le ↦
        let here : r ≡ i = omega arith in
        let clear : entry n old i k ≡ false = sym (known.rest i k (omega arith) hi hk) ∙ none in
        rw (here, clear) (known.rest i j (omega arith) hi hj ∙ sym (or-false (entry n old i j)))
  ];
  rest = λ r j le h hj. known.rest r j (omega arith) h hj;
}

pub passes-end : (n k : ℕ) (old now : List Bool) → PassesBelow n k n old now → Passes n k old now
unfolding Passes
passes-end n k old now known = λ i j hi hj. known.done i j hi hj

-- ---- all passes

-- after the passes of all places below k
pub record ClosesBelow (n k : ℕ) (old now : List Bool) : Type 0 where
  pub grown : (i j : ℕ) → i < n → j < n → entry n old i j ≡ true → entry n now i j ≡ true
  pub sound : (i j : ℕ) → i < n → j < n → entry n now i j ≡ true → Path n old i j
  pub closed : (i m j : ℕ) → i < n → m < k → m < n → j < n → entry n now i m ≡ true → entry n now m j ≡ true → entry n now i j ≡ true

pub closes-start : (n : ℕ) (bits : List Bool) → ClosesBelow n 0 bits bits
closes-start n bits = record {
  grown = λ i j hi hj one. one;
  sound = λ i j hi hj one. edge i j hi hj one;
  closed = λ i m j hi hm hn hj a b. absurd (omega arith);
}

module _ (n k : ℕ) (old now : List Bool) (hk : k < n) (pass : Passes n k old now) where
  up : (i j : ℕ) → i < n → j < n → entry n old i j ≡ true → entry n now i j ≡ true
  unfolding Passes
  up i j hi hj one = pass i j hi hj ∙ or-up _ _ one

  along : (i j : ℕ) → i < n → j < n → entry n old i k ≡ true → entry n old k j ≡ true → entry n now i j ≡ true
  unfolding Passes
  along i j hi hj a b = pass i j hi hj ∙ or-join _ _ _ a b

  down : (i j : ℕ) → i < n → j < n → entry n now i j ≡ true → (entry n old i j ≡ true) ⊎ ((entry n old i k ≡ true) × (entry n old k j ≡ true))
  unfolding Passes
  down i j hi hj one = or-down _ _ _ (sym (pass i j hi hj) ∙ one)

  to-k : (i : ℕ) → i < n → entry n now i k ≡ true → entry n old i k ≡ true
  to-k i hi one = elim (down i k hi hk one) [ inl a ↦ a | inr b ↦ b.0 ]

  from-k : (j : ℕ) → j < n → entry n now k j ≡ true → entry n old k j ≡ true
  from-k j hj one = elim (down k j hk hj one) [ inl a ↦ a | inr b ↦ b.1 ]

  closed-below : (i m j : ℕ) → i < n → m < n → j < n
      → ((x y : ℕ) → x < n → y < n → entry n old x m ≡ true → entry n old m y ≡ true → entry n old x y ≡ true)
      → entry n now i m ≡ true → entry n now m j ≡ true → entry n now i j ≡ true
  closed-below i m j hi hm hj closed a b = elim (down i m hi hm a) [
    | inl a0 ↦ elim (down m j hm hj b) [
      | inl b0 ↦ up i j hi hj (closed i j hi hj a0 b0)
      | inr b1 ↦ along i j hi hj (closed i k hi hk a0 b1.0) b1.1
    ]
    | inr a1 ↦ elim (down m j hm hj b) [
      | inl b0 ↦ along i j hi hj a1.0 (closed k j hk hj a1.1 b0)
      | inr b1 ↦ along i j hi hj a1.0 b1.1
    ]
  ]

pub closes-next : (n k : ℕ) (old now new : List Bool) → k < n → ClosesBelow n k old now → Passes n k now new → ClosesBelow n (k + 1) old new
closes-next n k old now new hk known pass = record {
  grown = λ i j hi hj one. up n k now new hk pass i j hi hj (known.grown i j hi hj one);
  sound = λ i j hi hj one. elim (down n k now new hk pass i j hi hj one) [
    | inl a ↦ known.sound i j hi hj a
    | inr b ↦ join i k j (known.sound i k hi hk b.0) (known.sound k j hk hj b.1)
  ];
  closed = λ i m j hi hm hn hj a b. elim (cases_lt m k) [
    | inl lt ↦ closed-below n k now new hk pass i m j hi hn hj (λ x y hx hy c d. known.closed x m y hx lt hn hy c d) a b
    | inr le ↦
        let here : m ≡ k = omega arith in
        along n k now new hk pass i j hi hj
        (to-k n k now new hk pass i hi (rw here at a))
        (from-k n k now new hk pass j hj (rw here at b))
  ];
}

starts : (n : ℕ) (bits : List Bool) (i j : ℕ) → Path n bits i j → i < n
starts n bits i j (edge _ _ hi hj one) = hi
starts n bits i j (join _ m _ p q) = starts n bits i m p

ends : (n : ℕ) (bits : List Bool) (i j : ℕ) → Path n bits i j → j < n
ends n bits i j (edge _ _ hi hj one) = hj
ends n bits i j (join _ m _ p q) = ends n bits m j q

complete : (n : ℕ) (old now : List Bool) → ClosesBelow n n old now → (i j : ℕ) → Path n old i j → entry n now i j ≡ true
complete n old now known i j (edge _ _ hi hj one) = known.grown i j hi hj one
complete n old now known i j (join _ m _ p q) =
    let hm = ends n old i m p in
    known.closed i m j (starts n old i m p) hm hm (ends n old m j q) (complete n old now known i m p) (complete n old now known m j q)

pub closes-end : (n : ℕ) (old now : List Bool) → ClosesBelow n n old now → Closes n old now
unfolding Closes
closes-end n old now known = λ i j hi hj. (known.sound i j hi hj, complete n old now known i j)

-- for `using`
pub ruleset passing = (passes-start, passes-joined, passes-kept, passes-end)

pub ruleset closing = (closes-start, closes-next, closes-end)
