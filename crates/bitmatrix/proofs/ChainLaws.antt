-- The chain of places, link by link.
use Rattle.std.specs.Prelude.{◌≡◌, ◌↔◌, ℕ, ◌+◌, ◌-◌, ◌<◌, ◌≤◌, Bool, true, List}
use Rattle.std.proofs.Common.{arith, inl, inr, sym, ◌∙◌}
use Rattle.std.proofs.lemmas.Bool.{cases_lt, false≢true}
use Rattle.bitmatrix.specs.Matrix.{IsChain, IsEmpty, SetsEntry, entry}

-- each place before `end` but the last of these leads to the next one, and to no other; no other leads anywhere
unfoldable pub LinkedBelow : ℕ → ℕ → List Bool → Type 0
LinkedBelow n end bits = (i j : ℕ) → i < n → j < n → (entry n bits i j ≡ true) ↔ ((j ≡ i + 1) × (j < end))

pub linked-none : (n : ℕ) (bits : List Bool) → IsEmpty n bits → LinkedBelow n 1 bits
unfolding LinkedBelow IsEmpty
linked-none n bits none = λ i j hi hj. (λ one. absurd (false≢true (sym (none i j hi hj) ∙ one)), λ next. absurd (omega (arith, next.0, next.1)))

-- one link more
pub linked-next : (n j : ℕ) (old new : List Bool) → LinkedBelow n j old → SetsEntry n (j - 1) j old new → 1 ≤ j → j < n → LinkedBelow n (j + 1) new
unfolding LinkedBelow
linked-next n j old new known set some below = λ r c hr hc.
    let links = known r c hr hc in
    let other : (entry n new r c ≡ entry n old r c) → ((r ≡ j - 1) × (c ≡ j) → ⊥) → (entry n new r c ≡ true) ↔ ((c ≡ r + 1) × (c < j + 1)) =
    λ kept no. (
      λ one. let was = links.0 (sym kept ∙ one) in (was.0, omega (arith, was.1)),
      λ next. kept ∙ links.1 (
        next.0,
        elim (cases_lt c j) [
          | inl less ↦ less
          | inr from ↦ absurd (no (omega (arith, next.0, next.1), omega (arith, next.1)))
        ],
      ),
    ) in
    elim (cases_lt c j) [
      | inl before ↦ other (set.others r c hr hc (inr (omega arith))) (λ both. omega (arith, both.1))
      | inr from ↦ elim (cases_lt j c) [
        | inl behind ↦ other (set.others r c hr hc (inr (omega arith))) (λ both. omega (arith, both.1))
        | inr to ↦
            let column : c ≡ j = omega arith in
            elim (cases_lt r (j - 1)) [
              | inl above ↦ other (set.others r c hr hc (inl (omega arith))) (λ both. omega (arith, both.0))
              | inr down ↦ elim (cases_lt (j - 1) r) [
                | inl under ↦ other (set.others r c hr hc (inl (omega arith))) (λ both. omega (arith, both.0))
                | inr level ↦
                    let row : r ≡ j - 1 = omega arith in
                    (λ one. (omega (arith, row, column), omega (arith, column)), λ next. rw (row, column) set.here)
              ]
            ]
      ]
    ]

pub linked-all : (n end : ℕ) (bits : List Bool) → LinkedBelow n end bits → n ≤ end → IsChain n bits
unfolding LinkedBelow IsChain
linked-all n end bits known all = λ i j hi hj. (λ one. ((known i j hi hj).0 one).0, λ next. (known i j hi hj).1 (next, omega arith))

-- for `using`
pub ruleset linking = (linked-none, linked-next, linked-all)
