-- What a caller knows of the bits that a predicate kept.
use Rattle.std.specs.Prelude.{◌≡◌, ℕ, ◌+◌, Bool, true, false, cond, List, [], ◌∷◌, filter, length, refl}
use Rattle.std.specs.Borrow.{Bor}
use Rattle.std.specs.Fn.{Mut}
use Rattle.std.specs.List.{items_where_true}
use Rattle.std.specs.List.Retain.{ReturnsInTurn}
use Rattle.std.proofs.Common.{◌∙◌, ap, arith, subst}
use Rattle.bitvec_domain.specs.Predicates.{Asks}
use Rattle.bitvec_owned.specs.KeptBy.{kept_by}
use Rattle.bitvec_owned.specs.Retained.{AsksNext, Retains}

-- by whether the first item is kept
picked : (answer : Bool) (answers : List Bool) (bit : Bool) (bits : List Bool) → items_where_true (answer ∷ answers) (bit ∷ bits) ≡ cond answer (bit ∷ items_where_true answers bits) (items_where_true answers bits)
picked true answers bit bits = refl
picked false answers bit bits = refl

-- a test that doesn't look at the index
kept-filter : (test : Bool → Bool) (from : ℕ) (list : List Bool) → kept_by (λ i bit. test bit) from list ≡ filter test list
kept-filter test from [] = refl
kept-filter test from (bit ∷ list) = λ i. cond (test bit) (bit ∷ kept-filter test (from + 1) list i) (kept-filter test (from + 1) list i)

module _ {P : Type 0} (g : Mut P (ℕ × (Bor Bool × Unit {0})) Bool) where
  module _ (test : ℕ → Bool → Bool) (pred : P) (acts : (index : ℕ) (bit answer : Bool) (next : P) → Asks g pred index bit answer next → (next ≡ pred) × (answer ≡ test index bit)) where
    kept : (answers list : List Bool) (before last : ℕ × P) → before.1 ≡ pred → length answers ≡ length list → ReturnsInTurn (AsksNext g) before answers list last
        → items_where_true answers list ≡ kept_by test before.0 list
    kept [] [] before last is long asked = refl
    kept [] (bit ∷ list) before last is long asked = absurd (omega (arith, long))
    kept (answer ∷ answers) [] before last is long asked = absurd asked
    kept (answer ∷ answers) (bit ∷ list) before last is long asked =
        let call = acts before.0 bit answer asked.0.1 (subst (λ (p : P). Asks g p before.0 bit answer asked.0.1) is asked.1.1) in
        let rest : items_where_true answers list ≡ kept_by test (before.0 + 1) list =
        kept answers list asked.0 last call.0 (omega (arith, long)) asked.2 ∙ ap (λ (k : ℕ). kept_by test k list) asked.1.0 in
        picked answer answers bit list ∙ (λ i. cond (call.1 i) (bit ∷ rest i) (rest i))

    -- A predicate that is a function of the index and the bit keeps the bits for which it is true.
    pub retained_by : (old new : List Bool) → Retains g pred old new → new ≡ kept_by test 0 old
    retained_by old new asked = asked.4 ∙ kept asked.0 old (0, pred) asked.1 refl asked.2 asked.3

  -- A predicate that is a function of the bit keeps the bits that `filter` of std keeps.
  pub retained_filter : (test : Bool → Bool) (pred : P) → ((index : ℕ) (bit answer : Bool) (next : P) → Asks g pred index bit answer next → (next ≡ pred) × (answer ≡ test bit))
      → (old new : List Bool) → Retains g pred old new → new ≡ filter test old
  retained_filter test pred acts old new asked = retained_by (λ i bit. test bit) pred acts old new asked ∙ kept-filter test 0 old
