-- Calls of an edit on numbered pieces, one after the other.
use Rattle.std.specs.Prelude.{◌≡◌, ℕ, ◌+◌, ◌<◌, ◌≤◌, zero, suc, Bool, List, refl, ⊤}
use Rattle.std.specs.Borrow.{MutBor}
use Rattle.std.proofs.Common.{arith, subst, sym, ◌∙◌, ap}
use borrow.Author.Count.{below_more}
use native.Mathlib.Numerals.{add-one}
use Rattle.bitvec_slice.specs.Seen.{Seen}
use Rattle.bitvec_closures.specs.Pieces.{CallsInTurn, EditsNumbered, WayToCut}

-- `states`, but for the one behind `n`, which is `next`
with_next : {F : Type 0} → (ℕ → F) → ℕ → F → ℕ → F
with_next states n next zero = states zero
with_next states zero next (suc k) = next
with_next states (suc n) next (suc k) = with_next (λ i. states (suc i)) n next k

with_next-kept : {F : Type 0} (states : ℕ → F) (n : ℕ) (next : F) (k : ℕ) → k ≤ n → with_next states n next k ≡ states k
unfolding with_next
with_next-kept states n next zero order = refl
with_next-kept states zero next (suc k) order = absurd (omega (arith, order))
with_next-kept states (suc n) next (suc k) order = with_next-kept (λ i. states (suc i)) n next k (omega (arith, order))

with_next-suc : {F : Type 0} (states : ℕ → F) (n : ℕ) (next : F) → with_next states n next (suc n) ≡ next
unfolding with_next
with_next-suc states zero next = refl
with_next-suc states (suc n) next = with_next-suc (λ i. states (suc i)) n next

with_next-behind : {F : Type 0} (states : ℕ → F) (n : ℕ) (next : F) → with_next states n next (n + 1) ≡ next
with_next-behind states n next = ap (with_next states n next) (add-one n) ∙ with_next-suc states n next

module _ {V T F : Type 0} {shows : V → Seen T} {step : F → ℕ → MutBor V → ⊤ → MutBor V → F → Type 0} {edit : F} {view : Seen T} {way : WayToCut} where
  -- Before any call the edit was called on no piece, and is as it was given.
  pub in_turn-first : {lists : ℕ → List Bool} → CallsInTurn shows step edit view way 0 lists edit
  in_turn-first = record { states = λ _. edit; first = refl; last_is = refl; calls = λ k below. absurd (omega (arith, below)) }

  -- One call more, on the next piece, extends the calls in turn, where the lists of the pieces before it stay.
  pub in_turn-more : {count : ℕ} {lists now : ℕ → List Bool} {f g : F} → CallsInTurn shows step edit view way count lists f → ((k : ℕ) → k < count → now k ≡ lists k)
      → EditsNumbered shows step view way count f (now count) g → CallsInTurn shows step edit view way (count + 1) now g
  in_turn-more {count} {lists} {now} {f} {g} in_turn same more =
      let states = with_next in_turn.states count g in
      record {
        states = states;
        first = with_next-kept in_turn.states count g 0 (omega arith) ∙ in_turn.first;
        last_is = with_next-behind in_turn.states count g;
        calls = below_more (λ k. EditsNumbered shows step view way k (states k) (now k) (states (k + 1))) count
            (λ k earlier. rw (with_next-kept in_turn.states count g k (omega (arith, earlier)), with_next-kept in_turn.states count g (k + 1) (omega (arith, earlier)), same k earlier) (in_turn.calls k earlier))
            (rw (with_next-kept in_turn.states count g count (omega arith), in_turn.last_is, with_next-behind in_turn.states count g) more);
      }

  -- What holds of the edit at first, and after each call before which it held, holds before each call.
  pub in_turn-keep : (Holds : ℕ → F → Type 0) {count : ℕ} {lists : ℕ → List Bool} {last : F} (in_turn : CallsInTurn shows step edit view way count lists last) → Holds 0 edit
      → ((k : ℕ) (f g : F) (list : List Bool) → Holds k f → EditsNumbered shows step view way k f list g → Holds (k + 1) g)
      → (k : ℕ) → k ≤ count → Holds k (in_turn.states k)
  in_turn-keep Holds in_turn first keeps zero order = subst (Holds 0) (sym in_turn.first) first
  in_turn-keep Holds in_turn first keeps (suc k) order =
      subst (λ (n : ℕ). Holds n (in_turn.states n)) (add-one k) (keeps k _ _ _ (in_turn-keep Holds in_turn first keeps k (omega (arith, order))) (in_turn.calls k (omega (arith, order))))
