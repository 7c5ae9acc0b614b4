-- What a caller knows of a piece where its predicate is a function.
use Rattle.std.specs.Prelude.{◌≡◌, ℕ, ◌+◌, Bool, false, Option, Some, None, MatchOption, find, slice_index_or, unwrap_or}
use Rattle.std.specs.Borrow.{Bor}
use Rattle.std.specs.Fn.{Mut}
use Rattle.std.proofs.Common.{arith, ◌∙◌, ap, subst}
use Rattle.bitvec_slice.specs.Seen.{Seen}
use Rattle.bitvec_domain.specs.Predicates.{Asks, upward}
use Rattle.bitvec_domain.specs.PredicatesLaws.{asked_first}
use Rattle.bitvec_split.specs.Splits.{GivesAll, GivesRange, Left, SplitNext}

module _ {T P : Type 0} (b : ℕ) (s t : Left T P) (piece : Seen T) where
  ends_at : (found : Option ℕ) → MatchOption found (GivesAll s piece t) (λ j. GivesRange b false (0, j) (j + 1, s.rest.window.len) s piece t)
      → piece.window.len ≡ unwrap_or found s.rest.window.len
  ends_at None all = ap (λ (v : Seen T). v.window.len) all.gives
  ends_at (Some j) range = range.gives.len ∙ omega arith

  -- The first piece has as many bits as stand before the first match, and all bits where there is no match.
  pub first-piece : (g : Mut P (ℕ × (Bor Bool × Unit {0})) Bool) (test : ℕ → Bool → Bool)
      → ((index : ℕ) (bit answer : Bool) (next : P) → Asks g s.pred index bit answer next → (next ≡ s.pred) × (answer ≡ test index bit))
      → SplitNext b g false false s (Some piece) t
      → piece.window.len ≡ unwrap_or (find (λ i. test i (slice_index_or s.rest.bits i false)) (upward s.rest.window.len)) s.rest.window.len
  first-piece g test acts gave =
      subst (λ (o : Option ℕ). piece.window.len ≡ unwrap_or o s.rest.window.len) (asked_first s.rest.bits test s.pred acts _ gave.1.0 t.pred gave.1.1) (ends_at gave.1.0 gave.1.2)
