-- Where the bits of a view stand among the pieces that a split of it gave.
use Rattle.std.specs.Prelude.{◌≡◌, ℕ, ◌+◌, ◌-◌, ◌<◌, ◌≤◌, ◌⊎◌, Bool, true, false, List, [], ◌∷◌, MatchOption, Option, Some, None, slice_index_or, slice_range, unwrap_or, refl}
use Rattle.std.specs.Bool.{MatchBool}
use Rattle.std.specs.Borrow.{Bor}
use Rattle.std.specs.Fn.{Mut}
use Rattle.std.specs.List.{FoldsTo}
use Rattle.std.specs.declared.ops.Range.{Range}
use Rattle.std.proofs.Common.{arith, inl, inr, sym, subst, ◌∙◌, ap, ⊎_elim}
use Rattle.std.proofs.lemmas.Bool.{cases_lt}
use Rattle.bitvec_base.specs.WriteLaws.{get-slice_range}
use Rattle.bitvec_slice.specs.Seen.{Seen}
use Rattle.bitvec_domain.specs.Predicates.{Asked, Asks, upward}
use Rattle.bitvec_lent_split.specs.Lent.{GivesAllIn, GivesRangeIn, LeftIn, SplitNextIn, unsplit_in}
use Rattle.bitvec_closures.specs.SplitEdits.{GivesInTurn}

-- the index is in one of the ranges
abbrev pub IsInOne : ℕ → List (Range ℕ) → Type 0
IsInOne i [] = true ≡ false
IsInOne i (range ∷ more) = ((range.start ≤ i) × (i < range.end)) ⊎ IsInOne i more

yes-by : (A B R : Type 0) (answer : Bool) (i j : ℕ) → MatchBool answer ((Some j ≡ Some i) × A) B → ((i ≡ j) → (answer ≡ true) → R) → (B → R) → R
yes-by A B R true i j met now later = now (sym (ap (λ (o : Option ℕ). unwrap_or o j) met.0)) refl
yes-by A B R false i j met now later = later met

module _ {P : Type 0} (g : Mut P (ℕ × (Bor Bool × Unit {0})) Bool) where
  -- the predicate, in one of its states, said yes to the bit
  abbrev pub SaysYes : Bool → Type 0
  SaysYes bit = (pred : P) × (next : P) × (index : ℕ) × Asks g pred index bit true next

  yes-at : (bits : List Bool) (pred : P) (indices : List ℕ) (j : ℕ) (last : P) → Asked g bits pred indices (Some j) last → SaysYes (slice_index_or bits j false)
  yes-at bits pred [] j last asked = let none = asked.0 in absurd cc
  yes-at bits pred (i ∷ more) j last (answer, next, asks, rest) =
      yes-by (last ≡ next) (Asked g bits next more (Some j) last) (SaysYes (slice_index_or bits j false)) answer i j rest
      (λ same said. (pred, next, i, subst (λ (k : ℕ). Asks g pred i (slice_index_or bits k false) true next) same (subst (λ (b : Bool). Asks g pred i (slice_index_or bits i false) b next) said asks)))
      (λ rest. yes-at bits next more j last rest)

module _ {T P : Type 0} (g : Mut P (ℕ × (Bor Bool × Unit {0})) Bool) (i : ℕ) where
  covers-found : (s t : LeftIn T P) (piece : Range ℕ) (R : Type 0) (found : Option ℕ)
      → Asked g (slice_range s.view.bits s.from s.to) s.pred (upward (s.to - s.from)) found t.pred
      → MatchOption found (GivesAllIn s piece t) (λ j. GivesRangeIn false (0, j) (j + 1, s.to - s.from) s piece t)
      → s.from ≤ i → i < s.to
      → (t.finished ≡ false → t.from ≤ i → i < t.to → t.view ≡ s.view → R) → ((piece.start ≤ i) × (i < piece.end) → R) → (SaysYes g (slice_index_or s.view.bits i false) → R) → R
  covers-found s t piece R None asked all low high later here said = here (rw (all.start, all.end) (low, high))
  covers-found s t piece R (Some j) asked gives low high later here said =
      let start = gives.start in
      let end = gives.end in
      let from = gives.from in
      let to = gives.to in
      ⊎_elim (λ (before : i < s.from + j). here (omega (arith, start, low), omega (arith, end, before)))
      (λ (behind : s.from + j ≤ i). ⊎_elim
      (λ (match : i < s.from + j + 1).
      let same : s.from + j ≡ i = omega arith in
      let bit : slice_index_or (slice_range s.view.bits s.from s.to) j false ≡ slice_index_or s.view.bits i false =
      get-slice_range s.view.bits s.from s.to j false (omega arith) ∙ ap (λ (k : ℕ). slice_index_or s.view.bits k false) same in
      said (subst (SaysYes g) bit (yes-at g (slice_range s.view.bits s.from s.to) s.pred (upward (s.to - s.from)) j t.pred asked)))
      (λ (after : s.from + j + 1 ≤ i). later gives.finished (omega (arith, from, after)) (omega (arith, to, low, high)) gives.view) (cases_lt i (s.from + j + 1))) (cases_lt i (s.from + j))

  -- each bit that was left is in a piece, or the predicate said yes to it
  covers : (s : LeftIn T P) (pieces : List (Range ℕ)) (last : LeftIn T P) → s.finished ≡ false → s.from ≤ i → i < s.to
      → FoldsTo (λ p piece q. SplitNextIn g false false p (Some piece) q) s pieces last → SplitNextIn g false false last None last
      → IsInOne i pieces ⊎ SaysYes g (slice_index_or s.view.bits i false)
  covers s [] last unfinished low high gives ends =
      let same = ap (λ (p : LeftIn T P). p.finished) gives in
      let no : false ≡ true = sym unfinished ∙ same ∙ ends.0 in absurd cc
  covers s (piece ∷ more) last unfinished low high (t, (_, (found, asked, gave)), gives) ends =
      covers-found s t piece (IsInOne i (piece ∷ more) ⊎ SaysYes g (slice_index_or s.view.bits i false)) found asked gave low high
      (λ unfinished2 low2 high2 same. ⊎_elim (λ there. inl (inr there)) (λ said. inr (subst (λ v. SaysYes g (slice_index_or v.bits i false)) same said)) (covers t more last unfinished2 low2 high2 gives ends))
      (λ here. inl (inl here)) (λ said. inr said)

  -- Each bit of a view that was split is in a piece, or is one to which the predicate said yes.
  pub split-covers : (view : Seen T) (pred : P) (pieces : List (Range ℕ)) → GivesInTurn (SplitNextIn g false false) (unsplit_in false view pred) pieces → i < view.window.len
      → IsInOne i pieces ⊎ SaysYes g (slice_index_or view.bits i false)
  split-covers view pred pieces in_turn below = covers (unsplit_in false view pred) pieces in_turn.last refl (omega arith) below in_turn.gives in_turn.ends
