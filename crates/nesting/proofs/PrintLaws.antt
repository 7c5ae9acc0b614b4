-- Texts printed in turn.
use Rattle.std.proofs.Common.{◌≡◌, ℕ, ◌+◌, ◌<◌, List, [], ◌∷◌, ◌++◌, append-nil, length, length-append, Option, refl, sym, ap, ◌∙◌, subst, arith, inl, inr}
use Rattle.std.specs.Prelude.{slice_index_or}
use Rattle.std.specs.Io.KnownBytes.{Appends}
use Rattle.std.specs.List.{flat_map}
use Rattle.std.proofs.KnownBytes.{Appends-nil, Appends-trans}
use Rattle.std.proofs.lemmas.Bool.{cases_lt}
use Rattle.std.proofs.lemmas.Grind.{flat_map-append}
use Rattle.std.proofs.Math.ListN.{get_or-append}
use Rattle.std.proofs.Math.Seq.{get_or-append_seam}
use Rattle.nesting.specs.Texts.{Mends, PrintsMended, line_of}

pub prints-none : (texts : List (List ℕ)) (before : Option (List ℕ)) → PrintsMended texts 0 before before
prints-none texts before = record { mended = []; long = refl; each = λ k below. absurd (omega arith); printed = Appends-nil before }

module _ (texts : List (List ℕ)) (i : ℕ) (text : List ℕ) (before middle after : Option (List ℕ)) (prints : PrintsMended texts i before middle) where
  each-more : Mends (slice_index_or texts i []) text → (k : ℕ) → k < i + 1 → Mends (slice_index_or texts k []) (slice_index_or (prints.mended ++ text ∷ []) k [])
  each-more mends k below =
      let long = prints.long in
      elim (cases_lt k i) [
        | inl less ↦ rw (get_or-append prints.mended (text ∷ []) [] k (omega arith)) (prints.each k less)
        | inr most ↦ let is : k ≡ length prints.mended = omega arith in let last : k ≡ i = omega arith in
            subst (λ (m : List ℕ). Mends (slice_index_or texts k []) m) (sym (ap (λ (n : ℕ). slice_index_or (prints.mended ++ text ∷ []) n []) is ∙ get_or-append_seam prints.mended text [] []))
            (subst (λ (n : ℕ). Mends (slice_index_or texts n []) text) (sym last) mends)
      ]

  pub prints-more : Mends (slice_index_or texts i []) text → Appends middle after (line_of text) → PrintsMended texts (i + 1) before after
  prints-more mends printed = record {
    mended = prints.mended ++ text ∷ [];
    long = let long = length-append prints.mended (text ∷ []) in let was = prints.long in omega arith;
    each = each-more mends;
    printed =
        let last : flat_map line_of (text ∷ []) ≡ line_of text = append-nil (line_of text) in
        rw (flat_map-append line_of prints.mended (text ∷ []), last) (Appends-trans _ _ _ _ _ prints.printed printed);
  }
