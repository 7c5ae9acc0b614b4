-- The text of a list with one item more at its end.
use Rattle.std.specs.Prelude.{◌≡◌, ℕ, ◌+◌, ◌==◌, false, List, [], ◌∷◌, ◌++◌, length, slice_index_or, take, refl}
use Rattle.std.specs.List.{join_by}
use Rattle.std.proofs.Common.{arith, length-append, rules}
use Rattle.std.proofs.lemmas.List.{places, same_lists, take_all}
use Rattle.bitvec_domain.specs.ListingLaws.{join_by-more}
use Rattle.bitvec_domain.specs.Listing.{comma, separator}

pub joined-push : {X : Type 0} (text : X → List ℕ) (items : List X) (x : X)
    → join_by text comma items ++ (separator (length items) ++ text x) ≡ join_by text comma (items ++ x ∷ [])
joined-push text items x =
    let all = items ++ x ∷ [] in
    let long : length all ≡ length items + 1 = length-append items (x ∷ []) in
    let front : take (length items) all ≡ items = same_lists _ _ (grind (arith, places)) (λ k d inside. grind (arith, places)) in
    let last : slice_index_or all (length items) x ≡ x = grind (arith, places) in
    let whole : take (length items + 1) all ≡ all = take_all (length items + 1) all (omega arith) in
    rw (front, last, whole) at (join_by-more text all (length items) x (omega arith))

pub separator-later : {X : Type 0} (items : List X) (x : X) → separator 1 ≡ separator (length (items ++ x ∷ []))
separator-later items x =
    let long : length (items ++ x ∷ []) ≡ length items + 1 = length-append items (x ∷ []) in
    let later : (length items + 1 == 0) ≡ false = search rules in
    rw (long, later) refl
