-- Words and their assignments, one more at a time.
use Rattle.std.proofs.Common.{◌≡◌, ℕ, ◌+◌, ◌*◌, ◌<◌, List, [], ◌∷◌, ◌++◌, length, get_or, map, Option, Some, None, sym, ap, ◌∙◌, arith, below_more}
use Rattle.std.proofs.lemmas.List.{get_or-map, get_or_append_left, get_or_push}
use Rattle.packet.specs.Arguments.{AreAssignments, Named, assignment_of}

-- It is the assignment of a pair of words.
abbrev pub assignment_at : List (List ℕ) → ℕ → Option Named
assignment_at words k = assignment_of (get_or words (2 * k) []) (get_or words (2 * k + 1) [])

text-at : {X : Type 0} (f : X → List ℕ) (words : List X) (i : ℕ) (word : X) (text : List ℕ) → i < length words → word ≡ get_or words i word → text ≡ f word → get_or (map f words) i [] ≡ text
text-at f words i word text low is same = get_or-map f words i word [] low ∙ ap f (sym is) ∙ sym same

pub assignment-at : {X : Type 0} (f : X → List ℕ) (words : List X) (n : ℕ) (x y : X) (flag word : List ℕ) → 2 * n + 1 < length words → x ≡ get_or words (2 * n) x
    → y ≡ get_or words (2 * n + 1) y → flag ≡ f x → word ≡ f y → assignment_at (map f words) n ≡ assignment_of flag word
assignment-at f words n x y flag word low first second is also =
    λ k. assignment_of (text-at f words (2 * n) x flag (omega arith) first is k) (text-at f words (2 * n + 1) y word low second also k)

-- two words that are no assignment
pub no-assignment : (words : List (List ℕ)) (n : ℕ) → 2 * n + 1 < length words → assignment_at words n ≡ None → (list : List Named) → AreAssignments words list → ⊥
no-assignment words n low bad list are =
    let count = are.count in
    let some = are.each n (omega arith) in
    cc

-- one more
pub each-more : (words : List (List ℕ)) (list : List Named) (one : Named) (n : ℕ) → length list ≡ n
    → ((k : ℕ) → k < n → assignment_at words k ≡ Some (get_or list k (record { name = []; value = 0 }))) → assignment_at words n ≡ Some one
    → (k : ℕ) → k < n + 1 → assignment_at words k ≡ Some (get_or (list ++ one ∷ []) k (record { name = []; value = 0 }))
each-more words list one n long before here =
    below_more (λ (k : ℕ). assignment_at words k ≡ Some (get_or (list ++ one ∷ []) k (record { name = []; value = 0 }))) n
    (λ k low. before k low ∙ ap Some (sym (get_or_append_left list (one ∷ []) (record { name = []; value = 0 }) k (omega arith))))
    (here ∙ ap Some (sym (get_or_push list one (record { name = []; value = 0 }) n long)))
