-- Reading each of a list, from its front on.
use Rattle.std.proofs.Common.{◌≡◌, ℕ, zero, suc, ◌<◌, Bool, true, false, ◌&&◌, if◌then◌else◌, List, [], ◌∷◌, ◌++◌, length, get_or, Option, Some, None, is_some, refl, sym, ap, ◌∙◌, arith}
use Rattle.std.specs.List.{list_all, filter_map, cons_option}
use Rattle.std.proofs.Math.Bool.{and-false}
use Rattle.std.proofs.lemmas.List.Elements.{filter_map-append}
use Rattle.std.proofs.lemmas.List.Folds.{list_all-append}
use Rattle.bitdo_work.specs.Elements.{read_each}

pub read_each-nil : {X Y : Type 0} (read : X → Option Y) → read_each read [] ≡ Some []
unfolding read_each
read_each-nil read = refl

where_all : {Y : Type 0} (b : Bool) (xs ys : List Y) → (if b then Some xs else None) ≡ Some ys → (b ≡ true) × (xs ≡ ys)
where_all true xs ys h = (refl, cc)
where_all false xs ys h = absurd (cc)

-- one more that can be read
pub read_each-push : {X Y : Type 0} (read : X → Option Y) (xs : List X) (ys : List Y) (x : X) (y : Y) → read_each read xs ≡ Some ys → read x ≡ Some y
    → read_each read (xs ++ x ∷ []) ≡ Some (ys ++ y ∷ [])
unfolding read_each
read_each-push {X} {Y} read xs ys x y before one =
    let h = where_all _ _ _ before in
    let every : list_all (λ z. is_some (read z)) (xs ++ x ∷ []) ≡ true =
    list_all-append (λ z. is_some (read z)) xs (x ∷ []) ∙ (λ i. h.0 i && (is_some (one i) && true)) in
    let items : filter_map read (xs ++ x ∷ []) ≡ ys ++ y ∷ [] =
    filter_map-append read xs (x ∷ []) ∙ (λ i. h.1 i ++ cons_option (one i) []) in
    rw (every, items) refl

-- one that can't be
unread : {X Y : Type 0} (read : X → Option Y) (xs : List X) (i : ℕ) (x : X) → i < length xs → x ≡ get_or xs i x → read x ≡ None → list_all (λ z. is_some (read z)) xs ≡ false
unread read [] i x within is bad = absurd (omega arith)
unread read (z ∷ xs) zero x within is bad = (λ i. is_some (read (sym is i)) && list_all (λ z. is_some (read z)) xs) ∙ (λ i. is_some (bad i) && list_all (λ z. is_some (read z)) xs)
unread read (z ∷ xs) (suc i) x within is bad = ap (λ b. is_some (read z) && b) (unread read xs i x (omega arith) is bad) ∙ and-false (is_some (read z))

pub read_each-bad : {X Y : Type 0} (read : X → Option Y) (xs : List X) (i : ℕ) (x : X) → i < length xs → x ≡ get_or xs i x → read x ≡ None → read_each read xs ≡ None
unfolding read_each
read_each-bad read xs i x within is bad = rw (unread read xs i x within is bad) refl
