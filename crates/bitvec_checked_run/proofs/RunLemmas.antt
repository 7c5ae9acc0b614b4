-- One reply more, and the places behind it.
use Rattle.std.specs.Prelude.{◌≡◌, ℕ, ◌+◌, ◌<◌, ◌≤◌, List, [], ◌∷◌, ◌++◌, length, drop, map, take}
use Rattle.std.proofs.Common.{arith, sym, ◌∙◌, ap}
use Rattle.std.proofs.Math.ListN.{set}
use Rattle.std.proofs.lemmas.List.{drop-drop, drop-set-lt, map-append, take_more_set}

-- the step i of n has a place among as many as there were
pub has-place : (i n m k : ℕ) → i < n → n ≤ k → m ≡ k → i < m
has-place i n m k below room same = omega arith

pub raw-next : {A B : Type 0} (f : A → B) (told all : List A) (reply : A) (raws : List B) (i : ℕ) (r : B) → i < length raws → take i raws ≡ map f told → r ≡ f reply → all ≡ told ++ (reply ∷ []) → take (i + 1) (set raws i r) ≡ map f all
raw-next f told all reply raws i r below before is next =
    take_more_set raws i r below
    ∙ ap (λ (l : List _). l ++ (r ∷ [])) before
    ∙ ap (λ x. map f told ++ (x ∷ [])) is
    ∙ sym (map-append f told (reply ∷ []))
    ∙ ap (map f) (sym next)

pub rest-next : {B : Type 0} (raws old : List B) (i : ℕ) (r : B) → drop i raws ≡ drop i old → drop (i + 1) (set raws i r) ≡ drop (i + 1) old
rest-next raws old i r before =
    let next : i < i + 1 = omega arith in
    drop-set-lt (i + 1) raws i r next ∙ sym (drop-drop 1 i raws) ∙ ap (drop 1) before ∙ drop-drop 1 i old
