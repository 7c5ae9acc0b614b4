-- A slice of which a part was written or loaded.
use borrow.Rule.Slice.PartMut.{post_of, put_mid}
use Rattle.std.specs.Prelude.{◌≡◌, ℕ, ◌+◌, ◌-◌, ◌≤◌, List, ◌++◌, length, map, take, drop, slice_range}
use Rattle.std.proofs.Common.{arith, sym, ap, ◌∙◌}
use Rattle.std.proofs.Math.Seq.{drop-drop}
use Rattle.std.proofs.lemmas.List.{drop-map, length-map, map-append, take-map, take-take}
use Rattle.bitvec_base.specs.Window.{write_at}

-- the numbers of its elements
pub part-numbers : {A : Type 0} (value : A → ℕ) (a k : ℕ) (xs ys : List A) → length ys ≡ k → map value (put_mid a k xs ys) ≡ write_at (map value xs) a (map value ys)
unfolding write_at
part-numbers value a k xs ys long =
    let behind : map value (post_of a k xs) ≡ drop (a + length (map value ys)) (map value xs) =
    ap (map value) (drop-drop k a xs) ∙ sym (drop-map value (a + k) xs) ∙ ap (λ (n : ℕ). drop (a + n) (map value xs)) (sym (length-map ys value ∙ long)) in
    map-append value (take a xs) (ys ++ post_of a k xs)
    ∙ ap (λ (l : List ℕ). l ++ map value (ys ++ post_of a k xs)) (sym (take-map value a xs))
    ∙ ap (λ (l : List ℕ). take a (map value xs) ++ l) (map-append value ys (post_of a k xs))
    ∙ ap (λ (l : List ℕ). take a (map value xs) ++ (map value ys ++ l)) behind

-- the numbers of elements that a word was loaded of
pub word-numbers : {A : Type 0} (value : A → ℕ) (first n : ℕ) (xs : List A) {digits : List ℕ} → first + n ≤ length xs
    → map value (take n (slice_range xs first (length xs))) ≡ digits → take n (drop first (map value xs)) ≡ digits
word-numbers value first n xs inside is =
    ap (take n) (drop-map value first xs)
    ∙ take-map value n (drop first xs)
    ∙ sym (ap (map value) (take-take n (length xs - first) (drop first xs) (omega arith)))
    ∙ is
