-- A filter of the keys of words, one after the other.
use Rattle.std.proofs.Common.{◌≡◌, ℕ, zero, suc, ◌+◌, ◌<◌, map, take, List, [], ◌∷◌, ◌++◌, fold, get_or, length, Option, Some, None, refl, sym, ap, subst, ◌∙◌, arith}
use Rattle.std.specs.Prelude.{IsSomeAnd, ◌≢◌}
use Rattle.std.proofs.lemmas.List.Elements.{All-pop, All-push, All-weaker}
use Rattle.device.specs.Filter.{Has, Inserts, place_of}
use Rattle.device.specs.Numbers.{◌>>=◌, numbers_of, with_number}
use Rattle.numerals.specs.Numerals.{number_of}
use Rattle.device.specs.Parts.{IsFilter}
use Rattle.device.specs.declared.bloom.Bloom.{Bloom}

-- a word that has no number leaves none

with_none : (words : List (List ℕ)) → fold with_number None words ≡ None
with_none [] = refl
with_none (word ∷ words) = with_none words

with_other : (numbers : Option (List ℕ)) (word : List ℕ) → number_of 64 word ≡ None → with_number numbers word ≡ None
with_other None word other = refl
with_other (Some numbers) word other = ap (λ (number : Option ℕ). number >>= λ n. Some (numbers ++ n ∷ [])) other

fold-other : (words : List (List ℕ)) (numbers : Option (List ℕ)) (i : ℕ) → i < length words → number_of 64 (get_or words i []) ≡ None → fold with_number numbers words ≡ None
fold-other [] numbers i low other = absurd (omega arith)
fold-other (word ∷ words) numbers zero low other = ap (λ (n : Option (List ℕ)). fold with_number n words) (with_other numbers word other) ∙ with_none words
fold-other (word ∷ words) numbers (suc i) low other = fold-other words (with_number numbers word) i (omega arith) other

pub numbers_of-other : (words : List (List ℕ)) (i : ℕ) → i < length words → number_of 64 (get_or words i []) ≡ None → numbers_of words ≡ None
numbers_of-other words i low other = fold-other words _ i low other

-- one word more

fold-more : {X : Type 0} (f : X → List ℕ) (xs : List X) (numbers : Option (List ℕ)) (i : ℕ) (d : X) → i < length xs
    → fold with_number numbers (map f (take (suc i) xs)) ≡ with_number (fold with_number numbers (map f (take i xs))) (f (get_or xs i d))
fold-more f [] numbers i d low = absurd (omega arith)
fold-more f (x ∷ xs) numbers zero d low = refl
fold-more f (x ∷ xs) numbers (suc i) d low = fold-more f xs (with_number numbers (f x)) i d (omega arith)

pub numbers_of-more : {X : Type 0} (f : X → List ℕ) (xs : List X) (i : ℕ) (d : X) → i < length xs
    → numbers_of (map f (take (i + 1) xs)) ≡ with_number (numbers_of (map f (take i xs))) (f (get_or xs i d))
numbers_of-more f xs i d low =
    let next : i + 1 ≡ suc i = omega arith in
    ap (λ (n : ℕ). numbers_of (map f (take n xs))) next ∙ fold-more f xs _ i d low

-- the filter with one key more

filter-push : (keys : List ℕ) (key : ℕ) (old new : Bloom) → IsFilter keys old → Inserts 3 key old new → ((other : ℕ) → Has 3 old other → Has 3 new other) → IsFilter (keys ++ key ∷ []) new
filter-push keys key old new filter inserts kept = record {
  has = All-push (Has 3 new) keys key (All-weaker (Has 3 old) (Has 3 new) kept keys filter.has) inserts.has;
  others = λ place low all.
      let apart = All-pop (λ k. (round : ℕ) → round < 3 → place ≢ place_of k round) (keys ++ key ∷ []) keys (Some key) refl all in
      inserts.others place apart.1 ∙ filter.others place low apart.0;
}

pub filter-more : (numbers : Option (List ℕ)) (word : List ℕ) (key : ℕ) (old new : Bloom) → IsSomeAnd numbers (λ keys. IsFilter keys old) → number_of 64 word ≡ Some key → Inserts 3 key old new
    → ((other : ℕ) → Has 3 old other → Has 3 new other) → IsSomeAnd (with_number numbers word) (λ keys. IsFilter keys new)
filter-more None word key old new filter is inserts kept = absurd filter
filter-more (Some keys) word key old new filter is inserts kept =
    subst (λ (number : Option ℕ). IsSomeAnd (number >>= λ n. Some (keys ++ n ∷ [])) (λ ks. IsFilter ks new)) (sym is) (filter-push keys key old new filter inserts kept)
