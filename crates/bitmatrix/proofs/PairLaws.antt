-- A word that is no pair leaves no relation.
use Rattle.std.proofs.Common.{◌≡◌, ℕ, zero, suc, ◌<◌, Bool, List, [], ◌∷◌, fold, get_or, length, Option, Some, None, refl, ap, ◌∙◌, arith}
use Rattle.bitmatrix.specs.Arguments.{bits_in, pair_of, paired, with_pair, ◌>>=◌}

with_none : (words : List (List ℕ)) → fold with_pair None words ≡ None
with_none [] = refl
with_none (word ∷ words) = with_none words

with_other : (bits : Option (List Bool)) (word : List ℕ) → pair_of word ≡ None → with_pair bits word ≡ None
with_other None word other = refl
with_other (Some bits) word other = ap (λ (pair : Option (ℕ × ℕ)). pair >>= λ p. Some (paired bits p)) other

fold-other : (words : List (List ℕ)) (bits : Option (List Bool)) (i : ℕ) → i < length words → pair_of (get_or words i []) ≡ None → fold with_pair bits words ≡ None
fold-other [] bits i low other = absurd (omega arith)
fold-other (word ∷ words) bits zero low other = ap (λ (b : Option (List Bool)). fold with_pair b words) (with_other bits word other) ∙ with_none words
fold-other (word ∷ words) bits (suc i) low other = fold-other words (with_pair bits word) i (omega arith) other

pub bits_in-other : (words : List (List ℕ)) (i : ℕ) → i < length words → pair_of (get_or words i []) ≡ None → bits_in words ≡ None
bits_in-other words i low other = fold-other words _ i low other
