-- Six words, and any other number of them.
use Rattle.std.proofs.Common.{◌≡◌, ℕ, ◌<◌, ◌≤◌, List, [], ◌∷◌, length, get_or, None, refl, arith}
use Rattle.bitdo_work.specs.Arguments.{request_of}

pub six : {A : Type 0} (xs : List A) (a b c d e f : A) → 6 ≤ length xs → length xs < 7 → a ≡ get_or xs 0 a → b ≡ get_or xs 1 b → c ≡ get_or xs 2 c → d ≡ get_or xs 3 d → e ≡ get_or xs 4 e
    → f ≡ get_or xs 5 f → xs ≡ a ∷ b ∷ c ∷ d ∷ e ∷ f ∷ []
six [] a b c d e f low high pa pb pc pd pe pf = absurd (omega arith)
six (x ∷ []) a b c d e f low high pa pb pc pd pe pf = absurd (omega arith)
six (x ∷ y ∷ []) a b c d e f low high pa pb pc pd pe pf = absurd (omega arith)
six (x ∷ y ∷ z ∷ []) a b c d e f low high pa pb pc pd pe pf = absurd (omega arith)
six (x ∷ y ∷ z ∷ u ∷ []) a b c d e f low high pa pb pc pd pe pf = absurd (omega arith)
six (x ∷ y ∷ z ∷ u ∷ v ∷ []) a b c d e f low high pa pb pc pd pe pf = absurd (omega arith)
six (x ∷ y ∷ z ∷ u ∷ v ∷ w ∷ []) a b c d e f low high pa pb pc pd pe pf = cc
six (x ∷ y ∷ z ∷ u ∷ v ∷ w ∷ t ∷ more) a b c d e f low high pa pb pc pd pe pf = absurd (omega arith)

pub request_of-other : (words : List (List ℕ)) → (length words ≡ 6 → ⊥) → request_of words ≡ None
unfolding request_of
request_of-other [] h = refl
request_of-other (x ∷ []) h = refl
request_of-other (x ∷ y ∷ []) h = refl
request_of-other (x ∷ y ∷ z ∷ []) h = refl
request_of-other (x ∷ y ∷ z ∷ u ∷ []) h = refl
request_of-other (x ∷ y ∷ z ∷ u ∷ v ∷ []) h = refl
request_of-other (x ∷ y ∷ z ∷ u ∷ v ∷ w ∷ []) h = absurd (h refl)
request_of-other (x ∷ y ∷ z ∷ u ∷ v ∷ w ∷ t ∷ more) h = refl
