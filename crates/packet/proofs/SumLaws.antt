-- Sums of words with carries: the order is free, and the checksum makes the sum right.
use Rattle.std.proofs.Common.{◌≡◌, ℕ, zero, suc, ◌-◌, ◌<◌, List, [], ◌∷◌, length, fold, lit<, refl, sym, ap, ◌∙◌, arith}
use Rattle.std.specs.Prelude.{All, slice_set}
use Rattle.std.proofs.lemmas.Bool.Decides.{nat_tests}
use Rattle.std.proofs.lemmas.List.Elements.{All-head, All-set, All-tail}
use Rattle.packet.specs.Checksums.{IsRight, add_words, checksum_of, checksum_word, sum_words}

pub add_words-below : (x y : ℕ) → x < 65536 → y < 65536 → add_words x y < 65536
add_words-below x y one two = grind (arith, nat_tests)

add_words-turn : (x y z : ℕ) → x < 65536 → y < 65536 → z < 65536 → add_words (add_words x y) z ≡ add_words (add_words x z) y
add_words-turn x y z one two three = grind (arith, nat_tests)

add_words-zero : (x : ℕ) → x < 65536 → add_words x 0 ≡ x
add_words-zero x below = grind (arith, nat_tests)

add_words-rest : (x : ℕ) → x < 65536 → add_words x (65535 - x) ≡ 65535
add_words-rest x below = grind (arith, nat_tests)

-- a word that is added first is added last
fold-turn : (words : List ℕ) (x y : ℕ) → x < 65536 → y < 65536 → All (λ word. word < 65536) words
    → fold add_words (add_words x y) words ≡ add_words (fold add_words x words) y
fold-turn [] x y one two all = refl
fold-turn (word ∷ words) x y one two all =
    let first = All-head (λ w. w < 65536) word words all in
    ap (λ (n : ℕ). fold add_words n words) (add_words-turn x y word one two first)
    ∙ fold-turn words (add_words x word) y (add_words-below x word one first) two (All-tail (λ w. w < 65536) word words all)

pub fold-below : (words : List ℕ) (x : ℕ) → x < 65536 → All (λ word. word < 65536) words → fold add_words x words < 65536
fold-below [] x one all = one
fold-below (word ∷ words) x one all =
    fold-below words (add_words x word) (add_words-below x word one (All-head (λ w. w < 65536) word words all)) (All-tail (λ w. w < 65536) word words all)

-- the sum with a word in a place, by that with 0 there
fold-set : (words : List ℕ) (n x y : ℕ) → n < length words → x < 65536 → y < 65536 → All (λ word. word < 65536) words
    → fold add_words x (slice_set words n y) ≡ add_words (fold add_words x (slice_set words n 0)) y
fold-set [] n x y below one two all = absurd (omega arith)
fold-set (word ∷ words) zero x y below one two all =
    fold-turn words x y one two (All-tail (λ w. w < 65536) word words all) ∙ ap (λ (k : ℕ). add_words (fold add_words k words) y) (sym (add_words-zero x one))
fold-set (word ∷ words) (suc n) x y below one two all =
    fold-set words n (add_words x word) y (omega arith) (add_words-below x word one (All-head (λ w. w < 65536) word words all)) two (All-tail (λ w. w < 65536) word words all)

-- the checksum makes it right
pub checksum-right : (words : List ℕ) → checksum_word < length words → All (λ word. word < 65536) words → IsRight (slice_set words checksum_word (checksum_of words))
checksum-right words below all =
    let rest : sum_words (slice_set words checksum_word 0) < 65536 = fold-below (slice_set words checksum_word 0) 0 (lit< tt) (All-set (λ w. w < 65536) words checksum_word 0 (lit< tt) all) in
    fold-set words checksum_word 0 (checksum_of words) below (lit< tt) (omega arith) all ∙ add_words-rest (sum_words (slice_set words checksum_word 0)) rest
