-- Words as vectors load and store them.
use Rattle.std.proofs.Common.{◌≡◌, ℕ, refl, ◌+◌, ◌%◌, ◌^◌, ◌<◌, ◌≤◌, List, [], ◌∷◌, length, get_or, map, slice_set, take, drop, Fits, arith, ap, sym, ◌∙◌, subst, lit<, add-zero}
use mir.Syntax.{Width}
use mir.Val.{bits}
use Rattle.std.specs.Simd.Lanes.{Each1, digits_l, number_l, put_chunk}
use Rattle.std.proofs.Math.Nat.{mod-eq_of_lt}
use Rattle.std.proofs.lemmas.List.{length-take-le, map-id, take_more_set}
use Rattle.std.proofs.lemmas.Simd.{below_from_Fits, chunk-fits, put_chunk_is, take_more_put_chunk}
use Rattle.std.proofs.lemmas.Slice.{drop-append-drop}
use Rattle.bitvec_store.specs.DigitLaws.{digits-number, number-below, number-digits}

-- the first elements of a slice
module _ (w : Width) (n : ℕ) (xs : List ℕ) (fit : (k : ℕ) → Fits w (get_or xs k 0)) (room : n ≤ length xs) (whole : (2 ^ bits w) ^ n ≡ 2 ^ 64) where
  abbrev p : ℕ
  p = 2 ^ bits w

  abbrev number : ℕ
  number = number_l p (take n xs)

  each : Each1 (λ x. x < p) (take n xs)
  each = below_from_Fits w (take n xs) (chunk-fits w 0 n xs fit)

  long : length (take n xs) ≡ n
  long = length-take-le n xs room

  below : number < 2 ^ 64
  below = subst (λ (m : ℕ). number < m) (ap (λ (k : ℕ). p ^ k) long ∙ whole) (number-below p (take n xs) each)

  -- bytes that make a word
  pub bytes-loaded : map (λ x. x) (take n xs) ≡ digits_l p n (number % 2 ^ 64)
  bytes-loaded =
      map-id (take n xs)
      ∙ sym (ap (digits_l p n) (mod-eq_of_lt below) ∙ ap (λ (k : ℕ). digits_l p k number) (sym long) ∙ digits-number p (take n xs) each)

  -- elements whose bytes make a word
  pub elements-loaded : map (λ x. x) (take n xs) ≡ digits_l p n (number_l 256 (digits_l 256 8 number) % 2 ^ 64)
  elements-loaded = bytes-loaded ∙ ap (λ (m : ℕ). digits_l p n (m % 2 ^ 64)) (sym (number-digits 256 8 number (lit< tt) ∙ mod-eq_of_lt below))

-- the bytes of a word
pub word-bytes : (word : ℕ) → word < 2 ^ 64 → number_l 256 (digits_l 256 8 (word + 0)) ≡ word
word-bytes word fits = number-digits 256 8 (word + 0) (lit< tt) ∙ ap (λ (m : ℕ). m % 2 ^ 64) (add-zero word) ∙ mod-eq_of_lt fits

-- a word stored as an element of 64 bits
pub element-stored : (xs : List ℕ) (word : ℕ) → 1 ≤ length xs → word < 2 ^ 64 → map (λ x. x) (take 1 (slice_set xs 0 word)) ≡ word % 2 ^ 64 ∷ []
element-stored xs word room fits = map-id (take 1 (slice_set xs 0 word)) ∙ take_more_set xs 0 word room ∙ ap (λ (x : ℕ). x ∷ []) (sym (mod-eq_of_lt fits))

-- what a vector leaves of a slice
module _ (n : ℕ) (xs ys : List ℕ) (long : length ys ≡ n) (room : n ≤ length xs) where
  pub front-stored : map (λ x. x) (take n (put_chunk 0 xs ys)) ≡ ys
  front-stored = map-id (take n (put_chunk 0 xs ys)) ∙ take_more_put_chunk 0 xs ys n (omega arith) room

  pub rest-stored : drop n (put_chunk 0 xs ys) ≡ drop n xs
  rest-stored = ap (drop n) (put_chunk_is 0 xs ys (omega arith)) ∙ drop-append-drop (length ys) xs ys n (omega arith) refl
