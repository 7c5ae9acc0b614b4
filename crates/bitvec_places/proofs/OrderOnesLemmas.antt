-- The ones of a word under an order: as those of the word turned so that its first bit is the least significant, and, where the order begins with the most significant bit, as the word's own from the last to the first.
use Rattle.std.specs.Prelude.{◌≡◌, ℕ, ◌+◌, ◌-◌, ◌^◌, ◌<◌, ◌==◌, Bool, true, false, cond, List, [], ◌∷◌, ◌++◌, filter, map, reverse, slice_index_or, refl}
use Rattle.std.specs.Int.{bit_at}
use Rattle.std.specs.List.{range_with_len}
use Rattle.std.specs.Simd.Lanes.{mask_l}
use Rattle.std.proofs.Common.{arith, sym, ◌∙◌, ap}
use Rattle.std.proofs.lemmas.List.{map-append, reverse-append, same_lists}
use Rattle.std.proofs.lemmas.List.Elements.{filter-append}
use Rattle.std.proofs.lemmas.Nat.Bits.{bit_at-zero}
use Rattle.std.proofs.lemmas.Simd.{bit_mask_l, mask_l-lt}
use Rattle.bitvec_base.specs.Memory.{element_bits}
use Rattle.bitvec_base.specs.MemoryLaws.{get-element_bits, length-element_bits}
use Rattle.bitvec_cells.specs.Sought.{Shows}
use Rattle.bitvec_places.specs.WordOnes.{order_ones, word_ones}
use Rattle.bitvec_places.proofs.PlacesLaws.{filter-none}
use Rattle.bitvec_places.proofs.OnesLemmas.{filter-same}

-- ---- the word turned

abbrev pub turned_word : (ℕ → ℕ → ℕ) → ℕ → ℕ
turned_word at word = mask_l (element_bits 64 at word)

module _ (at : ℕ → ℕ → ℕ) (word : ℕ) where
  pub turned-fits : turned_word at word < 2 ^ 64
  unfolding element_bits
  turned-fits = rw (length-element_bits 64 at word) at (mask_l-lt (element_bits 64 at word))

  as_bit : (bit : Bool) → (cond bit 1 0 == 1) ≡ bit
  as_bit true = refl
  as_bit false = refl

  pub turned-is : element_bits 64 (λ b i. i) (turned_word at word) ≡ element_bits 64 at word
  unfolding element_bits
  turned-is =
      let long = length-element_bits 64 (λ b i. i) (turned_word at word) in
      let as_long = length-element_bits 64 at word in
      same_lists _ _ (omega arith) (λ k d inside.
      get-element_bits 64 (λ b i. i) (turned_word at word) k d (omega arith)
      ∙ ap (λ (n : ℕ). n == 1) (bit_mask_l (element_bits 64 at word) k)
      ∙ as_bit _
      ∙ get-element_bits 64 at word k false (omega arith) ∙ sym (get-element_bits 64 at word k d (omega arith)))

  pub turned-ones : (ones : ℕ) → element_bits 64 (λ b i. i) ones ≡ element_bits 64 at word → word_ones ones ≡ order_ones at word
  unfolding word_ones order_ones
  turned-ones ones is =
      filter-same (λ i. bit_at ones i == 1) (λ i. bit_at word (at 64 i) == 1) 0 64 (λ k h.
      let place : 0 + k ≡ k = omega arith in
      rw place (sym (get-element_bits 64 (λ b i. i) ones k false h) ∙ ap (λ (l : List Bool). slice_index_or l k false) is ∙ get-element_bits 64 at word k false h))

-- what is shown of a word is shown of both turned
pub shows-turned : {at : ℕ → ℕ → ℕ} {v m from to : ℕ} {want : Bool} → Shows 64 at v m from to want → Shows 64 (λ b i. i) (turned_word at v) (turned_word at m) from to want
shows-turned {at} {v} {m} shows =
    let of_v = λ (i : ℕ). ap (λ (l : List Bool). slice_index_or l i false) (turned-is at v) in
    let of_m = λ (i : ℕ). ap (λ (l : List Bool). slice_index_or l i false) (turned-is at m) in
    record {
      has = λ i low high bit. of_m i ∙ shows.has i low high (sym (of_v i) ∙ bit);
      low = λ i below set. shows.low i below (sym (of_m i) ∙ set);
      high = λ i below set. shows.high i below (sym (of_m i) ∙ set);
      bit = λ i below set. of_v i ∙ shows.bit i below (sym (of_m i) ∙ set);
    }

-- ---- none

pub order-none : (at : ℕ → ℕ → ℕ) (word : ℕ) → word ≡ 0 → order_ones at word ≡ []
unfolding order_ones
order-none at word none =
    filter-none (λ i. bit_at word (at 64 i) == 1) 0 64 (λ k h. ap (λ (n : ℕ). bit_at n (at 64 (0 + k)) == 1) none ∙ ap (λ (n : ℕ). n == 1) (bit_at-zero (at 64 (0 + k))))

-- ---- orders that run from one end to the other

filter-head : (p : ℕ → Bool) (f : ℕ → ℕ) (x : ℕ) (l : List ℕ) → filter p (map f l) ≡ map f (filter (λ i. p (f i)) l) → (b : Bool) → cond b (f x ∷ filter p (map f l)) (filter p (map f l)) ≡ map f (cond b (x ∷ filter (λ i. p (f i)) l) (filter (λ i. p (f i)) l))
filter-head p f x l rest true = ap (λ (k : List ℕ). f x ∷ k) rest
filter-head p f x l rest false = rest

filter-map : (p : ℕ → Bool) (f : ℕ → ℕ) (l : List ℕ) → filter p (map f l) ≡ map f (filter (λ i. p (f i)) l)
filter-map p f [] = refl
filter-map p f (x ∷ l) = filter-head p f x l (filter-map p f l) (p (f x))

one-reversed : (p : ℕ → Bool) (x : ℕ) (b : Bool) → cond b (x ∷ []) [] ≡ reverse (cond b (x ∷ []) [])
one-reversed p x true = refl
one-reversed p x false = refl

filter-reverse : (p : ℕ → Bool) (l : List ℕ) → filter p (reverse l) ≡ reverse (filter p l)
filter-reverse p [] = refl
filter-reverse p (x ∷ l) =
    ap (filter p) (reverse-append (x ∷ []) l)
    ∙ filter-append p (reverse l) (x ∷ [])
    ∙ ap (λ (k : List ℕ). k ++ filter p (x ∷ [])) (filter-reverse p l)
    ∙ ap (λ (k : List ℕ). reverse (filter p l) ++ k) (one-reversed p x (p x))
    ∙ sym (reverse-append (filter p (x ∷ [])) (filter p l))
    ∙ ap reverse (sym (filter-append p (x ∷ []) l))

pub map-reverse : (f : ℕ → ℕ) (l : List ℕ) → map f (reverse l) ≡ reverse (map f l)
map-reverse f [] = refl
map-reverse f (x ∷ l) =
    ap (map f) (reverse-append (x ∷ []) l) ∙ map-append f (reverse l) (x ∷ []) ∙ ap (λ (k : List ℕ). k ++ (f x ∷ [])) (map-reverse f l) ∙ sym (reverse-append (f x ∷ []) (map f l))

-- the indices of a word's bits, from the last to the first
mirrored : range_with_len 0 64 ≡ reverse (map (λ i. 63 - i) (range_with_len 0 64))
mirrored = refl

pub high-ones : (at : ℕ → ℕ → ℕ) → ((i : ℕ) → i < 64 → at 64 i ≡ 63 - i) → (word : ℕ) → order_ones at word ≡ reverse (map (λ i. 63 - i) (word_ones word))
unfolding word_ones order_ones
high-ones at ends word =
    let all = range_with_len 0 64 in
    let down : ℕ → ℕ = λ i. 63 - i in
    let test : ℕ → Bool = λ i. bit_at word (63 - i) == 1 in
    filter-same (λ i. bit_at word (at 64 i) == 1) test 0 64 (λ k h.
    let place : 0 + k ≡ k = omega arith in rw place (ap (λ (n : ℕ). bit_at word n == 1) (ends k h)))
    ∙ ap (filter test) mirrored
    ∙ filter-reverse test (map down all)
    ∙ ap reverse (filter-map test down all
    ∙ ap (map down) (filter-same (λ i. test (down i)) (λ i. bit_at word i == 1) 0 64 (λ k h.
    let back : 63 - (63 - (0 + k)) ≡ 0 + k = omega arith in
    ap (λ (n : ℕ). bit_at word n == 1) back)))
