-- Words and their bits: one word more, two lists of words joined, how many bits there are, and that the bits tell the words.
use Rattle.std.specs.Prelude.{◌≡◌, ℕ, ◌+◌, ◌-◌, ◌*◌, ◌/◌, ◌%◌, ◌^◌, ◌<◌, ◌≤◌, ◌==◌, Bool, false, true, List, [], ◌∷◌, ◌++◌, length, map, replicate, slice_index, slice_index_or, slice_range}
use Rattle.std.specs.Int.{bit_at}
use Rattle.std.proofs.Common.{arith, inl, inr, lit<, refl, sym, ◌∙◌, ap}
use Rattle.std.proofs.Math.Nat.{mod-eq_of_lt}
use Rattle.std.proofs.lemmas.Bool.{cases_lt}
use Rattle.std.proofs.lemmas.List.{append-nil, get_or-append_right, get_or-replicate, get_or_past, length-append, length-map, length-replicate, map-append, map-id, same_lists}
use Rattle.bitvec_base.specs.BitsFixMemory.{memory_bits-fix}
use Rattle.bitvec_base.specs.FilledLaws.{bits-zeros}
use Rattle.bitvec_base.specs.Memory.{element_bits, memory_bits}
use Rattle.bitvec_base.specs.MemoryLaws.{element-range, get-element_bits, get-memory_bits, length-element_bits, length-memory_bits, memory-append, place_bit-element}
use Rattle.bitvec_base.specs.Order.{Permutes}
use Rattle.bitvec_segments.specs.NumberLaws.{segment-number}
use Rattle.bitvec_segments.specs.Segments.{segment_bits, segment_number}
use Rattle.bitvec_store.specs.Width.{FitWidth}
use Rattle.bitvec_in_place.specs.Ranges.{number_in}
use Rattle.bitvec.specs.Arrays.{lsb0_bits, msb0_bits}
use Rattle.bitvec.specs.SeamlessLaws.{number-seamless}

one-element : (b : ℕ) (at : ℕ → ℕ → ℕ) (x : ℕ) → memory_bits b at (x ∷ []) ≡ element_bits b at x
one-element b at x =
    let long = length-memory_bits b at (x ∷ []) in
    let inner = length-element_bits b at x in
    same_lists _ _ (omega arith) (λ k d inside.
    let below : k < b = omega arith in
    let place : 0 * b + k ≡ k = omega arith in
    get-memory_bits b at (x ∷ []) k d (omega arith)
    ∙ rw place at (place_bit-element b at (x ∷ []) 0 k below)
    ∙ sym (get-element_bits b at x k d below))

-- The bits of a memory are those of its first element, and then those of the others.
pub memory-cons : (b : ℕ) (at : ℕ → ℕ → ℕ) (x : ℕ) (xs : List ℕ) → 0 < b → memory_bits b at (x ∷ xs) ≡ element_bits b at x ++ memory_bits b at xs
memory-cons b at x xs some = memory-append b at (x ∷ []) xs some ∙ ap (λ (l : List Bool). l ++ memory_bits b at xs) (one-element b at x)

-- No element has no bit.
pub memory-nil : (b : ℕ) (at : ℕ → ℕ → ℕ) → memory_bits b at [] ≡ []
memory-nil b at = let none : b * 0 ≡ 0 = omega arith in rw none at (bits-zeros b at [] refl)

module _ (b : ℕ) where
  -- No words under `Lsb0` have no bit.
  pub lsb0-nil : lsb0_bits b [] ≡ []
  lsb0-nil = memory-nil b (λ _ i. i)

  -- The bits of words under `Lsb0` are those of the first word, the lowest first, and then those of the others.
  pub lsb0-cons : (x : ℕ) (xs : List ℕ) → 0 < b → lsb0_bits b (x ∷ xs) ≡ segment_bits false b x ++ lsb0_bits b xs
  lsb0-cons x xs some = memory-cons b (λ _ i. i) x (map (λ x. x) xs) some

  -- The bits of two joined lists of words under `Lsb0` are those of the first, and then those of the second.
  pub lsb0-append : (xs ys : List ℕ) → 0 < b → lsb0_bits b (xs ++ ys) ≡ lsb0_bits b xs ++ lsb0_bits b ys
  lsb0-append xs ys some = rw (map-id, map-id, map-id) (memory-append b (λ _ i. i) xs ys some)

  -- With one word more, the bits of words under `Lsb0` are those that they were, and then those of the word.
  pub lsb0-push : (xs : List ℕ) (x : ℕ) → 0 < b → lsb0_bits b (xs ++ x ∷ []) ≡ lsb0_bits b xs ++ segment_bits false b x
  lsb0-push xs x some =
      lsb0-append xs (x ∷ []) some ∙ ap (λ (l : List Bool). lsb0_bits b xs ++ l) (lsb0-cons x [] some ∙ ap (λ (l : List Bool). segment_bits false b x ++ l) lsb0-nil ∙ append-nil (segment_bits false b x))

  -- Words under `Lsb0` have `b` bits each.
  pub lsb0-length : (xs : List ℕ) → length (lsb0_bits b xs) ≡ b * length xs
  lsb0-length xs = length-memory_bits b (λ _ i. i) (map (λ x. x) xs) ∙ ap (λ (n : ℕ). b * n) (length-map xs (λ x. x))

  -- Words of `b` bits that have the same bits under `Lsb0` are the same.
  pub lsb0-same : (xs ys : List ℕ) → 0 < b → FitWidth b xs → FitWidth b ys → lsb0_bits b xs ≡ lsb0_bits b ys → xs ≡ ys
  lsb0-same xs ys some fit other same =
      memory_bits-fix b (λ _ i. i) some (record { below = λ i h. h; apart = λ i j h k e. e }) xs ys fit other (rw (map-id, map-id) at same)

  -- No words under `Msb0` have no bit.
  pub msb0-nil : msb0_bits b [] ≡ []
  msb0-nil = memory-nil b (λ w i. w - 1 - i)

  -- The bits of words under `Msb0` are those of the first word, the highest first, and then those of the others.
  pub msb0-cons : (x : ℕ) (xs : List ℕ) → 0 < b → msb0_bits b (x ∷ xs) ≡ segment_bits true b x ++ msb0_bits b xs
  msb0-cons x xs some = memory-cons b (λ w i. w - 1 - i) x (map (λ x. x) xs) some

  -- The bits of two joined lists of words under `Msb0` are those of the first, and then those of the second.
  pub msb0-append : (xs ys : List ℕ) → 0 < b → msb0_bits b (xs ++ ys) ≡ msb0_bits b xs ++ msb0_bits b ys
  msb0-append xs ys some = rw (map-id, map-id, map-id) (memory-append b (λ w i. w - 1 - i) xs ys some)

  -- With one word more, the bits of words under `Msb0` are those that they were, and then those of the word.
  pub msb0-push : (xs : List ℕ) (x : ℕ) → 0 < b → msb0_bits b (xs ++ x ∷ []) ≡ msb0_bits b xs ++ segment_bits true b x
  msb0-push xs x some =
      msb0-append xs (x ∷ []) some ∙ ap (λ (l : List Bool). msb0_bits b xs ++ l) (msb0-cons x [] some ∙ ap (λ (l : List Bool). segment_bits true b x ++ l) msb0-nil ∙ append-nil (segment_bits true b x))

  -- Words under `Msb0` have `b` bits each.
  pub msb0-length : (xs : List ℕ) → length (msb0_bits b xs) ≡ b * length xs
  msb0-length xs = length-memory_bits b (λ w i. w - 1 - i) (map (λ x. x) xs) ∙ ap (λ (n : ℕ). b * n) (length-map xs (λ x. x))

  -- Words of `b` bits that have the same bits under `Msb0` are the same.
  pub msb0-same : (xs ys : List ℕ) → 0 < b → FitWidth b xs → FitWidth b ys → msb0_bits b xs ≡ msb0_bits b ys → xs ≡ ys
  msb0-same xs ys some fit other same =
      memory_bits-fix b (λ w i. w - 1 - i) some (record { below = λ i h. omega arith; apart = λ i j h k e. omega arith }) xs ys fit other (rw (map-id, map-id) at same)

-- ---- zeros, and zeros behind words

memory-zeros : (b : ℕ) (at : ℕ → ℕ → ℕ) (n : ℕ) → memory_bits b at (replicate n 0) ≡ replicate (b * n) false
memory-zeros b at n =
    let long = length-replicate {A = ℕ} n 0 in
    bits-zeros b at (replicate n 0) (ap (λ (m : ℕ). replicate m 0) (sym long)) ∙ ap (λ (m : ℕ). replicate (b * m) false) long

-- The bits of `n` words that are 0 are `b * n` zeros, under `Lsb0`.
pub lsb0-zeros : (b n : ℕ) → lsb0_bits b (replicate n 0) ≡ replicate (b * n) false
lsb0-zeros b n = rw map-id (memory-zeros b (λ _ i. i) n)

-- The bits of `n` words that are 0 are `b * n` zeros, under `Msb0`.
pub msb0-zeros : (b n : ℕ) → msb0_bits b (replicate n 0) ≡ replicate (b * n) false
msb0-zeros b n = rw map-id (memory-zeros b (λ w i. w - 1 - i) n)

zero-replicate : (m k : ℕ) → slice_index_or (replicate m false) k false ≡ false
zero-replicate m k =
    elim (cases_lt k m) as (λ _. slice_index_or (replicate m false) k false ≡ false) [
      | inl below ↦ get_or-replicate m k false false below
      | inr past ↦ (let long = length-replicate {A = Bool} m false in get_or_past (replicate m false) k false (omega arith))
    ]

memory-behind : (b : ℕ) (at : ℕ → ℕ → ℕ) (xs : List ℕ) (n p : ℕ) → 0 < b → b * length xs ≤ p → slice_index_or (memory_bits b at (xs ++ replicate n 0)) p false ≡ false
memory-behind b at xs n p some behind =
    ap (λ (l : List Bool). slice_index_or l p false) (memory-append b at xs (replicate n 0) some)
    ∙ get_or-append_right _ _ (b * length xs) p false (length-memory_bits b at xs) behind
    ∙ ap (λ (l : List Bool). slice_index_or l (p - b * length xs) false) (memory-zeros b at n)
    ∙ zero-replicate (b * n) (p - b * length xs)

-- Behind the bits of words that zeros stand behind all bits are 0, under `Lsb0`.
pub lsb0-behind : (b : ℕ) (xs : List ℕ) (n p : ℕ) → 0 < b → b * length xs ≤ p → slice_index_or (lsb0_bits b (xs ++ replicate n 0)) p false ≡ false
lsb0-behind b xs n p some behind = rw map-id (memory-behind b (λ _ i. i) xs n p some behind)

-- Behind the bits of words that zeros stand behind all bits are 0, under `Msb0`.
pub msb0-behind : (b : ℕ) (xs : List ℕ) (n p : ℕ) → 0 < b → b * length xs ≤ p → slice_index_or (msb0_bits b (xs ++ replicate n 0)) p false ≡ false
msb0-behind b xs n p some behind = rw map-id (memory-behind b (λ w i. w - 1 - i) xs n p some behind)

-- ---- the words come back

memory-element : (b : ℕ) (at : ℕ → ℕ → ℕ) (xs : List ℕ) (e s t : ℕ) → e < length xs → s ≡ b * e → t ≡ b * e + b → slice_range (memory_bits b at xs) s t ≡ element_bits b at (slice_index xs e)
memory-element b at xs e s t below start end =
    let first : s ≡ e * b = omega arith in
    let last : t ≡ e * b + b = omega arith in
    rw (first, last) (element-range b at xs e below)

module _ (b : ℕ) (xs : List ℕ) (e s t : ℕ) (fit : FitWidth b xs) (below : e < length xs) (start : s ≡ b * e) (end : t ≡ b * e + b) where
  -- Under `Lsb0` the number of a word's bits, from the lowest on, is the word.
  pub lsb0-word : number_in false false b (lsb0_bits b xs) s t ≡ slice_index xs e
  lsb0-word =
      number-seamless false b (lsb0_bits b xs) s t
      ∙ rw map-id (ap (segment_number false) (memory-element b (λ _ i. i) xs e s t below start end) ∙ segment-number false b (slice_index xs e) ∙ mod-eq_of_lt (fit e below))

  -- Under `Msb0` the number of a word's bits, from the highest on, is the word.
  pub msb0-word : number_in true true b (msb0_bits b xs) s t ≡ slice_index xs e
  msb0-word =
      number-seamless true b (msb0_bits b xs) s t
      ∙ rw map-id (ap (segment_number true) (memory-element b (λ w i. w - 1 - i) xs e s t below start end) ∙ segment-number true b (slice_index xs e) ∙ mod-eq_of_lt (fit e below))
