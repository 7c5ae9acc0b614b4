-- Which places of two words are left, bit after bit of the needle.
use Rattle.std.specs.Prelude.{◌≡◌, ◌≢◌, ℕ, ◌+◌, ◌-◌, ◌^◌, ◌<◌, ◌≤◌, ◌&&◌, not, Bool, true, false, List, ◌++◌, length, replicate, slice_index_or, bit_and, drop, take, refl}
use Rattle.std.proofs.Common.{arith, sym, ◌∙◌, ap, ⊎_elim}
use Rattle.std.proofs.lemmas.Bool.{cases_lt}
use Rattle.std.proofs.lemmas.List.{get_or_append_left, get_or-append_right, get_or-map, get_or-replicate, places}
use Rattle.std.proofs.Math.ListN.{get_or-eq_default}
use Rattle.bitvec_base.specs.FoundLaws.{bit-clear, bit-set, masked-none, masked-one}
use Rattle.bitvec_base.specs.Lists.{shifted_start}
use Rattle.bitvec_base.specs.ListsLaws.{get-combined}
use Rattle.bitvec_base.specs.Memory.{element_bits}
use Rattle.bitvec_base.specs.MemoryLaws.{length-element_bits}
use Rattle.bitvec_base.specs.Order.{Permutes}
use Rattle.bitvec_base.specs.PartLaws.{element-all, element-none}
use Rattle.bitvec_cells.specs.ElementLaws.{element-flipped}
use Rattle.bitvec_words.specs.ElementLaws.{element-and}
use Rattle.bitvec_elements.specs.BitsFrom.{HasBitsFrom}
use Rattle.bitvec_within.specs.Candidates.{HasStarts}

-- ---- the bit of a word that a mask has

module _ (at : ℕ → ℕ → ℕ) (word i : ℕ) (below : i < 64) where
  pub bit-tested : bit_and word (2 ^ at 64 i) ≢ 0 → slice_index_or (element_bits 64 at word) i false ≡ true
  bit-tested told = bit-set 64 at word i below (masked-one word (at 64 i) (bit_and word (2 ^ at 64 i)) refl told)

  pub bit-not_tested : bit_and word (2 ^ at 64 i) ≡ 0 → slice_index_or (element_bits 64 at word) i false ≡ false
  bit-not_tested told = bit-clear 64 at word i below (masked-none word (at 64 i) (bit_and word (2 ^ at 64 i)) refl told)

-- no bit of 0 is 1
pub no-bit : (at : ℕ → ℕ → ℕ) (word i : ℕ) → i < 64 → word ≡ 0 → slice_index_or (element_bits 64 at word) i false ≡ false
no-bit at word i below none =
    ap (λ (n : ℕ). slice_index_or (element_bits 64 at n) i false) none
    ∙ ap (λ (l : List Bool). slice_index_or l i false) (element-none 64 at)
    ∙ get_or-replicate 64 i false false below

-- ---- words that have bits of a list

-- two words side by side have the bits of the list
pub beside : (at : ℕ → ℕ → ℕ) (list : List Bool) (low high from : ℕ) → HasBitsFrom at low list from → HasBitsFrom at high list (from + 64) → (i : ℕ) → i < 128 → slice_index_or (element_bits 64 at low ++ element_bits 64 at high) i false ≡ slice_index_or list (from + i) false
beside at list low high from low-has high-has i below =
    let long = length-element_bits 64 at low in
    ⊎_elim (λ (first : i < 64). get_or_append_left (element_bits 64 at low) (element_bits 64 at high) false i (omega arith) ∙ low-has i first)
    (λ (second : 64 ≤ i).
    let place : from + 64 + (i - 64) ≡ from + i = omega arith in
    get_or-append_right (element_bits 64 at low) (element_bits 64 at high) 64 i false long second
    ∙ high-has (i - 64) (omega arith)
    ∙ ap (λ (n : ℕ). slice_index_or list n false) place)
    (cases_lt i 64)

-- a list without its first bits, with others behind it
get-moved : (front behind : List Bool) (by k : ℕ) → by ≤ length front → k < length front → slice_index_or (drop by front ++ take by behind) k false ≡ slice_index_or (front ++ behind) (by + k) false
get-moved front behind by k part inside =
    ⊎_elim (λ (first : by + k < length front). grind (arith, places)) (λ (second : length front ≤ by + k). grind (arith, places)) (cases_lt (by + k) (length front))

module _ (at : ℕ → ℕ → ℕ) where
  pub bits-own : (word : ℕ) → HasBitsFrom at word (element_bits 64 at word) 0
  bits-own word k below = let place : k ≡ 0 + k = omega arith in ap (λ (n : ℕ). slice_index_or (element_bits 64 at word) n false) place

  pub bits-first : (low high : ℕ) → HasBitsFrom at low (element_bits 64 at low ++ element_bits 64 at high) 0
  bits-first low high k below = grind (arith, places, length-element_bits)

  pub bits-second : (low high : ℕ) → HasBitsFrom at high (element_bits 64 at low ++ element_bits 64 at high) 64
  bits-second low high k below = grind (arith, places, length-element_bits)

  pub bits-joined : (low high by new : ℕ) → by ≤ 64 → element_bits 64 at new ≡ drop by (element_bits 64 at low) ++ take by (element_bits 64 at high) → HasBitsFrom at new (element_bits 64 at low ++ element_bits 64 at high) by
  bits-joined low high by new part is k below =
      let long = length-element_bits 64 at low in
      ap (λ (l : List Bool). slice_index_or l k false) is ∙ get-moved (element_bits 64 at low) (element_bits 64 at high) by k (omega arith) (omega arith)

  pub bits-moved : (list : List Bool) (step by front behind new : ℕ) → by ≤ 64 → HasBitsFrom at front list step → HasBitsFrom at behind list (step + 64) → element_bits 64 at new ≡ drop by (element_bits 64 at front) ++ take by (element_bits 64 at behind) → HasBitsFrom at new list (step + by)
  bits-moved list step by front behind new part here after is k below =
      let place : step + (by + k) ≡ step + by + k = omega arith in
      bits-joined front behind by new part is k below ∙ beside at list front behind step here after (by + k) (omega arith) ∙ ap (λ (n : ℕ). slice_index_or list n false) place

  pub bits-passed : (list : List Bool) (step by to front new : ℕ) → to ≡ step + by → by ≤ 64 → HasBitsFrom at front list step → length list ≤ step + 64 → element_bits 64 at new ≡ shifted_start by (element_bits 64 at front) → HasBitsFrom at new list to
  unfolding shifted_start
  bits-passed list step by to front new sum part here short is k below =
      let long = length-element_bits 64 at front in
      ap (λ (l : List Bool). slice_index_or l k false) is
      ∙ ⊎_elim (λ (inside : by + k < 64).
      let place : step + (by + k) ≡ to + k = omega arith in
      let moved : slice_index_or (drop by (element_bits 64 at front) ++ replicate by false) k false ≡ slice_index_or (element_bits 64 at front) (by + k) false = grind (arith, places) in
      moved ∙ here (by + k) inside ∙ ap (λ (n : ℕ). slice_index_or list n false) place)
      (λ (last : 64 ≤ by + k).
      let none : slice_index_or (drop by (element_bits 64 at front) ++ replicate by false) k false ≡ false = grind (arith, places) in
      none ∙ sym (get_or-eq_default list false (omega arith)))
      (cases_lt (by + k) 64)

-- ---- the places that are left

module _ (at : ℕ → ℕ → ℕ) (p : Permutes 64 (at 64)) (low high needle : ℕ) where
  pub starts-all : HasStarts at low high needle 0 (2 ^ 64 - 1)
  starts-all i below same = ap (λ (l : List Bool). slice_index_or l i false) (element-all 64 at p) ∙ get_or-replicate 64 i true false below

  pub starts-enough : (step count starts : ℕ) → step ≤ count → HasStarts at low high needle step starts → HasStarts at low high needle count starts
  starts-enough step count starts order has i below same = has i below (λ k h. same k (omega arith))

  -- the places that two words have
  starts-both : (step count starts other : ℕ) → step ≤ count → HasStarts at low high needle step starts → HasStarts at low high needle count other → HasStarts at low high needle count (bit_and starts other)
  starts-both step count starts other order has more i below same =
      let long = length-element_bits 64 at starts in
      ap (λ (l : List Bool). slice_index_or l i false) (element-and 64 at starts other)
      ∙ get-combined ◌&&◌ (element_bits 64 at starts) (element_bits 64 at other) i false (omega arith)
      ∙ ap (λ (c : Bool). c && slice_index_or (element_bits 64 at other) i false) (has i below (λ k h. same k (omega arith)))
      ∙ more i below same

  -- one more bit is as it should be
  pub starts-next : (step starts front wanted other : ℕ) → HasStarts at low high needle step starts → HasBitsFrom at front (element_bits 64 at low ++ element_bits 64 at high) step → HasBitsFrom at wanted (element_bits 64 at needle) step
      → ((i : ℕ) → i < 64 → slice_index_or (element_bits 64 at front) i false ≡ slice_index_or (element_bits 64 at wanted) 0 false → slice_index_or (element_bits 64 at other) i false ≡ true)
      → HasStarts at low high needle (step + 1) (bit_and starts other)
  starts-next step starts front wanted other has here first alike =
      starts-both step (step + 1) starts other (omega arith) has (λ i below same.
      let place : step + i ≡ i + step = omega arith in
      let one : step + 0 ≡ step = omega arith in
      alike i below
      (here i below
      ∙ ap (λ (n : ℕ). slice_index_or (element_bits 64 at low ++ element_bits 64 at high) n false) place
      ∙ same step (omega arith)
      ∙ ap (λ (n : ℕ). slice_index_or (element_bits 64 at needle) n false) (sym one)
      ∙ sym (first 0 (omega arith))))

  -- some more bits are as they should be
  pub starts-more : (step more count starts front behind wanted other : ℕ) → step + more ≤ count → more ≤ 64 → HasStarts at low high needle step starts
      → HasBitsFrom at front (element_bits 64 at low ++ element_bits 64 at high) step → HasBitsFrom at behind (element_bits 64 at low ++ element_bits 64 at high) (step + 64) → HasBitsFrom at wanted (element_bits 64 at needle) step
      → HasStarts at front behind wanted more other → HasStarts at low high needle count (bit_and starts other)
  starts-more step more count starts front behind wanted other order part has here after first new =
      starts-both step count starts other (omega arith) has (λ i below same.
      new i below (λ k h.
      let place : step + (i + k) ≡ i + (step + k) = omega arith in
      beside at (element_bits 64 at low ++ element_bits 64 at high) front behind step here after (i + k) (omega arith)
      ∙ ap (λ (n : ℕ). slice_index_or (element_bits 64 at low ++ element_bits 64 at high) n false) place
      ∙ same (step + k) (omega arith)
      ∙ sym (first k (omega arith))))

-- a bit that is 0 is one of those in the complement
pub complement-has : (at : ℕ → ℕ → ℕ) → Permutes 64 (at 64) → (bits i : ℕ) → i < 64 → bits < 2 ^ 64 → slice_index_or (element_bits 64 at bits) i false ≡ false → slice_index_or (element_bits 64 at (2 ^ 64 - 1 - bits)) i false ≡ true
complement-has at p bits i below fits clear =
    let long = length-element_bits 64 at bits in
    ap (λ (l : List Bool). slice_index_or l i false) (element-flipped 64 at p bits fits)
    ∙ get_or-map not (element_bits 64 at bits) i false false (omega arith)
    ∙ ap not clear
