-- A search of elements some at a time, and of the elements that a window touches.
use Rattle.std.proofs.lemmas.Bool.Decides.{nat_tests}
use Rattle.std.specs.Prelude.{◌≡◌, ℕ, ◌+◌, ◌-◌, ◌*◌, ◌/◌, ◌%◌, ◌^◌, ◌<◌, ◌≤◌, if◌then◌else◌, Bool, not, nat_lt, List, ◌++◌, length, slice_index, bit_or, bit_xor, Option, Some, None, option_map, refl}
use Rattle.std.specs.Bool.{then_some}
use Rattle.std.specs.Int.{div_ceil}
use Rattle.std.specs.Option.{option_or}
use Rattle.std.proofs.Common.{arith, sym, ◌∙◌, ap, ⊎_elim, length-append}
use Rattle.std.proofs.Math.Nat.{add-mul, div-mul-le_self, lt_of_mul-lt-mul_right, mul-le-mul_left, mul_assoc}
use Rattle.std.proofs.lemmas.Bool.{cases_lt, le-ltb, lt-ltb}
use Rattle.std.proofs.lemmas.Grind.{div_ceil_times}
use Rattle.std.proofs.lemmas.Nat.{div-add-mod'}
use Rattle.bitvec_store.specs.Width.{IsWidth}
use Rattle.bitvec_store.specs.WidthLaws.{at_each_width, width_some}
use Rattle.bitvec_base.specs.Lists.{first_place}
use Rattle.bitvec_base.specs.Memory.{HasWindow, element_bits, list_in}
use Rattle.bitvec_base.specs.MemoryLaws.{length-element_bits}
use Rattle.bitvec_base.specs.Order.{Permutes}
use Rattle.bitvec_base.specs.declared.window.Window.{Window}
use Rattle.bitvec_base.specs.PlacesLaws.{first_place-append, first_place-below}
use Rattle.bitvec_base.specs.WritesLaws.{length-list, list-join}
use Rattle.bitvec_cells.specs.Cost.{first_loads, touched_count}
use Rattle.bitvec_words.specs.Elements.{elements_window}
use Rattle.bitvec_words.specs.FieldLaws.{element_of, list-whole}
use Rattle.bitvec_words.specs.SameLaws.{or_none, or_none_right}
use Rattle.bitvec_words.specs.TouchedLaws.{touched-full, touched-more, touched-whole, touched-empty}
use Rattle.bitvec_words.specs.WholeLaws.{HasWindow-part, list-empty, list-same}
use Rattle.bitvec_words.specs.Split.{Split}
use Rattle.bitvec_words.proofs.SplitLemmas.{HasWindow-behind, HasWindow-front, elements-split, split-behind, split-few, split-found, split-lacks}
use Rattle.bitvec_words.proofs.ScanLemmas.{first-lacks, first-passed, first_loads-elements}

-- ---- elements, some at a time

-- n blocks of `size` elements have so many bits
pub blocks-bits : (n size b bits : ℕ) → size * b ≡ bits → n * size * b ≡ n * bits
blocks-bits n size b bits whole = mul_assoc n size b ∙ ap (λ (k : ℕ). n * k) whole

module _ (b : ℕ) (at : ℕ → ℕ → ℕ) (xs : List ℕ) (first n : ℕ) (has : HasWindow b xs (elements_window b first n)) where
  pub HasWindow-elements : (place m : ℕ) → first ≤ place → place + m ≤ first + n → HasWindow b xs (elements_window b place m)
  HasWindow-elements place m low high =
      let start = mul-le-mul_left b low in
      let end = mul-le-mul_left b high in
      HasWindow-part (elements_window b place m) has (omega arith) (omega arith)

  pub elements-bound : 0 < b → first + n < 2 ^ 64
  elements-bound some =
      let wide = mul-le-mul_left (first + n) (let h : 1 ≤ b = omega arith in h) in
      omega arith

  -- k elements, and m behind them
  pub list-elements_join : (place next k m all : ℕ) → first ≤ place → place + all ≤ first + n → next ≡ place + k → all ≡ k + m
      → list_in b at xs (elements_window b place k) ++ list_in b at xs (elements_window b next m) ≡ list_in b at xs (elements_window b place all)
  list-elements_join place next k m all low high behind sum =
      list-join at (elements_window b place k) (elements_window b next m) (HasWindow-elements place all low high)
      refl (ap (λ (i : ℕ). i * b) behind ∙ add-mul place k b) (ap (λ (i : ℕ). i * b) sum ∙ add-mul k m b)

-- ---- the first n of some elements, and those behind them

pub record Parted (b : ℕ) (xs : List ℕ) (first count n : ℕ) : Type 0 where
  pub split : Split b (elements_window b first n) (elements_window b (first + n) (count - n)) (elements_window b first count)
  pub all : HasWindow b xs (elements_window b first count)
  pub front : HasWindow b xs (elements_window b first n)
  pub rest : HasWindow b xs (elements_window b (first + n) (count - n))
  pub within : n ≤ count
  pub few : first + count < 2 ^ 64
  pub few_bits : n * b < 2 ^ 64

pub parted : (b : ℕ) {xs : List ℕ} (first count n : ℕ) → IsWidth b → HasWindow b xs (elements_window b first count) → n ≤ count → Parted b xs first count n
parted b {xs} first count n width has order =
    let split = elements-split b first count n (width_some b width) order in
    record {
      split = split;
      all = has;
      front = HasWindow-front split has;
      rest = HasWindow-behind split has;
      within = order;
      few = elements-bound b (λ e i. i) xs first count has (width_some b width);
      few_bits = omega arith;
    }

-- in blocks of s bits
pub parted-blocks : (b s : ℕ) {xs : List ℕ} (first count : ℕ) → IsWidth b → HasWindow b xs (elements_window b first count) → Parted b xs first count (count / (s / b) * (s / b))
parted-blocks b s first count width has = parted b first count _ width has (div-mul-le_self count (s / b))

-- ---- `size` of some elements, behind `step` times as many

pub record Block (b : ℕ) (xs : List ℕ) (first count size step : ℕ) : Type 0 where
  pub next : Split b (elements_window b first (step * size)) (elements_window b (first + step * size) size) (elements_window b first ((step + 1) * size))
  pub upto : Parted b xs first count ((step + 1) * size)
  pub here : HasWindow b xs (elements_window b (first + step * size) size)
  pub few_bits : step * size * b < 2 ^ 64

pub block-at : (b size : ℕ) {xs : List ℕ} (first count step : ℕ) → IsWidth b → HasWindow b xs (elements_window b first count) → (step + 1) * size ≤ count → Block b xs first count size step
block-at b size {xs} first count step width has within =
    let upto = parted b first count ((step + 1) * size) width has within in
    let sum : (step + 1) * size - step * size ≡ size = omega arith in
    let next = rw sum at (elements-split b first ((step + 1) * size) (step * size) (width_some b width) (omega arith)) in
    record { next = next; upto = upto; here = HasWindow-behind next upto.front; few_bits = omega arith }

-- of all blocks of s bits
pub block : (b s : ℕ) {xs : List ℕ} (first count step : ℕ) → IsWidth b → HasWindow b xs (elements_window b first count) → step < count / (s / b) → Block b xs first count (s / b) step
block b s first count step width has more =
    block-at b (s / b) first count step width has (omega (arith, mul-le-mul_left (s / b) more))

-- where those before it lack the bit
module _ {b : ℕ} {xs : List ℕ} {first count size step : ℕ} (block : Block b xs first count size step) (at : ℕ → ℕ → ℕ) (want : Bool) (none : None ≡ first_place want (list_in b at xs (elements_window b first (step * size)))) where
  pub first-block_lacks : None ≡ first_place want (list_in b at xs (elements_window b (first + step * size) size)) → None ≡ first_place want (list_in b at xs (elements_window b first ((step + 1) * size)))
  first-block_lacks here = split-lacks block.next at block.upto.front want none here

  module _ (bits i : ℕ) (is : size * b ≡ bits) (here : Some i ≡ first_place want (list_in b at xs (elements_window b (first + step * size) size))) where
    pub first-block_has : Some (step * bits + i) ≡ first_place want (list_in b at xs (elements_window b first count))
    first-block_has = rw (← blocks-bits step size b bits is) (split-found block.upto.split at block.upto.all want _ (split-behind block.next at block.upto.front want _ none here))

    pub first-block_few : step * bits + i < 2 ^ 64
    first-block_few = rw (← blocks-bits step size b bits is) (split-few block.next at block.upto.front want _ none here)

-- behind all blocks of s bits, which lack the bit
module _ {b : ℕ} (s : ℕ) {xs : List ℕ} {first count i : ℕ} (parts : Parted b xs first count (count / (s / b) * (s / b))) (whole : s / b * b ≡ s) (at : ℕ → ℕ → ℕ) (want : Bool)
    (none : None ≡ first_place want (list_in b at xs (elements_window b first (count / (s / b) * (s / b)))))
    (here : Some i ≡ first_place want (list_in b at xs (elements_window b (first + count / (s / b) * (s / b)) (count - count / (s / b) * (s / b))))) where
  pub blocks-has : Some (count / (s / b) * s + i) ≡ first_place want (list_in b at xs (elements_window b first count))
  blocks-has = rw (← blocks-bits (count / (s / b)) (s / b) b s whole) (split-behind parts.split at parts.all want _ none here)

  pub blocks-few : count / (s / b) * s + i < 2 ^ 64
  blocks-few = rw (← blocks-bits (count / (s / b)) (s / b) b s whole) (split-few parts.split at parts.all want _ none here)

-- ---- what two lists lack together, each of them lacks

none_front : (front behind : Option ℕ) (n : ℕ) → None ≡ option_or front (option_map (λ j. n + j) behind) → None ≡ front
none_front front behind n is = grind arith

-- ---- two elements, or four, which are passed by together

module _ (b : ℕ) (at : ℕ → ℕ → ℕ) (p : Permutes b (at b)) (lacking : ℕ) (want : Bool) (filled : lacking ≡ (if not want then 2 ^ b - 1 else 0)) where
  lacks : (v : ℕ) → bit_xor v lacking ≡ 0 → None ≡ first_place want (element_bits b at v)
  lacks v none = first-passed b at p v lacking _ want refl none filled

  pub none-of_two : (v w : ℕ) → bit_or (bit_xor v lacking) (bit_xor w lacking) ≡ 0 → None ≡ first_place want (element_bits b at v ++ element_bits b at w)
  none-of_two v w none = first-lacks want _ _ (lacks v (or_none (bit_xor v lacking) _ none)) (lacks w (or_none_right _ _ none)) refl

  pub none-of_four : (u v w x : ℕ) → bit_or (bit_or (bit_or (bit_xor u lacking) (bit_xor v lacking)) (bit_xor w lacking)) (bit_xor x lacking) ≡ 0
      → None ≡ first_place want ((element_bits b at u ++ element_bits b at v) ++ (element_bits b at w ++ element_bits b at x))
  none-of_four u v w x none =
      let three = or_none _ _ none in
      let two = or_none _ _ three in
      first-lacks want _ _ (none-of_two u v two) (first-lacks want _ _ (lacks w (or_none_right _ _ three)) (lacks x (or_none_right (bit_or (bit_or (bit_xor u lacking) (bit_xor v lacking)) (bit_xor w lacking)) _ none)) refl) refl

pub length-two : (at : ℕ → ℕ → ℕ) (v w : ℕ) → 128 ≡ length (element_bits 64 at v ++ element_bits 64 at w)
length-two at v w = omega (arith, length-element_bits, length-append {A = Bool})

-- the elements of a block
pub block_whole : (b : ℕ) → IsWidth b → 256 / b * b ≡ 256
block_whole b w = at_each_width (λ n. 256 / n * n ≡ 256) refl refl refl refl refl b w

-- are those of four words, if they are not wider than a word
pub block_words : (b : ℕ) → IsWidth b → b ≤ 64 → 256 / b ≡ 4 * (64 / b)
block_words b w = at_each_width (λ n. n ≤ 64 → 256 / n ≡ 4 * (64 / n)) (λ _. refl) (λ _. refl) (λ _. refl) (λ _. refl) (λ narrow. absurd (omega arith)) b w

-- or two elements
pub block_pair : (b : ℕ) → IsWidth b → 64 < b → 256 / b ≡ 2
block_pair b w = at_each_width (λ n. 64 < n → 256 / n ≡ 2) (λ wide. absurd (omega arith)) (λ wide. absurd (omega arith)) (λ wide. absurd (omega arith)) (λ wide. absurd (omega arith)) (λ _. refl) b w

module _ (b : ℕ) {xs : List ℕ} (first : ℕ) (width : IsWidth b) (wide : 64 < b) (has : HasWindow b xs (elements_window b first (256 / b))) where
  pub pair-inside : first + 1 < length xs
  pair-inside = element_of b (first + 1) 0 (length xs) (omega (arith, block_pair))

  pub list-pair : (at : ℕ → ℕ → ℕ) → element_bits b at (slice_index xs first) ++ element_bits b at (slice_index xs (first + 1)) ≡ list_in b at xs (elements_window b first (256 / b))
  list-pair at =
      let inside = pair-inside in
      rw (← list-whole b at xs first (omega arith), ← list-whole b at xs (first + 1) inside)
      (list-join at (record { start = first * b; len = b }) (record { start = (first + 1) * b; len = b }) has refl (omega arith) (rw (block_pair b width wide) (omega arith)))

-- the four words
pub list-block : {b : ℕ} (at : ℕ → ℕ → ℕ) {xs : List ℕ} (first : ℕ) → IsWidth b → b ≤ 64 → HasWindow b xs (elements_window b first (256 / b))
    → (list_in b at xs (elements_window b first (64 / b)) ++ list_in b at xs (elements_window b (first + 1 * (64 / b)) (64 / b)))
    ++ (list_in b at xs (elements_window b (first + 2 * (64 / b)) (64 / b)) ++ list_in b at xs (elements_window b (first + 3 * (64 / b)) (64 / b)))
    ≡ list_in b at xs (elements_window b first (256 / b))
list-block {b} at {xs} first width narrow has =
    let e : ℕ = 64 / b in
    let all = block_words b width narrow in
    let join = list-elements_join b at xs first (256 / b) has in
    let high : ℕ = first + 2 * e in
    rw (join first (first + 1 * e) e e (2 * e) (omega arith) (omega arith) (omega arith) (omega arith), join high (first + 3 * e) e e (2 * e) (omega arith) (omega arith) (omega arith) (omega arith))
    (join first high (2 * e) (2 * e) (256 / b) (omega arith) (omega arith) refl (omega arith))

-- ---- the elements that a window touches, where it is empty or begins at one

-- what is found in a longer list is in its front, or behind it
found_front : (front behind : Option ℕ) (n i : ℕ) → ((j : ℕ) → front ≡ Some j → j < n) → Some i ≡ option_or front (option_map (λ j. n + j) behind) → then_some (nat_lt i n) i ≡ front
found_front front behind n i below is = grind (arith, nat_tests)

pub touched-ceil : (b s n : ℕ) → 0 < b → (0 < n → s % b ≡ 0) → touched_count b s n ≡ div_ceil n b
touched-ceil b s n some edge = grind (arith, touched-more b s n, touched-full b s n, touched-empty b s n, div_ceil_times n b)

module _ (b : ℕ) (at : ℕ → ℕ → ℕ) (xs : List ℕ) (window : Window) (want : Bool) (some : 0 < b) (has : HasWindow b xs window) (edge : 0 < window.len → window.start % b ≡ 0) where
  pub HasWindow-touched : HasWindow b xs (elements_window b (window.start / b) (div_ceil window.len b))
  HasWindow-touched =
      let place = div-add-mod' window.start b in
      let rounded = div_ceil_times window.len b some in
      let start = has.within.start in
      let len = has.within.len in
      ⊎_elim
      (λ (more : 0 < window.len).
      let first = edge more in
      let order : window.start / b + div_ceil window.len b < length xs + 1 = lt_of_mul-lt-mul_right b (omega arith) in
      let most = mul-le-mul_left b (let h : window.start / b + div_ceil window.len b ≤ length xs = omega arith in h) in
      record { fits = has.fits; within = record { start = omega arith; len = omega arith } })
      (λ (empty : window.len ≤ 0).
      let none : div_ceil window.len b ≡ 0 = omega arith in
      rw none (record { fits = has.fits; within = record { start = omega arith; len = omega arith } }))
      (cases_lt 0 window.len)

  -- from the place where they begin
  abbrev from_edge : Window
  from_edge = record { start = window.start / b * b; len = window.len }

  same_from_edge : list_in b at xs window ≡ list_in b at xs from_edge
  same_from_edge =
      ⊎_elim
      (λ (more : 0 < window.len).
      let first = edge more in
      list-same b at xs from_edge window (omega arith) refl)
      (λ (empty : window.len ≤ 0). list-empty b at xs window (omega arith) ∙ sym (list-empty b at xs from_edge (omega arith)))
      (cases_lt 0 window.len)

  -- what they have behind it
  abbrev rest : Window
  rest = record { start = window.start / b * b + window.len; len = div_ceil window.len b * b - window.len }

  abbrev behind : List Bool
  behind = list_in b at xs rest

  list-touched : list_in b at xs window ++ behind ≡ list_in b at xs (elements_window b (window.start / b) (div_ceil window.len b))
  list-touched =
      let rounded = div_ceil_times window.len b some in
      ap (λ (l : List Bool). l ++ behind) same_from_edge
      ∙ list-join at from_edge rest HasWindow-touched refl refl (omega arith)

  -- what is found in them is in the window, or behind it
  pub first-touched : (i : ℕ) → Some i ≡ first_place want (list_in b at xs (elements_window b (window.start / b) (div_ceil window.len b))) → then_some (nat_lt i window.len) i ≡ first_place want (list_in b at xs window)
  first-touched i here =
      let long = length-list at has in
      let parts = here ∙ ap (first_place want) (sym list-touched) ∙ first_place-append want (list_in b at xs window) behind in
      found_front (first_place want (list_in b at xs window)) (first_place want behind) window.len i
      (λ j found. let below = first_place-below want (list_in b at xs window) j found in omega arith)
      (rw long at parts)

  pub first-touched_lacks : None ≡ first_place want (list_in b at xs (elements_window b (window.start / b) (div_ceil window.len b))) → None ≡ first_place want (list_in b at xs window)
  first-touched_lacks none =
      none_front (first_place want (list_in b at xs window)) (first_place want behind) (length (list_in b at xs window))
      (none ∙ ap (first_place want) (sym list-touched) ∙ first_place-append want (list_in b at xs window) behind)

  -- loads of a search of them
  pub first-touched_loads : (i : ℕ) → Some i ≡ first_place want (list_in b at xs (elements_window b (window.start / b) (div_ceil window.len b)))
      → first_loads b (elements_window b (window.start / b) (div_ceil window.len b)) (Some i) ≤ first_loads b window (then_some (nat_lt i window.len) i)
  first-touched_loads i here =
      ⊎_elim
      (λ (less : i < window.len).
      let first = edge (omega arith) in
      let place : window.start / b * b ≡ window.start = (let parts = div-add-mod' window.start b in omega arith) in
      let inside : then_some (nat_lt i window.len) i ≡ Some i = ap (λ (here : Bool). then_some here i) (lt-ltb i window.len less) in
      rw (inside, place) (omega arith))
      (λ (more : window.len ≤ i).
      let outside : then_some (nat_lt i window.len) i ≡ None = ap (λ (here : Bool). then_some here i) (le-ltb i window.len more) in
      let most = first_loads-elements at (window.start / b) (div_ceil window.len b) want some HasWindow-touched here in
      let all = touched-ceil b window.start window.len some edge in
      rw outside (omega arith))
      (cases_lt i window.len)

  pub first-touched_all : first_loads b (elements_window b (window.start / b) (div_ceil window.len b)) None ≤ first_loads b window None
  first-touched_all = omega (arith, touched-ceil, touched-whole)
