-- What is kept: what is loaded, and after each turn what it leaves.
use Rattle.std.specs.Prelude.{◌≡◌, ◌≢◌, ℕ, ◌+◌, ◌-◌, ◌^◌, ◌<◌, ◌≤◌, zero, suc, min, Bool, true, false, List, [], ◌∷◌, length, map, slice_index_or, bit_and}
use Rattle.std.specs.Int.{bit_at, trailing_zeros, w64}
use Rattle.std.proofs.Common.{arith, sym, ◌∙◌, ap, ⊎_elim}
use Rattle.std.proofs.lemmas.Bool.{cases_eq, cases_lt}
use Rattle.std.proofs.lemmas.List.{places}
use Rattle.std.proofs.lemmas.Nat.{and_le_l}
use Rattle.std.proofs.lemmas.Nat.Bits.{bit_at-trailing_zeros, bit_at-zero}
use Rattle.bitvec_base.specs.declared.window.Window.{Window}
use Rattle.bitvec_base.specs.FoundLaws.{bit-set, set-bit}
use Rattle.bitvec_base.specs.Memory.{HasWindow, element_bits, list_in, memory_bits}
use Rattle.bitvec_base.specs.Window.{window_range}
use Rattle.bitvec_base.specs.WindowLaws.{get-window, window-past}
use Rattle.bitvec_base.specs.WritesLaws.{HasWindow-range, within-list}
use Rattle.bitvec_words.specs.Front.{IsFront}
use Rattle.bitvec_places.specs.declared.rest.Rest.{Rest}
use Rattle.bitvec_places.specs.Places.{places_in}
use Rattle.bitvec_places.proofs.PlacesLaws.{places-next, places-none}
use Rattle.bitvec_cells.specs.Sought.{Shows}
use Rattle.bitvec_words.specs.ShortWindow.{padded}
use Rattle.bitvec_places.specs.Kept.{Keeps}
use Rattle.bitvec_places.specs.declared.kept.Kept.{Kept}
use Rattle.bitvec_places.specs.WordOnes.{order_ones, word_ones}
use Rattle.bitvec_places.proofs.OrderOnesLemmas.{shows-turned, turned-fits, turned-is, turned-ones, turned_word}
use Rattle.bitvec_places.proofs.LowestLemmas.{lowest-cleared, lowest-others}
use Rattle.bitvec_places.proofs.OnesLemmas.{ones-lowest, ones-none}

-- ---- a loaded word

get-padded : (b : ℕ) (list : List Bool) (i : ℕ) → i < b → slice_index_or (padded b list) i false ≡ slice_index_or list i false
unfolding padded
get-padded b list i below = grind (arith, places)

module _ {b : ℕ} {at : ℕ → ℕ → ℕ} {xs : List ℕ} {window : Window} (rest : Rest) {word : ℕ} (seen : ℕ) {count : ℕ} (has : HasWindow b xs window) (some : rest.front < rest.back) (bound : rest.back ≤ window.len)
    (front : IsFront b at xs (window_range window rest.front rest.back) word count) (first : element_bits 64 (λ b i. i) seen ≡ element_bits 64 at word) where
  abbrev part : Window
  part = window_range (window_range window rest.front rest.back) 0 count

  bit_seen : (i : ℕ) → i < 64 → slice_index_or (element_bits 64 (λ b i. i) seen) i false ≡ slice_index_or (list_in b at xs part) i false
  bit_seen i below = ap (λ (l : List Bool). slice_index_or l i false) (first ∙ front.bits) ∙ get-padded 64 (list_in b at xs part) i below

  there : (i : ℕ) → i < count → slice_index_or (element_bits 64 (λ b i. i) seen) i false ≡ slice_index_or (list_in b at xs window) (rest.front + i) false
  there i below =
      let most = front.most in
      let within = front.within in
      let place : window.start + rest.front + 0 + i ≡ window.start + (rest.front + i) = omega arith in
      bit_seen i (omega arith)
      ∙ get-window (memory_bits b at xs) part i false (omega arith)
      ∙ ap (λ (n : ℕ). slice_index_or (memory_bits b at xs) n false) place
      ∙ sym (get-window (memory_bits b at xs) window (rest.front + i) false (omega arith))

  past : (i : ℕ) → count ≤ i → i < 64 → slice_index_or (element_bits 64 (λ b i. i) seen) i false ≡ false
  past i behind below =
      let held = HasWindow-range 0 count (HasWindow-range rest.front rest.back has (omega arith) bound) (omega arith) front.within in
      bit_seen i below ∙ window-past (memory_bits b at xs) part i false (within-list at held) (omega arith)

  -- where the ones are wanted
  pub shows-ones : Shows 64 (λ b i. i) seen seen 0 count true
  shows-ones =
      record {
        has = λ i low high bit. bit;
        low = λ i below set. omega arith;
        high = λ i below set. ⊎_elim (λ (h : i < count). h) (λ (behind : count ≤ i). let clear = past i behind below in absurd cc) (cases_lt i count);
        bit = λ i below set. set;
      }

  pub kept-loaded : (want : Bool) (m : ℕ) → Shows 64 (λ b i. i) seen m 0 count want → Keeps want (list_in b at xs window) rest (record { ones = m; base = rest.front; edge = rest.front + count })
  kept-loaded want m shows =
      let most = front.most in
      let within = front.within in
      record {
        order = omega arith;
        width = omega arith;
        has = λ k low high below bit.
            let place : rest.front + (k - rest.front) ≡ k = omega arith in
            (low, set-bit 64 (λ b i. i) m (k - rest.front) (omega arith) (shows.has (k - rest.front) (omega arith) (omega arith) (there (k - rest.front) (omega arith) ∙ ap (λ (n : ℕ). slice_index_or (list_in b at xs window) n false) place ∙ bit)));
        inside = λ i below set. let h = shows.high i below (bit-set 64 (λ b i. i) m i below set) in (omega arith, omega arith, omega arith);
        bit = λ i below set. let on = bit-set 64 (λ b i. i) m i below set in sym (there i (shows.high i below on)) ∙ shows.bit i below on;
      }

-- ---- turns

no_ones : (n i : ℕ) → n ≡ 0 → bit_at n i ≢ 1
no_ones n i none set = let clear = ap (λ (m : ℕ). bit_at m i) none ∙ bit_at-zero i in omega arith

module _ (want : Bool) (list : List Bool) (rest : Rest) (kept : Kept) (keeps : Keeps want list rest kept) where
  -- the next word, where nothing is left of this one
  pub kept-passed : kept.ones ≡ 0 → (next : Kept) → Keeps want list (record { front = kept.edge; back = rest.back }) next → Keeps want list rest next
  kept-passed none next later =
      let order = keeps.order in
      let further = later.order in
      record {
        order = omega arith;
        width = later.width;
        has = λ k low high below bit.
            ⊎_elim (λ (passed : k < kept.edge). let here = keeps.has k low high passed bit in absurd (no_ones kept.ones (k - kept.base) none here.1))
            (λ (on : kept.edge ≤ k). later.has k on high below bit) (cases_lt k kept.edge);
        inside = λ i below set. let on = later.inside i below set in (omega arith, on.1, on.2);
        bit = later.bit;
      }

  -- none is left
  pub none-left : kept.ones ≡ 0 → rest.back ≤ kept.edge → places_in want list rest.front rest.back ≡ []
  none-left none past =
      places-none want list rest.front rest.back (λ k h bit. let here = keeps.has (rest.front + k) (omega arith) (omega arith) (omega arith) bit in no_ones kept.ones (rest.front + k - kept.base) none here.1)

  -- the ones in a part of the rest
  kept-part : (left : Rest) (m : ℕ) → rest.front ≤ left.front → left.front ≤ kept.edge → left.back ≤ rest.back
      → ((i : ℕ) → i < 64 → bit_at m i ≡ 1 → (bit_at kept.ones i ≡ 1) × (left.front ≤ kept.base + i) × (kept.base + i < left.back))
      → ((i : ℕ) → i < 64 → bit_at kept.ones i ≡ 1 → left.front ≤ kept.base + i → kept.base + i < left.back → bit_at m i ≡ 1)
      → Keeps want list left (record kept { ones = m })
  kept-part left m low order high were stay =
      let width = keeps.width in
      record {
        order = order;
        width = width;
        has = λ k from to below bit. let here = keeps.has k (omega arith) (omega arith) below bit in let after = here.0 in (here.0, stay (k - kept.base) (omega arith) here.1 (omega arith) (omega arith));
        inside = λ i below set. let was = were i below set in (was.1, was.2, (keeps.inside i below was.0).2);
        bit = λ i below set. keeps.bit i below (were i below set).0;
      }

  -- the first that is kept is the first that is left
  module _ (some : kept.ones ≢ 0) (fits : kept.ones < 2 ^ 64) where
    abbrev pub found : ℕ
    found = trailing_zeros w64 kept.ones

    lowest : (found < 64) × (bit_at kept.ones found ≡ 1) × ((i : ℕ) → i < found → bit_at kept.ones i ≡ 0)
    lowest = bit_at-trailing_zeros w64 kept.ones (omega arith) fits

    pub found-inside : (rest.front ≤ kept.base + found) × (kept.base + found < rest.back) × (kept.base + found < kept.edge)
    found-inside = keeps.inside found lowest.0 lowest.1

    pub found-taken : places_in want list rest.front rest.back ≡ (kept.base + found) ∷ places_in want list (kept.base + found + 1) rest.back
    found-taken =
        let at = found-inside in
        places-next want list rest.front (kept.base + found) rest.back at.0 at.1
        (λ k h bit. let here = keeps.has (rest.front + k) (omega arith) (omega arith) (omega arith) bit in let after = here.0 in let clear = lowest.2 (rest.front + k - kept.base) (omega arith) in omega arith)
        (keeps.bit found lowest.0 lowest.1)

    pub kept-taken : Keeps want list (record { front = kept.base + found + 1; back = rest.back }) (record kept { ones = bit_and kept.ones (kept.ones - 1) })
    kept-taken =
        let at = found-inside in
        let clear = lowest-cleared kept.ones found lowest.1 lowest.2 in
        let others = lowest-others kept.ones found lowest.1 lowest.2 in
        kept-part (record { front = kept.base + found + 1; back = rest.back }) _ (omega arith) (omega arith) (omega arith)
        (λ i below left.
        let apart : i ≢ found = λ same. let gone = ap (bit_at (bit_and kept.ones (kept.ones - 1))) same in omega arith in
        let was = sym (others i apart) ∙ left in
        let behind = keeps.inside i below was in
        let none = λ (h : i < found). lowest.2 i h in
        (was, ⊎_elim (λ (h : i < found). let off = none h in absurd (omega arith)) (λ (h : found ≤ i). omega arith) (cases_lt i found), behind.1))
        (λ i below set low high. others i (omega arith) ∙ set)

  -- what is left of it where the rest ends earlier
  pub kept-ended : (left : Rest) (m : ℕ) → left.front ≡ rest.front → left.back ≤ rest.back → Shows 64 (λ b i. i) kept.ones m 0 (min (left.back - kept.base) 64) true → Keeps want list left (record kept { ones = m })
  kept-ended left m front back shows =
      let order = keeps.order in
      kept-part left m (omega arith) (omega arith) back
      (λ i below set.
      let on = bit-set 64 (λ b i. i) m i below set in
      let was = set-bit 64 (λ b i. i) kept.ones i below (shows.bit i below on) in
      let high = shows.high i below on in
      let from = keeps.inside i below was in
      (was, omega arith, omega arith))
      (λ i below set low high. set-bit 64 (λ b i. i) m i below (shows.has i (omega arith) (omega arith) (bit-set 64 (λ b i. i) kept.ones i below set)))

-- ---- a whole word

ended_word : {want : Bool} {list : List Bool} {rest : Rest} {kept : Kept} → Keeps want list rest kept → rest.back ≤ kept.edge → kept.ones ≡ 0 → places_in want list rest.front rest.back ≡ map (λ place. kept.base + place) (word_ones kept.ones)
ended_word {want} {list} {rest} {kept} keeps past none =
    none-left want list rest kept keeps none past ∙ ap (map (λ place. kept.base + place)) (sym (ones-none kept.ones none))

-- one that has the rest up to its end has all of its places, of which there are at most n
word_places : (n : ℕ) {want : Bool} {list : List Bool} {rest : Rest} {kept : Kept} → Keeps want list rest kept → rest.back ≤ kept.edge → kept.ones < 2 ^ 64 → length (word_ones kept.ones) ≤ n → places_in want list rest.front rest.back ≡ map (λ place. kept.base + place) (word_ones kept.ones)
word_places zero {want} {list} {rest} {kept} keeps past fits few =
    ⊎_elim (λ (none : kept.ones ≡ 0). ended_word keeps past none)
    (λ (some : kept.ones ≢ 0). let long = ap length (ones-lowest kept.ones some fits) in absurd (omega arith)) (cases_eq kept.ones 0)
word_places (suc n) {want} {list} {rest} {kept} keeps past fits few =
    ⊎_elim (λ (none : kept.ones ≡ 0). ended_word keeps past none)
    (λ (some : kept.ones ≢ 0).
    let lowest = ones-lowest kept.ones some fits in
    let long = ap length lowest in
    let less = and_le_l kept.ones (kept.ones - 1) in
    found-taken want list rest kept keeps some fits
    ∙ ap (λ (l : List ℕ). (kept.base + trailing_zeros w64 kept.ones) ∷ l)
    (word_places n (kept-taken want list rest kept keeps some fits) past (omega arith) (omega arith))
    ∙ ap (map (λ place. kept.base + place)) (sym lowest))
    (cases_eq kept.ones 0)

module _ (want : Bool) (list : List Bool) (rest : Rest) (kept : Kept) (keeps : Keeps want list rest kept) where
  -- the places of the rest up to the word's end
  pub kept-places : kept.ones < 2 ^ 64 → kept.edge ≤ rest.back → places_in want list rest.front kept.edge ≡ map (λ place. kept.base + place) (word_ones kept.ones)
  kept-places fits within =
      let order = keeps.order in
      let cut = kept-part want list rest kept keeps (record { front = rest.front; back = kept.edge }) kept.ones (omega arith) order within
      (λ i below set. let at = keeps.inside i below set in (set, at.0, at.2)) (λ i below set low high. set) in
      word_places (length (word_ones kept.ones)) cut (omega arith) fits (omega arith)

-- the places of a rest's first bits, which were loaded as a word, of which the ones of `m` are the wanted
module _ {b : ℕ} {at : ℕ → ℕ → ℕ} {xs : List ℕ} {window : Window} (rest : Rest) {word count : ℕ} (has : HasWindow b xs window) (some : rest.front < rest.back) (bound : rest.back ≤ window.len)
    (front : IsFront b at xs (window_range window rest.front rest.back) word count) where
  front-places : (want : Bool) (m : ℕ) → Shows 64 (λ b i. i) (turned_word at word) (turned_word at m) 0 count want → places_in want (list_in b at xs window) rest.front (rest.front + count) ≡ map (λ place. rest.front + place) (order_ones at m)
  front-places want m shows =
      let within = front.within in
      let keeps = kept-loaded rest (turned_word at word) has some bound front (turned-is at word) want (turned_word at m) shows in
      kept-places want (list_in b at xs window) rest (record { ones = turned_word at m; base = rest.front; edge = rest.front + count }) keeps (turned-fits at m) (omega arith)
      ∙ ap (map (λ place. rest.front + place)) (turned-ones at m (turned_word at m) (turned-is at m))

  pub front-ones : places_in true (list_in b at xs window) rest.front (rest.front + count) ≡ map (λ place. rest.front + place) (order_ones at word)
  front-ones = front-places true word (shows-ones rest (turned_word at word) has some bound front (turned-is at word))

  pub front-zeros : (m : ℕ) → Shows 64 at word m 0 count false → places_in false (list_in b at xs window) rest.front (rest.front + count) ≡ map (λ place. rest.front + place) (order_ones at m)
  front-zeros m shows = front-places false m (shows-turned shows)
