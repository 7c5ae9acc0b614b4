-- What holds of a window by the two windows that it is split into.
use Rattle.std.specs.Prelude.{◌≡◌, ℕ, ◌+◌, ◌-◌, ◌*◌, ◌/◌, ◌%◌, ◌^◌, ◌<◌, ◌≤◌, Bool, not, List, ◌++◌, length, map, replicate, cond, count_by, slice_index, Option, Some, None, refl}
use Rattle.std.proofs.Common.{arith, sym, ◌∙◌, ap, subst}
use Rattle.std.proofs.lemmas.List.{map-append}
use Rattle.std.proofs.lemmas.List.Sums.{sum_by-append}
use Rattle.std.proofs.lemmas.Nat.{mod-mul-add}
use Rattle.std.proofs.Math.Nat.{add-mul, mul-le-mul_left}
use Rattle.bitvec_base.specs.declared.part.Part.{Part}
use Rattle.bitvec_base.specs.declared.window.Window.{Window}
use Rattle.bitvec_base.specs.Lists.{first_place, last_place}
use Rattle.bitvec_base.specs.Memory.{HasWindow, Writes, element_bits, list_in}
use Rattle.bitvec_base.specs.Parts.{HasPart, first_part_of, part_window, tail_part_of}
use Rattle.bitvec_base.specs.Window.{window_after}
use Rattle.bitvec_base.specs.WritesLaws.{Writes-is, Writes-join, length-list, list-behind, list-join}
use Rattle.bitvec_cells.specs.Cost.{first_loads, last_loads, touched_count}
use Rattle.bitvec_cells.specs.WalkLaws.{first-len, first-place}
use Rattle.bitvec_words.specs.Elements.{elements_window, whole_of}
use Rattle.bitvec_words.specs.FieldLaws.{element_of, list-whole}
use Rattle.bitvec_words.specs.FillingLaws.{replicate-parts}
use Rattle.bitvec_words.specs.Split.{IsPart, Split}
use Rattle.bitvec_words.specs.TouchedLaws.{head_edge, touched-edge, touched-one, touched-empty}
use Rattle.bitvec_words.specs.WholeLaws.{HasWindow-part}
use Rattle.bitvec_words.proofs.ScanLemmas.{first-behind, first-front, first-inside, first-lacks, last-behind, last-front, last-inside}

pub count-parts : (front rest : List Bool) {whole : List Bool} {m n : ℕ} → front ++ rest ≡ whole → m ≡ count_by (λ (bit : Bool). bit) front → n ≡ count_by (λ (bit : Bool). bit) rest → m + n ≡ count_by (λ (bit : Bool). bit) whole
count-parts front rest next first second =
    rw (first, second, ← next) (sym (sum_by-append (λ (bit : Bool). cond bit 1 0) front rest))

-- ---- a part

module _ {b : ℕ} {part : Part} (is : IsPart b part) where
  pub HasPart-is : {xs : List ℕ} → HasWindow b xs (part_window b part) → HasPart b xs part
  HasPart-is {xs} has =
      let bound = is.bound in
      record { element = element_of b part.element part.from (length xs) (omega arith); order = omega arith; bound = bound }

  pub touched-part : touched_count b (part_window b part).start (part_window b part).len ≡ 1
  touched-part = grind (arith, touched-one b (part.element * b + part.from) (part.to - part.from), mod-mul-add part.element b part.from)

-- ---- the memory's windows, and its lists

module _ {b : ℕ} {front rest window : Window} (split : Split b front rest window) where
  pub HasWindow-front : {xs : List ℕ} → HasWindow b xs window → HasWindow b xs front
  HasWindow-front {xs} has =
      HasWindow-part front has (omega arith) (omega arith)

  pub HasWindow-behind : {xs : List ℕ} → HasWindow b xs window → HasWindow b xs rest
  HasWindow-behind {xs} has =
      HasWindow-part rest has (omega arith) (omega arith)

  pub all-front : rest.len ≡ 0 → front ≡ window
  all-front none =
      let len : front.len ≡ window.len = let sum = split.sum in omega arith in
      let at_start : front ≡ record { start = window.start; len = front.len } = ap (λ (s : ℕ). record { start = s; len = front.len }) split.start in
      at_start ∙ ap (λ (n : ℕ). record { start = window.start; len = n }) len

  -- the elements that they touch
  pub touched-split : 0 < b → touched_count b window.start window.len ≡ touched_count b front.start front.len + touched_count b rest.start rest.len
  touched-split some = grind (arith, touched-edge b front.start front.len rest.len, touched-empty b rest.start rest.len, split.edge)

  -- where nothing is behind
  module _ (none : rest.len ≡ 0) where
    pub list-all : (at : ℕ → ℕ → ℕ) (xs : List ℕ) → list_in b at xs front ≡ list_in b at xs window
    list-all at xs = ap (λ (w : Window). list_in b at xs w) (all-front none)

    pub last_loads-all : (found : Option ℕ) → last_loads b front found ≡ last_loads b window found
    last_loads-all found = ap (λ (w : Window). last_loads b w found) (all-front none)

    pub Writes-all : {at : ℕ → ℕ → ℕ} {old new : List ℕ} {list : List Bool} → Writes b at old new front list → Writes b at old new window list
    Writes-all {at} {old} {new} {list} writes = subst (λ (w : Window). Writes b at old new w list) (all-front none) writes

    pub Writes-flipped_all : {at : ℕ → ℕ → ℕ} {old new : List ℕ} → Writes b at old new front (map not (list_in b at old front)) → Writes b at old new window (map not (list_in b at old window))
    Writes-flipped_all {at} {old} {new} writes = subst (λ (w : Window). Writes b at old new w (map not (list_in b at old w))) (all-front none) writes

  module _ (at : ℕ → ℕ → ℕ) {xs : List ℕ} (has : HasWindow b xs window) where
    pub list-split : list_in b at xs front ++ list_in b at xs rest ≡ list_in b at xs window
    list-split = list-join at front rest has split.start split.next split.sum

    front-long : front.len ≡ length (list_in b at xs front)
    front-long = sym (length-list at (HasWindow-front has))

    -- ---- searches

    module _ (want : Bool) where
      pub split-found : (i : ℕ) → Some i ≡ first_place want (list_in b at xs front) → Some i ≡ first_place want (list_in b at xs window)
      split-found i here = first-front want _ _ here list-split

      pub split-lacks : None ≡ first_place want (list_in b at xs front) → None ≡ first_place want (list_in b at xs rest) → None ≡ first_place want (list_in b at xs window)
      split-lacks none here = first-lacks want _ _ none here list-split

      pub split-behind : (i : ℕ) → None ≡ first_place want (list_in b at xs front) → Some i ≡ first_place want (list_in b at xs rest) → Some (front.len + i) ≡ first_place want (list_in b at xs window)
      split-behind i none here = first-behind want _ _ i none here front-long list-split

      pub split-few : (i : ℕ) → None ≡ first_place want (list_in b at xs front) → Some i ≡ first_place want (list_in b at xs rest) → front.len + i < 2 ^ 64
      split-few i none here = omega (arith, first-inside b at xs window want _ has (split-behind i none here))

      pub split-last : (i : ℕ) → Some i ≡ last_place want (list_in b at xs rest) → Some (front.len + i) ≡ last_place want (list_in b at xs window)
      split-last i here = last-behind want _ _ i here front-long list-split

      pub split-last_few : (i : ℕ) → Some i ≡ last_place want (list_in b at xs rest) → front.len + i < 2 ^ 64
      split-last_few i here = omega (arith, last-inside at want has (split-last i here) _ refl)

      pub split-last_front : (found : Option ℕ) → None ≡ last_place want (list_in b at xs rest) → found ≡ last_place want (list_in b at xs front) → found ≡ last_place want (list_in b at xs window)
      split-last_front found none here = last-front want _ _ none here list-split

    -- ---- counts

    pub split-count : (m n : ℕ) → m ≡ count_by (λ (bit : Bool). bit) (list_in b at xs front) → n ≡ count_by (λ (bit : Bool). bit) (list_in b at xs rest) → m + n ≡ count_by (λ (bit : Bool). bit) (list_in b at xs window)
    split-count m n first second = count-parts (list_in b at xs front) (list_in b at xs rest) list-split first second

  -- ---- writes

  module _ (at : ℕ → ℕ → ℕ) {old mid new : List ℕ} (has : HasWindow b old window) where
    pub Writes-split : (list other : List Bool) → Writes b at old mid front list → Writes b at mid new rest other → Writes b at old new window (list ++ other)
    Writes-split list other before after = Writes-join has split.start split.next split.sum before after

    pub Writes-filled_split : (bit : Bool) → Writes b at old mid front (replicate front.len bit) → Writes b at mid new rest (replicate rest.len bit) → Writes b at old new window (replicate window.len bit)
    Writes-filled_split bit before after = Writes-is (Writes-split _ _ before after) (replicate-parts front.len rest.len window.len bit (sym split.sum))

    -- what is behind is as it was when it is flipped
    pub Writes-flipped_split : Writes b at old mid front (map not (list_in b at old front)) → Writes b at mid new rest (map not (list_in b at mid rest)) → Writes b at old new window (map not (list_in b at old window))
    Writes-flipped_split before after =
        let kept = list-behind (HasWindow-front has) (HasWindow-behind has) (omega arith) before in
        Writes-is (Writes-split _ _ before after)
        (ap (λ (l : List Bool). map not (list_in b at old front) ++ map not l) kept ∙ sym (map-append not _ _) ∙ ap (map not) (list-split at has))

-- ---- loads of searches

module _ {b : ℕ} {front rest window : Window} (split : Split b front rest window) (some : 0 < b) where
  pub first-loads_behind : (i : ℕ) → i < rest.len → touched_count b front.start front.len + first_loads b rest (Some i) ≡ first_loads b window (Some (front.len + i))
  first-loads_behind i inside =
      let first : Window = record { start = rest.start; len = i + 1 } in
      let upto : Window = record { start = window.start; len = front.len + i + 1 } in
      let part : Split b front first upto = record { start = split.start; next = split.next; sum = omega arith; edge = λ _. split.edge (omega arith) } in
      sym (touched-split part some)

  pub last-loads_behind : (i : ℕ) → last_loads b rest (Some i) ≡ last_loads b window (Some (front.len + i))
  last-loads_behind i = grind arith

  pub last-loads_front : (found : Option ℕ) → ((i : ℕ) → found ≡ Some i → i < front.len) → touched_count b rest.start rest.len + last_loads b front found ≡ last_loads b window found
  last-loads_front None inside = let all = touched-split split some in omega arith
  last-loads_front (Some i) inside =
      let below = inside i refl in
      let start = split.start in
      let next = split.next in
      let sum = split.sum in
      let behind : Window = record { start = front.start + i; len = front.len - i } in
      let from : Window = record { start = window.start + i; len = window.len - i } in
      let part : Split b behind rest from = record { start = omega arith; next = omega arith; sum = omega arith; edge = split.edge } in
      let all = touched-split part some in
      omega arith

-- ---- where a window is split

module _ (b : ℕ) (window : Window) (some : 0 < b) (more : 0 < window.len) where
  pub head-part : IsPart b (first_part_of b window)
  head-part = let len = first-len b window some more in record { some = omega arith; bound = omega arith }

  pub head-within : (first_part_of b window).to - (first_part_of b window).from ≤ window.len
  head-within = let len = first-len b window some more in omega arith

  pub head-split : Split b (part_window b (first_part_of b window)) (window_after ((first_part_of b window).to - (first_part_of b window).from) window) window
  head-split =
      let len = first-len b window some more in
      let place = first-place b window in
      record {
        start = place;
        next = omega arith;
        sum = omega arith;
        edge = λ left. head_edge b window.start ((first_part_of b window).to - (first_part_of b window).from) window.len some (omega arith) (omega arith);
      }

  pub head-touched : touched_count b window.start window.len ≡ 1 + touched_count b (window_after ((first_part_of b window).to - (first_part_of b window).from) window).start (window_after ((first_part_of b window).to - (first_part_of b window).from) window).len
  head-touched = omega (arith, touched-split head-split some, touched-part head-part)

pub tail-split : (b : ℕ) (window : Window) → 0 < b → window.start % b ≡ 0 → Split b (whole_of b window) (part_window b (tail_part_of b window)) window
tail-split b window some edge =
    record { start = omega arith; next = omega arith; sum = omega arith; edge = λ _. mod-mul-add (window.start / b + window.len / b) b 0 some }

-- n of some elements, and those behind them
pub elements-split : (b first count n : ℕ) → 0 < b → n ≤ count → Split b (elements_window b first n) (elements_window b (first + n) (count - n)) (elements_window b first count)
elements-split b first count n some within =
    let parts : n + (count - n) ≡ count = omega arith in
    let place : (first + n) * b ≡ (first + n) * b + 0 = omega arith in
    record {
      start = refl;
      next = add-mul first n b;
      sum = ap (λ (m : ℕ). m * b) (sym parts) ∙ add-mul n (count - n) b;
      edge = λ _. ap (λ (m : ℕ). m % b) place ∙ mod-mul-add (first + n) b 0 some;
    }

-- ---- one of them, v, and those before it or behind it

module _ (b : ℕ) (at : ℕ → ℕ → ℕ) {xs : List ℕ} (first : ℕ) {count step v : ℕ} (want : Bool) (some : 0 < b) (has : HasWindow b xs (elements_window b first count)) (more : step < count) (is : v ≡ slice_index xs (first + step)) where
  list-one : element_bits b at v ≡ list_in b at xs (elements_window b (first + step) 1)
  list-one =
      let order = mul-le-mul_left b more in
      let start = has.within.start in
      let one : 1 * b ≡ b = omega arith in
      ap (element_bits b at) is ∙ sym (list-whole b at xs (first + step) (element_of b (first + step) 0 (length xs) (omega arith)))
      ∙ ap (λ (n : ℕ). list_in b at xs (record { start = (first + step) * b; len = n })) (sym one)

  upto-split : Split b (elements_window b first step) (elements_window b (first + step) 1) (elements_window b first (step + 1))
  upto-split = let one : step + 1 - step ≡ 1 = omega arith in rw one at (elements-split b first (step + 1) step some (omega arith))

  HasWindow-upto : HasWindow b xs (elements_window b first (step + 1))
  HasWindow-upto = HasWindow-front (elements-split b first count (step + 1) some (omega arith)) has

  -- those before it lack the bit
  module _ (none : None ≡ first_place want (list_in b at xs (elements_window b first step))) where
    pub first-element_lacks : None ≡ first_place want (element_bits b at v) → None ≡ first_place want (list_in b at xs (elements_window b first (step + 1)))
    first-element_lacks here = split-lacks upto-split at HasWindow-upto want none (here ∙ ap (first_place want) list-one)

    pub first-element_has : (i : ℕ) → Some i ≡ first_place want (element_bits b at v) → Some (step * b + i) ≡ first_place want (list_in b at xs (elements_window b first count))
    first-element_has i here =
        split-found (elements-split b first count (step + 1) some (omega arith)) at has want _ (split-behind upto-split at HasWindow-upto want i none (here ∙ ap (first_place want) list-one))

  -- those behind it do, from the mth on
  module _ (m : ℕ) (next : step + 1 ≡ m) (none : None ≡ last_place want (list_in b at xs (elements_window b (first + m) (count - m)))) where
    from-split : Split b (elements_window b (first + step) 1) (elements_window b (first + m) (count - m)) (elements_window b (first + step) (count - step))
    from-split =
        let place : first + step + 1 ≡ first + m = omega arith in
        let left : count - step - 1 ≡ count - m = omega arith in
        rw (place, left) at (elements-split b (first + step) (count - step) 1 some (omega arith))

    last-from : (found : Option ℕ) → found ≡ last_place want (element_bits b at v) → found ≡ last_place want (list_in b at xs (elements_window b (first + step) (count - step)))
    last-from found here =
        split-last_front from-split at (HasWindow-behind (elements-split b first count step some (omega arith)) has) want found none (here ∙ ap (last_place want) list-one)

    pub last-element_lacks : None ≡ last_place want (element_bits b at v) → None ≡ last_place want (list_in b at xs (elements_window b (first + step) (count - step)))
    last-element_lacks here = last-from None here

    pub last-element_has : (i : ℕ) → Some i ≡ last_place want (element_bits b at v) → Some (step * b + i) ≡ last_place want (list_in b at xs (elements_window b first count))
    last-element_has i here = split-last (elements-split b first count step some (omega arith)) at has want i (last-from (Some i) here)
