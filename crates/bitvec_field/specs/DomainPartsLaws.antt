-- The parts of a domain are the segments of its bits: both cut them at the edges of elements.
use Rattle.std.specs.Prelude.{◌≡◌, ℕ, zero, suc, ◌+◌, ◌-◌, ◌*◌, ◌/◌, ◌%◌, ◌<◌, ◌≤◌, Bool, List, [], ◌∷◌, ◌++◌, Option, None, Some, IfSome, drop, length, map, slice_index, slice_range, take, refl}
use Rattle.std.proofs.Common.{arith, sym, ◌∙◌, ap, ⊎_elim}
use Rattle.std.proofs.Math.Nat.{add-mul, lt_of_mul-lt-mul_right, mul-le-mul_right}
use Rattle.std.proofs.lemmas.Bool.Decides.{eqb_tells}
use Rattle.std.proofs.lemmas.Simd.{map-map}
use Rattle.std.proofs.lemmas.Nat.{div-add-mod', mod-mul-add, mod_below}
use Rattle.std.proofs.lemmas.Option.{IfSome_then}
use Rattle.bitvec_segments.specs.Segments.{segments}
use Rattle.bitvec_segments.specs.SegmentsLaws.{first_len, segments-first}
use Rattle.bitvec_slice.specs.Domains.{IsDomain}
use Rattle.bitvec_slice.specs.Seen.{Seen}
use Rattle.bitvec_slice.specs.Showing.{ShowsElements}
use Rattle.bitvec_base.specs.Memory.{HasWindow, element_bits, list_in, memory_bits}
use Rattle.bitvec_base.specs.MemoryLaws.{element-range, length-memory_bits}
use Rattle.bitvec_base.specs.Parts.{first_part_of, last_part_of, part_window}
use Rattle.bitvec_base.specs.SliceLaws.{range-front, range-from_start, range-map, range-none, range-same, range-to_end}
use Rattle.bitvec_base.specs.Window.{window_of}
use Rattle.bitvec_base.specs.WriteLaws.{length-slice_range, range-range}
use Rattle.bitvec_base.specs.declared.part.Part.{Part}
use Rattle.bitvec_base.specs.declared.window.Window.{Window}
use Rattle.bitvec_domain.specs.CutLaws.{cut_is, part-bits}
use Rattle.bitvec_domain.specs.Cuts.{IsCutWithin, IsPartWithin, cut_across, cut_of}
use Rattle.bitvec_domain.specs.Domains.{DomainPieces, part_in_if, pieces_in}
use Rattle.bitvec_domain.specs.declared.cut.Cut.{Cut}
use Rattle.bitvec_domain.specs.declared.cut.Cut.TheVariants.{Inside, Across}
use Rattle.bitvec_field.specs.DomainParts.{lists_of_pieces, part_list_if}

-- ---- the segments of some places of a memory

module _ (b : ℕ) (memory : List Bool) where
  -- of those from s up to, without, e
  abbrev cut_places : ℕ → ℕ → List (List Bool)
  cut_places s e = segments b s (slice_range memory s e)

  places-none : (s e : ℕ) → e ≤ s → cut_places s e ≡ []
  unfolding segments
  places-none s e none = ap (λ (l : List Bool). segments b s l) (range-none memory s e none)

  places-next : (s e k : ℕ) → 0 < b → s < e → e ≤ length memory → k ≡ first_len b s (e - s) → cut_places s e ≡ slice_range memory s (s + k) ∷ cut_places (s + k) e
  places-next s e k some more fits is =
      let list = slice_range memory s e in
      let long = length-slice_range memory s e fits in
      let below = mod_below s b some in
      let first : take k list ≡ slice_range memory s (s + k) =
      sym (range-from_start list k k refl) ∙ range-range memory s e 0 k (omega arith) fits ∙ range-same memory (s + 0) (s + k) s (s + k) (omega arith) refl in
      let rest : drop k list ≡ slice_range memory (s + k) e =
      sym (range-to_end list k (e - s) (omega arith)) ∙ range-range memory s e k (e - s) (omega arith) fits ∙ range-same memory (s + k) (s + (e - s)) (s + k) e refl (omega arith) in
      segments-first b s list k some (omega arith) (rw long is) ∙ (λ i. first i ∷ segments b (s + k) (rest i))

  -- the last ones, which stand in one element
  places-last : (s e : ℕ) → 0 < b → s < e → e ≤ length memory → s % b + (e - s) ≤ b → cut_places s e ≡ slice_range memory s e ∷ []
  places-last s e some more fits one =
      let all : s + (e - s) ≡ e = omega arith in
      places-next s e (e - s) some more fits (omega arith) ∙ (λ i. slice_range memory s (all i) ∷ places-none (s + (e - s)) e (omega arith) i)

-- ---- those of whole elements

-- the bits of the elements from `start` up to, without, `end`, a list each
abbrev lists : ℕ → (ℕ → ℕ → ℕ) → List ℕ → ℕ → ℕ → List (List Bool)
lists b at xs start end = map (element_bits b at) (slice_range xs start end)

module _ (b : ℕ) (at : ℕ → ℕ → ℕ) (xs : List ℕ) (some : 0 < b) where
  next_whole : (n i e : ℕ) → (i + n) * b ≤ e → e ≤ b * length xs → cut_places b (memory_bits b at xs) (i * b) e ≡ lists b at xs i (i + n) ++ cut_places b (memory_bits b at xs) ((i + n) * b) e
  next_whole zero i e bound fits =
      let none = range-none xs i (i + 0) (omega arith) in
      let same : i + 0 ≡ i = omega arith in
      λ j. map (element_bits b at) (sym none j) ++ cut_places b (memory_bits b at xs) (sym same j * b) e
  next_whole (suc n) i e bound fits =
      let long = length-memory_bits b at xs in
      let next = add-mul i 1 b in
      let far = add-mul i (suc n) b in
      let more = add-mul n 1 b in
      let wide = add-mul (length xs) 1 b in
      let within : i + suc n < length xs + 1 = lt_of_mul-lt-mul_right b (omega arith) in
      let there : i < length xs = lt_of_mul-lt-mul_right b (omega arith) in
      let edge : (i * b) % b ≡ 0 = ap (λ (m : ℕ). m % b) (let plain : i * b ≡ i * b + 0 = omega arith in plain) ∙ mod-mul-add i b 0 some in
      let place : i * b + b ≡ (i + 1) * b = omega arith in
      let end : i + 1 + n ≡ i + suc n = omega arith in
      let front = range-front xs i (i + suc n) 0 (omega arith) (omega arith) in
      places-next b (memory_bits b at xs) (i * b) e b some (omega arith) (omega arith) (omega arith)
      ∙ (λ j. element-range b at xs i there j ∷ cut_places b (memory_bits b at xs) (place j) e)
      ∙ ap (λ (l : List (List Bool)). element_bits b at (slice_index xs i) ∷ l) (next_whole n (i + 1) e (rw end bound) fits)
      ∙ (λ j. map (element_bits b at) (slice_index xs i ∷ slice_range xs (i + 1) (end j)) ++ cut_places b (memory_bits b at xs) (end j * b) e)
      ∙ (λ j. map (element_bits b at) (front j) ++ cut_places b (memory_bits b at xs) ((i + suc n) * b) e)

  places-whole : (start end e : ℕ) → start ≤ end → end * b ≤ e → e ≤ b * length xs → cut_places b (memory_bits b at xs) (start * b) e ≡ lists b at xs start end ++ cut_places b (memory_bits b at xs) (end * b) e
  places-whole start end e order bound fits =
      let to : start + (end - start) ≡ end = omega arith in
      next_whole (end - start) start e (rw to bound) fits ∙ (λ j. lists b at xs start (to j) ++ cut_places b (memory_bits b at xs) (to j * b) e)

-- ---- those of what a window is cut into

-- the lists of the parts of a cut, by the numbers of the elements
abbrev lists_if : ℕ → (ℕ → ℕ → ℕ) → List ℕ → Option Part → List (List Bool)
lists_if b at xs None = []
lists_if b at xs (Some part) = list_in b at xs (part_window b part) ∷ []

abbrev cut_lists : ℕ → (ℕ → ℕ → ℕ) → List ℕ → Cut → List (List Bool)
cut_lists b at xs (Inside part) = list_in b at xs (part_window b part) ∷ []
cut_lists b at xs (Across head start end tail) = lists_if b at xs head ++ (lists b at xs start end ++ lists_if b at xs tail)

module _ (b : ℕ) (at : ℕ → ℕ → ℕ) (xs : List ℕ) (window : Window) (some : 0 < b) (has : HasWindow b xs window) where
  abbrev end_place : ℕ
  end_place = window.start + window.len

  -- the lists of the head, where there is one, begin those of the window, and the others are those from the whole element `start` on
  across : (head : Option Part) (start : ℕ) → 0 < window.len → window.start ≤ start * b → start * b ≤ end_place
      → lists_if b at xs head ++ cut_places b (memory_bits b at xs) (start * b) end_place ≡ cut_places b (memory_bits b at xs) window.start end_place
      → cut_lists b at xs (cut_across b head start (last_part_of b window)) ≡ cut_places b (memory_bits b at xs) window.start end_place
  unfolding window_of
  across head start more low room before =
      let bits = memory_bits b at xs in
      let long = length-memory_bits b at xs in
      let last = window.start + (window.len - 1) in
      let place = div-add-mod' last b in
      let high = mod_below last b some in
      let lies = has.within.start in
      let len = has.within.len in
      let next = add-mul (last / b) 1 b in
      let from_start : ((end : ℕ) (rest : List (List Bool)) → start ≤ end → end * b ≤ end_place → rest ≡ cut_places b bits (end * b) end_place
      → lists_if b at xs head ++ (lists b at xs start end ++ rest) ≡ cut_places b bits window.start end_place) =
      λ end rest order fits is.
      ap (λ (l : List (List Bool)). lists_if b at xs head ++ (lists b at xs start end ++ l)) is
      ∙ ap (λ (l : List (List Bool)). lists_if b at xs head ++ l) (sym (places-whole b at xs some start end end_place order fits (omega arith)))
      ∙ before in
      ⊎_elim
      (λ h. let whole = h.1 in
      let order : start < last / b + 1 + 1 = lt_of_mul-lt-mul_right b (let after = add-mul (last / b + 1) 1 b in omega arith) in
      rw h.0 (from_start (last / b + 1) [] (omega arith) (omega arith) (sym (places-none b bits _ _ (omega arith)))))
      (λ h. let part = h.1 in
      let order : start < last / b + 1 = lt_of_mul-lt-mul_right b (omega arith) in
      let rows = mul-le-mul_right {m = start} {n = last / b} b (omega arith) in
      let edge : (last / b * b) % b ≡ 0 = ap (λ (m : ℕ). m % b) (let plain : last / b * b ≡ last / b * b + 0 = omega arith in plain) ∙ mod-mul-add (last / b) b 0 some in
      let places = part_window b (last_part_of b window) in
      let tail = range-same bits places.start (places.start + places.len) (last / b * b) end_place (omega arith) (omega arith) in
      rw h.0 (from_start (last / b) (lists_if b at xs (Some (last_part_of b window))) (omega arith) (omega arith)
      ((λ i. tail i ∷ []) ∙ sym (places-last b bits (last / b * b) end_place some (omega arith) (omega arith) (omega arith)))))
      (eqb_tells (last % b + 1) b)

  cut-segments : cut_lists b at xs (cut_of b window) ≡ segments b window.start (list_in b at xs window)
  unfolding window_of
  cut-segments =
      let bits = memory_bits b at xs in
      let long = length-memory_bits b at xs in
      let first = first_part_of b window in
      let places = part_window b first in
      let row = window.start / b in
      let place = div-add-mod' window.start b in
      let low = mod_below window.start b some in
      let next = add-mul row 1 b in
      let lies = has.within.start in
      let len = has.within.len in
      ⊎_elim
      (λ none. let empty = none.1 in
      rw none.0 (ap (λ (l : List ℕ). map (element_bits b at) l ++ []) (range-none xs row row (omega arith)) ∙ sym (places-none b bits window.start end_place (omega arith))))
      (λ h. let more : 0 < window.len = omega (arith, h.1) in
      rw h.0 (⊎_elim
      (λ edge. rw edge.0 (let from = edge.1 in
      let begins : row * b ≡ window.start = omega arith in
      across None row more (omega arith) (omega arith) (λ i. cut_places b bits (begins i) end_place)))
      (λ inner. rw inner.0 (let from = inner.1 in ⊎_elim
      (λ whole. rw whole.0 (let to = whole.1 in
      let head = range-same bits places.start (places.start + places.len) window.start (window.start + (b - window.start % b)) (omega arith) (omega arith) in
      let behind : (row + 1) * b ≡ window.start + (b - window.start % b) = omega arith in
      across (Some first) (row + 1) more (omega arith) (omega arith)
      ((λ i. head i ∷ cut_places b bits (behind i) end_place) ∙ sym (places-next b bits window.start end_place (b - window.start % b) some (omega arith) (omega arith) (omega arith)))))
      (λ part. rw part.0 (let to = part.1 in
      let inside = range-same bits places.start (places.start + places.len) window.start end_place (omega arith) (omega arith) in
      (λ i. inside i ∷ []) ∙ sym (places-last b bits window.start end_place some (omega arith) (omega arith) (omega arith))))
      (eqb_tells first.to b)))
      (eqb_tells first.from 0)))
      (eqb_tells window.len 0)

-- ---- of the pieces of elements that contracts see

module _ {T : Type 0} (b : ℕ) (at : ℕ → ℕ → ℕ) (value : T → ℕ) (xs : List T) where
  part_if-list : (part : Option Part) → IfSome part (IsPartWithin b (length (map value xs))) → part_list_if (part_in_if b at value xs part) ≡ lists_if b at (map value xs) part
  part_if-list None within = refl
  part_if-list (Some part) within = λ i. part-bits b at value xs part within i ∷ []

  body-lists : (start end : ℕ) → map (λ (element : T). element_bits b at (value element)) (slice_range xs start end) ≡ lists b at (map value xs) start end
  body-lists start end = sym (map-map (element_bits b at) value (slice_range xs start end)) ∙ ap (map (element_bits b at)) (range-map value xs start end)

  pieces-lists : (c : Cut) → IsCutWithin b (length (map value xs)) c → lists_of_pieces b at value (pieces_in b at value xs c) ≡ cut_lists b at (map value xs) c
  pieces-lists (Inside part) within = λ i. part-bits b at value xs part within i ∷ []
  pieces-lists (Across before start end after) within =
      let head = part_if-list before (IfSome_then before within.0 (λ part is. is.within)) in
      let tail = part_if-list after (IfSome_then after within.3 (λ part is. is.within)) in
      λ i. head i ++ (body-lists start end i ++ tail i)

module _ {T : Type 0} (b : ℕ) (at : ℕ → ℕ → ℕ) (value : T → ℕ) (view : Seen T) where
  -- The bits of a domain's parts, element by element, are the segments of the view's bits.
  pub domain-segments : (pieces : DomainPieces T) → 0 < b → ShowsElements b at value view → IsDomain b at value view pieces
      → lists_of_pieces b at value pieces ≡ segments b view.window.start view.bits
  domain-segments pieces some shows is =
      let xs = map value view.elements in
      let cut = cut_is b at xs view.window some shows.has in
      ap (lists_of_pieces b at value) is.parts
      ∙ pieces-lists b at value view.elements (cut_of b view.window) cut.within
      ∙ cut-segments b at xs view.window some shows.has
      ∙ ap (segments b view.window.start) (sym shows.bits)
