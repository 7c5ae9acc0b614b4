-- The parts that a window is cut into lie in its memory, and are the window, one after the other.
use Rattle.std.specs.Prelude.{◌≡◌, ℕ, ◌+◌, ◌-◌, ◌*◌, ◌/◌, ◌%◌, ◌<◌, ◌≤◌, Bool, List, [], ◌++◌, Option, None, Some, IfSome, length, map, slice_range, refl}
use Rattle.std.proofs.Common.{arith, sym, ◌∙◌, ap, ⊎_elim}
use Rattle.std.proofs.Math.Nat.{add-mul, lt_of_mul-lt-mul_right, mul-le-mul_right}
use Rattle.std.proofs.lemmas.Bool.Decides.{eqb_tells}
use Rattle.std.proofs.lemmas.Nat.{div-add-mod', mod_below, div_below}
use Rattle.std.proofs.lemmas.Option.{IfSome_then}
use Rattle.bitvec_base.specs.declared.part.Part.{Part}
use Rattle.bitvec_base.specs.declared.window.Window.{Window}
use Rattle.bitvec_base.specs.Memory.{memory_bits, list_in, HasWindow}
use Rattle.bitvec_base.specs.MemoryLaws.{memory-range, length-memory_bits}
use Rattle.bitvec_base.specs.PartLaws.{part-range}
use Rattle.bitvec_base.specs.Parts.{first_part_of, last_part_of, part_window}
use Rattle.bitvec_base.specs.SliceLaws.{range-join, range-map, range-none, range-same}
use Rattle.bitvec_base.specs.Window.{window_of}
use Rattle.bitvec_domain.specs.Cuts.{cut_of, cut_across, IsCutWithin, IsHeadWithin, IsPartWithin}
use Rattle.bitvec_domain.specs.Domains.{bits_if, bits_of_pieces, part_in, part_in_if, pieces_in}
use Rattle.bitvec_domain.specs.declared.cut.Cut.{Cut}
use Rattle.bitvec_domain.specs.declared.cut.Cut.TheVariants.{Inside, Across}

-- The bits of a part of a memory, and no bits where there is no part.
abbrev pub part_bits_if : ℕ → (ℕ → ℕ → ℕ) → List ℕ → Option Part → List Bool
part_bits_if b at xs None = []
part_bits_if b at xs (Some part) = list_in b at xs (part_window b part)

-- The bits of all parts of a cut, one part after the other.
abbrev pub cut_bits : ℕ → (ℕ → ℕ → ℕ) → List ℕ → Cut → List Bool
cut_bits b at xs (Inside part) = list_in b at xs (part_window b part)
cut_bits b at xs (Across head start end tail) =
    part_bits_if b at xs head ++ (memory_bits b at (slice_range xs start end) ++ part_bits_if b at xs tail)

-- The cut lies in the memory, and the bits of its parts, one after the other, are those of the window.
pub record IsCutOf (b : ℕ) (at : ℕ → ℕ → ℕ) (xs : List ℕ) (window : Window) (cut : Cut) : Type 0 where
  pub within : IsCutWithin b (length xs) cut
  pub bits : cut_bits b at xs cut ≡ list_in b at xs window

-- whole elements that begin in the element p, or where it ends, don't begin behind it
start-below : (b start p u : ℕ) → start * b ≤ p * b + u → u < b → start ≤ p
start-below b start p u begins below = let next = add-mul p 1 b in let before : start < p + 1 = lt_of_mul-lt-mul_right b (omega arith) in omega arith

module _ (b : ℕ) (at : ℕ → ℕ → ℕ) (xs : List ℕ) (window : Window) (some : 0 < b) (has : HasWindow b xs window) where
  -- the whole elements begin at the place start * b, where the head ends, and end where the tail begins
  joined : (head tail : Option Part) (start end : ℕ) → window.start ≤ start * b → start ≤ end → end * b ≤ window.start + window.len
      → part_bits_if b at xs head ≡ slice_range (memory_bits b at xs) window.start (start * b) → part_bits_if b at xs tail ≡ slice_range (memory_bits b at xs) (end * b) (window.start + window.len)
      → cut_bits b at xs (Across head start end tail) ≡ list_in b at xs window
  unfolding window_of
  joined head tail start end low order high before behind =
      let memory = memory_bits b at xs in
      let long = length-memory_bits b at xs in
      let lies = has.within.start in
      let len = has.within.len in
      let rows = mul-le-mul_right {m = start} {n = end} b order in
      let fits : end ≤ length xs = start-below b end (length xs) 0 (omega arith) some in
      rw (before, memory-range b at xs start end some order fits, behind)
      (ap (λ (l : List Bool). slice_range memory window.start (start * b) ++ l) (range-join memory (start * b) (end * b) (window.start + window.len) rows high (omega arith))
      ∙ range-join memory window.start (start * b) (window.start + window.len) low (omega arith) (omega arith))

  across : (head : Option Part) (start : ℕ) → 0 < window.len → window.start ≤ start * b → start * b ≤ window.start + window.len → IfSome head (IsHeadWithin b (length xs) start)
      → part_bits_if b at xs head ≡ slice_range (memory_bits b at xs) window.start (start * b) → IsCutOf b at xs window (cut_across b head start (last_part_of b window))
  unfolding window_of
  across head start more low room is before =
      let memory = memory_bits b at xs in
      let last = window.start + (window.len - 1) in
      let place = div-add-mod' last b in
      let high = mod_below last b some in
      let lies = has.within.start in
      let len = has.within.len in
      let row : last / b < length xs = div_below last b (length xs) some (omega arith) in
      let next = add-mul (last / b) 1 b in
      ⊎_elim
      (λ h. let whole = h.1 in
      let order = start-below b start (last / b + 1) 0 (omega arith) some in
      rw h.0 (record {
        within = (is, order, omega arith, tt);
        bits = joined head None start (last / b + 1) low order (omega arith) before (sym (range-none memory _ _ (omega arith)));
      }))
      (λ h. let part = h.1 in
      let order = start-below b start (last / b) (last % b + 1) (omega arith) (omega arith) in
      let rows = mul-le-mul_right {m = start} {n = last / b} b order in
      rw h.0 (record {
        within = (is, order, omega arith, record { within = record { element = row; order = omega arith; bound = omega arith }; start = omega arith; next = refl });
        bits = joined head (Some (last_part_of b window)) start (last / b) low order (omega arith) before (range-same memory _ _ _ _ (omega arith) (omega arith));
      }))
      (eqb_tells (last % b + 1) b)

  -- A window that lies in a memory is what its cut's parts are together.
  pub cut_is : IsCutOf b at xs window (cut_of b window)
  unfolding window_of
  cut_is =
      let memory = memory_bits b at xs in
      let first = first_part_of b window in
      let row = window.start / b in
      let place = div-add-mod' window.start b in
      let low = mod_below window.start b some in
      let next = add-mul row 1 b in
      let lies = has.within.start in
      let len = has.within.len in
      ⊎_elim
      (λ none. let empty = none.1 in
      let fits : row ≤ length xs = start-below b row (length xs) 0 (omega arith) some in
      rw none.0 (record {
        within = (tt, omega arith, fits, tt);
        bits = ap (λ (l : List Bool). l ++ []) (memory-range b at xs row row some (omega arith) fits ∙ range-none memory (row * b) (row * b) (omega arith)) ∙ sym (range-none memory window.start (window.start + window.len) (omega arith));
      }))
      (λ h. let more : 0 < window.len = omega (arith, h.1) in
      let there : row < length xs = div_below window.start b (length xs) some (omega arith) in
      rw h.0 (⊎_elim
      (λ edge. rw edge.0 (let from = edge.1 in across None row more (omega arith) (omega arith) tt (sym (range-none memory _ _ (omega arith)))))
      (λ inner. rw inner.0 (let from = inner.1 in ⊎_elim
      (λ whole. rw whole.0 (let to = whole.1 in across (Some first) (row + 1) more (omega arith) (omega arith)
      (record { within = record { element = there; order = omega arith; bound = omega arith }; end = to; next = refl }) (range-same memory _ _ _ _ (omega arith) (omega arith))))
      (λ part. rw part.0 (record { within = record { element = there; order = omega arith; bound = omega arith }; bits = range-same memory _ _ _ _ (omega arith) (omega arith) }))
      (eqb_tells first.to b)))
      (eqb_tells first.from 0)))
      (eqb_tells window.len 0)

-- ---- the pieces of elements that contracts see

module _ {T : Type 0} (b : ℕ) (at : ℕ → ℕ → ℕ) (value : T → ℕ) (xs : List T) where
  -- The bits of a part of an element are those of its window.
  pub part-bits : (part : Part) → IsPartWithin b (length (map value xs)) part → (part_in b at value xs part).bits ≡ list_in b at (map value xs) (part_window b part)
  unfolding window_of
  part-bits part within =
      let order = within.order in
      part-range b at (map value xs) part.element part.from part.to within.element within.bound ∙ range-same (memory_bits b at (map value xs)) _ _ _ _ refl (omega arith)

  part_if-bits : (part : Option Part) → IfSome part (IsPartWithin b (length (map value xs))) → bits_if b at value (part_in_if b at value xs part) ≡ part_bits_if b at (map value xs) part
  part_if-bits None within = refl
  part_if-bits (Some part) within = part-bits part within

  parts-bits : (c : Cut) → IsCutWithin b (length (map value xs)) c → bits_of_pieces b at value (pieces_in b at value xs c) ≡ cut_bits b at (map value xs) c
  parts-bits (Inside part) within = part-bits part within
  parts-bits (Across before start end after) within =
      rw (part_if-bits before (IfSome_then before within.0 (λ part is. is.within)), range-map value xs start end, part_if-bits after (IfSome_then after within.3 (λ part is. is.within))) refl

  -- The pieces into which a window is cut have the window's bits, one piece after the other.
  pub pieces-bits : (window : Window) → 0 < b → HasWindow b (map value xs) window → bits_of_pieces b at value (pieces_in b at value xs (cut_of b window)) ≡ list_in b at (map value xs) window
  pieces-bits window some has = let is = cut_is b at (map value xs) window some has in parts-bits (cut_of b window) is.within ∙ is.bits
