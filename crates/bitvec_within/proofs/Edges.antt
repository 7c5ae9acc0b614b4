-- A memory that is cut at the edge of an element.
use Rattle.std.specs.Prelude.{◌≡◌, ℕ, ◌+◌, ◌-◌, ◌*◌, ◌/◌, ◌%◌, ◌<◌, ◌≤◌, Bool, List, ◌++◌, length, map, slice_range, refl}
use Rattle.std.proofs.Common.{arith, rules, sym, ◌∙◌, ap, subst, length-append}
use Rattle.std.proofs.Math.Nat.{div-add-mod, mul-add}
use Rattle.std.proofs.lemmas.List.{length-map, map-append, places, same_lists}
use Rattle.bitvec_base.specs.Memory.{HasWindow, Writes, list_in, memory_bits}
use Rattle.bitvec_base.specs.MemoryLaws.{length-memory_bits, memory-append}
use Rattle.bitvec_base.specs.Window.{window_of, window_range, write_at}
use Rattle.bitvec_base.specs.WritesLaws.{HasWindow-kept, Writes-next, Writes-range, list-range}
use Rattle.bitvec_base.specs.declared.window.Window.{Window}
use Rattle.bitvec_words.specs.WholeLaws.{window-same}
use Rattle.bitvec_within.specs.Swaps.{swapped_within}

module _ {X : Type 0} (front rest : List X) where
  -- what is read and written in one of two lists, of both
  range-in_front : (s e : ℕ) → e ≤ length front → slice_range (front ++ rest) s e ≡ slice_range front s e
  range-in_front s e fits = same_lists _ _ (search (rules, places)) (λ k d inside. grind (arith, places))

  range-in_rest : (s e : ℕ) → slice_range (front ++ rest) (length front + s) (length front + e) ≡ slice_range rest s e
  range-in_rest s e = same_lists _ _ (search (rules, places)) (λ k d inside. grind (arith, places))

  write_at-in_front : (s : ℕ) (new : List X) → s + length new ≤ length front → write_at (front ++ rest) s new ≡ write_at front s new ++ rest
  unfolding write_at
  write_at-in_front s new fits = same_lists _ _ (search (rules, places)) (λ k d inside. grind (arith, places))

  write_at-in_rest : (s : ℕ) (new : List X) → s + length new ≤ length rest → write_at (front ++ rest) (length front + s) new ≡ front ++ write_at rest s new
  unfolding write_at
  write_at-in_rest s new fits = same_lists _ _ (search (rules, places)) (λ k d inside. grind (arith, places))

module _ (b : ℕ) (at : ℕ → ℕ → ℕ) (some : 0 < b) where
  module _ (front rest : List ℕ) where
    -- a window of the first elements, and one of the others, which stands behind the first ones' bits
    abbrev behind : Window → Window
    behind window = record { start = b * length front + window.start; len = window.len }

    pub list-in_front : (window : Window) → HasWindow b front window → list_in b at (front ++ rest) window ≡ list_in b at front window
    unfolding window_of
    list-in_front window has =
        let long = length-memory_bits b at front in
        let start = has.within.start in
        let len = has.within.len in
        ap (λ (l : List Bool). slice_range l window.start (window.start + window.len)) (memory-append b at front rest some)
        ∙ range-in_front (memory_bits b at front) (memory_bits b at rest) window.start (window.start + window.len) (omega arith)

    pub list-in_rest : (window : Window) → list_in b at (front ++ rest) (behind window) ≡ list_in b at rest window
    unfolding window_of
    list-in_rest window =
        let long = length-memory_bits b at front in
        let place : b * length front + window.start ≡ length (memory_bits b at front) + window.start = omega arith in
        let end : b * length front + window.start + window.len ≡ length (memory_bits b at front) + (window.start + window.len) = omega arith in
        ap (λ (l : List Bool). slice_range l (b * length front + window.start) (b * length front + window.start + window.len)) (memory-append b at front rest some)
        ∙ ap (λ (s : ℕ). slice_range (memory_bits b at front ++ memory_bits b at rest) s (b * length front + window.start + window.len)) place
        ∙ ap (λ (e : ℕ). slice_range (memory_bits b at front ++ memory_bits b at rest) (length (memory_bits b at front) + window.start) e) end
        ∙ range-in_rest (memory_bits b at front) (memory_bits b at rest) window.start (window.start + window.len)

    pub Writes-in_front : (new : List ℕ) (window : Window) (list : List Bool) → HasWindow b front window → Writes b at front new window list → Writes b at (front ++ rest) (new ++ rest) window list
    Writes-in_front new window list has writes =
        let long = length-memory_bits b at front in
        let start = has.within.start in
        let len = has.within.len in
        let count = writes.long in
        record {
          bits = memory-append b at new rest some ∙ ap (λ (l : List Bool). l ++ memory_bits b at rest) writes.bits
              ∙ sym (write_at-in_front (memory_bits b at front) (memory_bits b at rest) window.start list (omega arith))
              ∙ ap (λ (l : List Bool). write_at l window.start list) (sym (memory-append b at front rest some));
          long = writes.long;
          elements = omega (arith, writes.elements, length-append new rest, length-append front rest);
        }

    pub Writes-in_rest : (new : List ℕ) (window : Window) (list : List Bool) → HasWindow b rest window → Writes b at rest new window list → Writes b at (front ++ rest) (front ++ new) (behind window) list
    Writes-in_rest new window list has writes =
        let long = length-memory_bits b at front in
        let all = length-memory_bits b at rest in
        let start = has.within.start in
        let len = has.within.len in
        let count = writes.long in
        let place : length (memory_bits b at front) + window.start ≡ b * length front + window.start = omega arith in
        record {
          bits = memory-append b at front new some ∙ ap (λ (l : List Bool). memory_bits b at front ++ l) writes.bits
              ∙ sym (write_at-in_rest (memory_bits b at front) (memory_bits b at rest) window.start list (omega arith))
              ∙ ap (λ (s : ℕ). write_at (memory_bits b at front ++ memory_bits b at rest) s list) place
              ∙ ap (λ (l : List Bool). write_at l (b * length front + window.start) list) (sym (memory-append b at front rest some));
          long = writes.long;
          elements = omega (arith, writes.elements, length-append front new, length-append front rest);
        }

  -- a window of each list exchanged with one of the other, both ranges of a window of all
  pub sides-swapped : (front rest left right : List ℕ) (window near far : Window) (f s n : ℕ) → HasWindow b (front ++ rest) window → HasWindow b front near → HasWindow b rest far
      → near.start ≡ window.start + f → near.len ≡ n → b * length front + far.start ≡ window.start + s → far.len ≡ n → f + n ≤ window.len → s + n ≤ window.len
      → Writes b at front left near (list_in b at rest far) → Writes b at rest right far (list_in b at front near)
      → Writes b at (front ++ rest) (left ++ right) window (swapped_within f (f + n) s (list_in b at (front ++ rest) window))
  unfolding swapped_within
  sides-swapped front rest left right window near far f s n has near-has far-has near-start near-len far-start far-len source dest first second =
      let old = front ++ rest in
      let mid = left ++ rest in
      let list = list_in b at old window in
      let near-is : near ≡ window_range window f (f + n) = window-same _ _ near-start (omega arith) in
      let far-is : behind front rest far ≡ window_range window s (s + n) = window-same _ _ far-start (omega arith) in
      let moved : behind left rest far ≡ window_range window s (s + n) = window-same _ _ (ap (λ (m : ℕ). b * m + far.start) first.elements ∙ far-start) (omega arith) in
      let near-list : list_in b at front near ≡ slice_range list f (f + n) =
      sym (list-in_front front rest near near-has) ∙ ap (list_in b at old) near-is ∙ list-range at f (f + n) has (omega arith) source in
      let far-list : list_in b at rest far ≡ slice_range list s (s + n) = sym (list-in_rest front rest far) ∙ ap (list_in b at old) far-is ∙ list-range at s (s + n) has (omega arith) dest in
      let one = subst (λ (w : Window). Writes b at old mid w (list_in b at rest far)) near-is (Writes-in_front front rest left near _ near-has first) in
      let two = subst (λ (w : Window). Writes b at mid (left ++ right) w (list_in b at front near)) moved (Writes-in_rest left rest right far _ far-has second) in
      let count : f + n - f ≡ n = omega arith in
      Writes-next (λ (l : List Bool). write_at l s (list_in b at front near)) has (Writes-range f (f + n) has (omega arith) source one)
      (Writes-range s (s + n) (HasWindow-kept mid has one.elements) (omega arith) dest two)
      (rw (near-list, far-list, count) refl)

-- the place at which the elements are cut
pub cut-place : {A : Type 0} {b bits : ℕ} (value : A → ℕ) (front : List A) (window : Window) (s : ℕ) → bits ≡ b → length front ≡ (window.start + s) / bits → b * length (map value front) + (window.start + s) % bits ≡ window.start + s
cut-place {b} {bits} value front window s same count =
    let place = window.start + s in
    ap (λ (n : ℕ). b * n + place % bits) (length-map front value ∙ count) ∙ ap (λ (n : ℕ). n * (place / bits) + place % bits) (sym same) ∙ div-add-mod place bits

-- a memory of a list of elements, cut in two
pub cut-inside : {A : Type 0} (b bits : ℕ) (value : A → ℕ) (cells front rest : List A) (window near : Window) (f s n : ℕ) → bits ≡ b → HasWindow b (map value cells) window → cells ≡ front ++ rest → length front ≡ (window.start + s) / bits
    → near ≡ window_range window f (f + n) → window.start + f + n + (window.start + s) % b ≤ window.start + s → s + n ≤ window.len
    → HasWindow b (map value front) near × HasWindow b (map value rest) (record { start = (window.start + s) % bits; len = n })
cut-inside b bits value cells front rest window near f s n same has joined count range order bound =
    let place = window.start + s in
    let remainder : place % bits ≡ place % b = ap (λ (m : ℕ). place % m) same in
    let cut = cut-place value front window s same count in
    let joint : b * length (map value cells) ≡ b * length (map value front) + b * length (map value rest) =
    ap (λ (xs : List ℕ). b * length xs) (ap (map value) joined ∙ map-append value front rest) ∙ ap (λ (m : ℕ). b * m) (length-append (map value front) (map value rest)) ∙ mul-add b (length (map value front)) (length (map value rest)) in
    let fits = has.fits in
    let start = has.within.start in
    let end = has.within.len in
    rw range (record { fits = omega arith; within = record { start = omega arith; len = omega arith } }, record { fits = omega arith; within = record { start = omega arith; len = omega arith } })
