-- A memory one of whose elements waits to be stored: what its windows hold, and writes into it.
use Rattle.std.specs.Prelude.{◌≡◌, ℕ, ◌+◌, ◌-◌, ◌*◌, ◌/◌, ◌%◌, ◌<◌, ◌≤◌, Bool, List, ◌++◌, length, take, drop, slice_range, slice_set, slice_index, refl}
use Rattle.std.proofs.Common.{arith, rules, sym, ◌∙◌, ap, length-take, length-drop}
use Rattle.std.proofs.Math.Nat.{mul-le-mul_left}
use Rattle.std.proofs.lemmas.List.{same_lists, places, take-append-drop, length-set, set-get_or, set-set, get_or-set_same, get_or-set_other}
use Rattle.std.proofs.lemmas.Nat.{div-add-mod', div-mul-add, mod_below}
use Rattle.bitvec_base.specs.declared.window.Window.{Window}
use Rattle.bitvec_base.specs.Lists.{shifted_end, shifted_start}
use Rattle.bitvec_base.specs.Memory.{HasWindow, Writes, element_bits, list_in}
use Rattle.bitvec_base.specs.MemoryLaws.{element_fits, length-element_bits}
use Rattle.bitvec_base.specs.PartLaws.{length-part, part-write}
use Rattle.bitvec_base.specs.Window.{write_at}
use Rattle.bitvec_base.specs.WritesLaws.{HasWindow-kept, Writes-is, Writes-join}
use Rattle.bitvec_words.specs.Elements.{elements_window, elements_window_from}
use Rattle.bitvec_words.specs.Moves.{HasSkippedElements}
use Rattle.bitvec_words.specs.FieldLaws.{Writes-none, element_of, list-across, list-both, list-front, list-whole}
use Rattle.bitvec_words.specs.TouchedLaws.{last-first, last-next, next-inside}
use Rattle.bitvec_move.proofs.SwapLaws.{Writes-exchanged, Writes-set, beside-element, beside-element_from, first_elements, next_element}
use Rattle.bitvec_words.specs.WholeLaws.{HasWindow-part, Writes-same}

-- ---- lists

-- the values from f on, moved to the start and then to the end by k
pub range-moved : (list : List Bool) (f k n e t : ℕ) → e ≡ k + n → t ≡ f + n → e ≤ length list → t ≤ length list
    → slice_range (shifted_end k (shifted_start f list)) k e ≡ slice_range list f t
unfolding shifted_end shifted_start
range-moved list f k n e t end to fits inside = same_lists _ _ (search (rules, places)) (λ i d below. grind (arith, places))

-- and what doesn't fit there, moved to the start by as many as did
pub range-moved_across : (list : List Bool) {b : ℕ} (f k n m : ℕ) {t : ℕ} → length list ≡ b → k < b → b + m ≡ k + n → t ≡ f + n → t ≤ b
    → slice_range (shifted_end k (shifted_start f list)) k b ++ slice_range (shifted_start (b - k) (shifted_start f list)) 0 m ≡ slice_range list f t
unfolding shifted_end shifted_start
range-moved_across list f k n m long below over to inside = same_lists _ _ (search (rules, places)) (λ i d h. grind (arith, places))

-- ---- the ends of two elements

-- the list has the last values of one list of b, as many as `skip`, and then those of another
pub record JoinsEnds (b skip : ℕ) (list before latest : List Bool) : Type 0 where
  pub first : take skip list ≡ drop (b - skip) before
  pub rest : drop skip list ≡ drop skip latest

pub ends-start : {b skip : ℕ} {list before : List Bool} → length list ≡ b → skip < b → before ≡ shifted_end (b - skip) list → JoinsEnds b skip list before list
unfolding shifted_end
ends-start long below is = record {
  first = rw is (same_lists _ _ (search (rules, places)) (λ i d h. grind (arith, places)));
  rest = refl;
}

pub ends-next : {b : ℕ} (skip : ℕ) {list : List Bool} (element next : List Bool) → length element ≡ b → length next ≡ b → skip < b → list ≡ write_at next 0 (drop (b - skip) element) → JoinsEnds b skip list element next
unfolding write_at
ends-next skip element next long other below is = record {
  first = rw is (same_lists _ _ (search (rules, places)) (λ i d h. grind (arith, places)));
  rest = rw is (same_lists _ _ (search (rules, places)) (λ i d h. grind (arith, places)));
}

-- the last values of a list before the first ones of another
pub ends-joined : {b skip : ℕ} {list before latest : List Bool} (element : List Bool) → length list ≡ b → length element ≡ b → skip < b → JoinsEnds b skip list before latest
    → drop (b - skip) before ++ take (b - skip) element ≡ write_at list skip (take (b - skip) element)
unfolding write_at
ends-joined element long other below ends = rw (← ends.first) (same_lists _ _ (search (rules, places)) (λ i d h. grind (arith, places)))

-- the last values, moved to the start
pub range-carried : (list : List Bool) (b k : ℕ) → length list ≡ b → k < b → slice_range (shifted_start (b - k) list) 0 k ≡ drop (b - k) list
unfolding shifted_start
range-carried list b k long below = same_lists _ _ (search (rules, places)) (λ i d h. grind (arith, places))

-- ---- places

-- the element of a window's first bit behind whole elements
pub behind-element : (b s count : ℕ) → 0 < b → (s + count * b) / b ≡ s / b + count
behind-element b s count some =
    let place = div-add-mod' s b in
    let same : s + count * b ≡ (s / b + count) * b + s % b = omega arith in
    ap (λ (m : ℕ). m / b) same ∙ div-mul-add (s / b + count) b (s % b) (mod_below s b some)

-- a window's first element
pub first-inside : (b : ℕ) (xs : List ℕ) (window : Window) → HasWindow b xs window → 0 < window.len → window.start / b < length xs
first-inside b xs window has more =
    let place = div-add-mod' window.start b in
    element_of b (window.start / b) (window.start % b) (length xs) (omega arith)

-- a memory with another element has the same windows
pub HasWindow-set : {b : ℕ} {xs : List ℕ} (e v : ℕ) {window : Window} → HasWindow b xs window → HasWindow b (slice_set xs e v) window
HasWindow-set {b} {xs} e v {window} has = HasWindow-kept (slice_set xs e v) has (length-set xs e v)

-- ---- what the windows hold, where the element p waits to be stored as the element e

-- within the element that waits
pub waiting-front : {b : ℕ} (at : ℕ → ℕ → ℕ) {xs : List ℕ} {window : Window} (p : ℕ) → 0 < b → HasWindow b xs window → 0 < window.len
    → window.start % b + window.len ≤ b
    → take window.len (shifted_start (window.start % b) (element_bits b at p)) ≡ list_in b at (slice_set xs (window.start / b) p) window
waiting-front {b} at {xs} {window} p some has more fits =
    let e : ℕ = window.start / b in
    let all = list-front at some (HasWindow-set e p has) more fits in
    rw (get_or-set_same xs e p 0 (first-inside b xs window has more)) at all

-- within it and the next one
pub waiting-across : {b : ℕ} (at : ℕ → ℕ → ℕ) {xs : List ℕ} {window : Window} (p : ℕ) → 0 < b → HasWindow b xs window → 0 < window.len
    → window.len ≤ b → b < window.start % b + window.len
    → take window.len (drop (window.start % b) (element_bits b at p) ++ take (window.start % b) (element_bits b at (slice_index xs (window.start / b + 1))))
    ≡ list_in b at (slice_set xs (window.start / b) p) window
waiting-across {b} at {xs} {window} p some has more fits over =
    let e : ℕ = window.start / b in
    let all = list-across at some (HasWindow-set e p has) fits over in
    rw (get_or-set_same xs e p 0 (first-inside b xs window has more), get_or-set_other xs e (e + 1) p 0 (λ same. omega arith)) at all

-- an element's width of bits
pub waiting-both : (b : ℕ) (at : ℕ → ℕ → ℕ) (xs : List ℕ) (e skip p : ℕ) → skip < b → e + 1 < length xs
    → drop skip (element_bits b at p) ++ take skip (element_bits b at (slice_index xs (e + 1)))
    ≡ list_in b at (slice_set xs e p) (record { start = e * b + skip; len = b })
waiting-both b at xs e skip p below next =
    let kept = length-set xs e p in
    let all = sym (list-both b at (slice_set xs e p) e skip below (omega arith)) in
    rw (get_or-set_same xs e p 0 (omega arith), get_or-set_other xs e (e + 1) p 0 (λ same. omega arith)) at all

-- ---- writes

-- the element that waits takes these bits
waiting-one : (b : ℕ) (at : ℕ → ℕ → ℕ) (xs : List ℕ) (e skip end p w : ℕ) (list : List Bool) → 0 < b → e < length xs → skip ≤ end → end ≤ b → length list ≡ end - skip
    → element_bits b at w ≡ write_at (element_bits b at p) skip list
    → Writes b at (slice_set xs e p) (slice_set xs e w) (record { start = e * b + skip; len = end - skip }) list
waiting-one b at xs e skip end p w list some inside order fits long wrote =
    let kept = length-set xs e p in
    let bits : element_bits b at w ≡ write_at (element_bits b at (slice_index (slice_set xs e p) e)) skip list = rw (get_or-set_same xs e p 0 inside) wrote in
    let written = part-write b at (slice_set xs e p) e skip end w list some (omega arith) order fits long bits in
    record { bits = rw (set-set xs e p w) at written; long = long; elements = length-set xs e w ∙ sym kept }

pub waiting-inside : {b : ℕ} {at : ℕ → ℕ → ℕ} {xs : List ℕ} {window : Window} {end : ℕ} (p v w : ℕ) → 0 < b → HasWindow b xs window → 0 < window.len
    → end ≡ window.start % b + window.len → end ≤ b
    → element_bits b at w ≡ write_at (element_bits b at p) (window.start % b) (slice_range (element_bits b at v) (window.start % b) end)
    → Writes b at (slice_set xs (window.start / b) p) (slice_set xs ((window.start + window.len - 1) / b) w) window
    (slice_range (element_bits b at v) (window.start % b) end)
waiting-inside {b} {at} {xs} {window} {end} p v w some has more is fits wrote =
    let place = div-add-mod' window.start b in
    rw (last-first b window.start window.len some more (omega arith))
    (Writes-same (record { start = window.start / b * b + window.start % b; len = end - window.start % b }) window (sym place) (omega arith)
    (waiting-one b at xs (window.start / b) (window.start % b) end p w _ some (first-inside b xs window has more) (omega arith) fits
    (length-part b at v (window.start % b) end fits) wrote))

-- it is stored with other bits at its end, and the next one waits with m other bits at its start
pub waiting-two : (b : ℕ) (at : ℕ → ℕ → ℕ) (xs : List ℕ) (e skip n m p w u : ℕ) (list other : List Bool) → 0 < b → HasWindow b xs (record { start = e * b + skip; len = n })
    → e + 1 < length xs → skip < b → b + m ≡ skip + n → m ≤ b → length list ≡ b - skip → length other ≡ m
    → element_bits b at w ≡ write_at (element_bits b at p) skip list → element_bits b at u ≡ write_at (element_bits b at (slice_index xs (e + 1))) 0 other
    → Writes b at (slice_set xs e p) (slice_set (slice_set xs e w) (e + 1) u) (record { start = e * b + skip; len = n }) (list ++ other)
waiting-two b at xs e skip n m p w u list other some has next below over fits long other_long wrote wrote_next =
    let first = waiting-one b at xs e skip b p w list some (omega arith) (omega arith) (omega arith) long wrote in
    let kept = set-get_or (slice_set xs e w) (e + 1) 0 in
    let there = get_or-set_other xs e (e + 1) w 0 (λ same. omega arith) in
    let size = length-set xs e w in
    let second = rw kept at (waiting-one b at (slice_set xs e w) (e + 1) 0 m (slice_index (slice_set xs e w) (e + 1)) u other some (omega arith) (omega arith) fits (omega arith) (rw there wrote_next)) in
    Writes-join
    (HasWindow-set e p has) refl (omega arith) (omega arith) first second

pub waiting-beyond : {b : ℕ} {at : ℕ → ℕ → ℕ} {xs : List ℕ} {window : Window} (m p v w t u : ℕ) → 0 < b → HasWindow b xs window
    → b + m ≡ window.start % b + window.len → window.len ≤ b → b < window.start % b + window.len
    → element_bits b at w ≡ write_at (element_bits b at p) (window.start % b) (slice_range (element_bits b at v) (window.start % b) b)
    → element_bits b at u ≡ write_at (element_bits b at (slice_index xs (window.start / b + 1))) 0 (slice_range (element_bits b at t) 0 m)
    → Writes b at (slice_set xs (window.start / b) p) (slice_set (slice_set xs (window.start / b) w) ((window.start + window.len - 1) / b) u) window
    (slice_range (element_bits b at v) (window.start % b) b ++ slice_range (element_bits b at t) 0 m)
waiting-beyond {b} {at} {xs} {window} m p v w t u some has is fits over wrote wrote_next =
    let place = div-add-mod' window.start b in
    let head = mod_below window.start b some in
    let has' : HasWindow b xs (record { start = window.start / b * b + window.start % b; len = window.len }) = rw place has in
    rw (last-next b window.start window.len some fits over)
    (Writes-same (record { start = window.start / b * b + window.start % b; len = window.len }) window (sym place) refl
    (waiting-two b at xs (window.start / b) (window.start % b) window.len m p w u _ _ some has' (next-inside b xs window has over) head
    is (omega arith) (length-part b at v (window.start % b) b (omega arith)) (let long = length-part b at t 0 m (omega arith) in omega arith) wrote wrote_next))

-- ---- whole elements exchanged with the bits from an index of an element on

-- none
pub across-none : {b : ℕ} {at : ℕ → ℕ → ℕ} {old xs : List ℕ} {first source skip count : ℕ} (p : ℕ) → HasSkippedElements b old xs first source skip count
    → Writes b at (slice_set xs source p) (slice_set xs (source + 0) p) (elements_window_from b source skip 0) (list_in b at old (elements_window b first 0))
across-none {b} {at} {old} {xs} {first} {source} {skip} p skipped =
    let has = skipped.span.beside in
    let nothing : 0 * b ≡ 0 = omega arith in
    let same : source + 0 ≡ source = omega arith in
    let here : HasWindow b xs (elements_window_from b source skip 0) = record { fits = has.fits; within = record { start = has.within.start; len = omega arith } } in
    rw same
    (Writes-none at old (elements_window b first 0) (HasWindow-set source p here) nothing nothing)

-- the element behind the next one that is exchanged
pub across-next : {b : ℕ} {at : ℕ → ℕ → ℕ} {old xs : List ℕ} (ys : List ℕ) {first source skip count : ℕ} (step p q : ℕ) {list : List Bool} → HasSkippedElements b old xs first source skip count → step < count
    → Writes b at (slice_set xs source p) (slice_set ys (source + step) q) (elements_window_from b source skip step) list
    → source + step + 1 < length ys
across-next {b} {xs = xs} ys {source = source} {skip} step p q skipped more before =
    let has = skipped.span.beside in
    let some = skipped.inside in
    let order = mul-le-mul_left b more in
    let now = length-set ys (source + step) q in
    let old = length-set xs source p in
    let inside : source + step + 1 < length xs = element_of b (source + step + 1) (skip - 1) (length xs) (omega arith) in
    omega arith

first_bits : (b : ℕ) (xs : List ℕ) (source skip count step p : ℕ) → HasWindow b xs (elements_window_from b source skip count) → step < count
    → HasWindow b (slice_set xs source p) (elements_window_from b source skip (step + 1))
first_bits b xs source skip count step p has more =
    let order = mul-le-mul_left b more in
    HasWindow-set source p (HasWindow-part (elements_window_from b source skip (step + 1)) has (omega arith) (omega arith))

-- one more
pub across-element : {b : ℕ} {at : ℕ → ℕ → ℕ} {old mid xs : List ℕ} (ys : List ℕ) {first source skip count : ℕ} (step p q v : ℕ) {list : List Bool} → 0 < b
    → HasSkippedElements b old xs first source skip count → step < count
    → element_bits b at v ≡ drop skip (element_bits b at q) ++ take skip (element_bits b at (slice_index ys (source + step + 1)))
    → Writes b at old mid (elements_window b first step) (list_in b at (slice_set xs source p) (elements_window_from b source skip step))
    → Writes b at (slice_set xs source p) (slice_set ys (source + step) q) (elements_window_from b source skip step) list
    → Writes b at old (slice_set mid (first + step) v) (elements_window b first (step + 1))
    (list_in b at (slice_set xs source p) (elements_window_from b source skip (step + 1)))
across-element {b} {at} {old} {mid} {xs} ys {first} {source} {skip} {count} step p q v {list} some skipped more joined before kept =
    let has = skipped.span.window in
    Writes-exchanged (slice_set ys (source + step) q) list
    (first_elements first count step has more) (first_bits b xs source skip count step p skipped.span.beside more)
    (beside-element b first step) (beside-element_from b source skip step) before
    (Writes-is
    (Writes-set b at mid (first + step) v some (next_element mid first count step some has more before.elements))
    (joined ∙ waiting-both b at ys (source + step) skip q skipped.bound (across-next ys step p q skipped more kept)))
    kept

pub across-bits : {b : ℕ} {at : ℕ → ℕ → ℕ} {old mid xs : List ℕ} (ys : List ℕ) {first source skip count : ℕ} (step p q w u : ℕ) → 0 < b
    → HasSkippedElements b old xs first source skip count → step < count
    → element_bits b at w ≡ write_at (element_bits b at q) skip (take (b - skip) (element_bits b at (slice_index mid (first + step))))
    → element_bits b at u ≡ write_at (element_bits b at (slice_index ys (source + step + 1))) 0 (drop (b - skip) (element_bits b at (slice_index mid (first + step))))
    → Writes b at old mid (elements_window b first step) (list_in b at (slice_set xs source p) (elements_window_from b source skip step))
    → Writes b at (slice_set xs source p) (slice_set ys (source + step) q) (elements_window_from b source skip step)
    (list_in b at old (elements_window b first step))
    → Writes b at (slice_set xs source p) (slice_set (slice_set ys (source + step) w) (source + (step + 1)) u) (elements_window_from b source skip (step + 1))
    (list_in b at old (elements_window b first (step + 1)))
across-bits {b} {at} {old} {mid} {xs} ys {first} {source} {skip} {count} step p q w u some skipped more stored waits kept before =
    let has = skipped.span.window in
    let its = skipped.span.beside in
    let below = skipped.bound in
    let element = element_bits b at (slice_index mid (first + step)) in
    let long = length-element_bits b at (slice_index mid (first + step)) in
    let next = across-next ys step p q skipped more before in
    let place : source + (step + 1) ≡ source + step + 1 = omega arith in
    let now = length-set ys (source + step) q in
    let old_long = length-set xs source p in
    let size : b * length ys ≡ b * length xs = ap (λ (n : ℕ). b * n) (omega arith) in
    let fit = element_fits b (source + step + 1) (length ys) next in
    let here : HasWindow b ys (record { start = (source + step) * b + skip; len = b }) =
    record { fits = omega arith; within = record { start = omega arith; len = omega arith } } in
    rw place
    (Writes-exchanged mid _
    (first_bits b xs source skip count step p its more) (first_elements first count step has more)
    (beside-element_from b source skip step) (beside-element b first step) before
    (Writes-is
    (waiting-two b at ys (source + step) skip b skip q w u (take (b - skip) element) (drop (b - skip) element) some here next below (omega arith) (omega arith)
    (omega (arith, length-take (b - skip) element)) (omega (arith, length-drop (b - skip) element)) stored waits)
    (take-append-drop (b - skip) element
    ∙ sym (list-whole b at mid (first + step) (next_element mid first count step some has more kept.elements))))
    kept)
