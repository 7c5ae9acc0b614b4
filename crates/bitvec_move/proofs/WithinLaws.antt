-- What moves to another place of the same memory, a part at a time: what is still to be read is as it was.
use Rattle.std.specs.Prelude.{zero, suc, ◌≡◌, ◌≢◌, ℕ, ◌+◌, ◌-◌, ◌*◌, ◌/◌, ◌%◌, ◌<◌, ◌≤◌, min, Bool, true, false, if◌then◌else◌, List, ◌++◌, length, take, drop, slice_range, slice_set, slice_index, refl}
use Rattle.std.proofs.Common.{arith, rules, sym, ◌∙◌, ap, inl, inr, ◌⊎◌, ⊎_elim, length-append}
use Rattle.std.proofs.lemmas.Bool.{cases_eq, cases_lt}
use Rattle.std.proofs.lemmas.Bool.Decides.{nat_tests}
use Rattle.std.proofs.lemmas.List.{same_lists, places, get_or_past}
use Rattle.std.proofs.lemmas.Nat.{div-add-mod'}
use Rattle.std.proofs.Math.Nat.{mul-le-mul_left, mul-le-mul_right}
use Rattle.bitvec_base.specs.declared.window.Window.{Window}
use Rattle.bitvec_base.specs.Memory.{HasWindow, Writes, element_bits, list_in, memory_bits}
use Rattle.bitvec_base.specs.MemoryLaws.{element_fits, length-memory_bits}
use Rattle.bitvec_base.specs.Spans.{HasSpan}
use Rattle.bitvec_base.specs.Parts.{first_part_of, part_window}
use Rattle.bitvec_base.specs.Window.{window_after, window_of, window_until, write_at}
use Rattle.bitvec_base.specs.WriteLaws.{range-write_at_before, write_at-nil}
use Rattle.bitvec_base.specs.WritesLaws.{Writes-is, Writes-join, length-list, list-behind, list-join, within-list}
use Rattle.bitvec_cells.specs.Cost.{edit_loads, read_loads, step_span, touched_count, work_steps, write_loads, write_stores}
use Rattle.bitvec_cells.specs.WalkLaws.{touched-none, touched-some}
use Rattle.bitvec_cells.specs.CostLaws.{div-sum, touched_stored}
use Rattle.bitvec_words.specs.Elements.{elements_window, elements_window_from}
use Rattle.bitvec_words.specs.FieldLaws.{Writes-none, element_of, list-both, list-whole}
use Rattle.bitvec_words.specs.TouchedLaws.{head_edge, touched-after, touched-edge, touched-first, touched-inside}
use Rattle.bitvec_words.specs.WholeLaws.{HasWindow-part, Writes-same, list-empty, list-same, touched-behind_from}
use Rattle.bitvec_words.specs.Moves.{Copies, CopiesElements, CopiesSome, HasSkippedElements, IsToward, late_words, moved_place, nth_place, waiting_place}
use Rattle.bitvec_words.specs.MovedPlaceLaws.{next-inside}
use Rattle.bitvec_move.proofs.SwapLaws.{Writes-set, next_element}

-- ---- writes side by side, the second place first

write_at-ahead : {X : Type 0} (list : List X) (s : ℕ) (x y : List X) → s + length x + length y ≤ length list → write_at (write_at list (s + length x) y) s x ≡ write_at list s (x ++ y)
unfolding write_at
write_at-ahead list s x y fits = same_lists _ _ (search (rules, places)) (λ k d inside. grind (arith, places))

pub Writes-join_back : (b : ℕ) (at : ℕ → ℕ → ℕ) (old mid new : List ℕ) (first second whole : Window) {list other : List Bool} → HasWindow b old whole → first.start ≡ whole.start → second.start ≡ first.start + first.len → whole.len ≡ first.len + second.len
    → Writes b at old mid second other → Writes b at mid new first list → Writes b at old new whole (list ++ other)
Writes-join_back b at old mid new first second whole {list} {other} has start next len before after =
    let within = within-list at has in
    let list-long = after.long in
    let other-long = before.long in
    let place : second.start ≡ whole.start + length list = omega arith in
    record {
      bits = after.bits
          ∙ ap (λ (l : List Bool). write_at l first.start list) before.bits
          ∙ rw (place, start) (write_at-ahead (memory_bits b at old) whole.start list other (omega arith));
      long = omega (arith, length-append list other);
      elements = after.elements ∙ before.elements;
    }

-- two parts of a list, written over one another or side by side, from the first one on or from the last one back
over-next : (list other : List Bool) (s a t n m : ℕ) → t ≤ n → n ≤ t + m → s + (t + m) ≤ length list → a + (t + m) ≤ length other
    → write_at (write_at list s (slice_range other a (a + n))) (s + t) (slice_range other (a + t) (a + t + m)) ≡ write_at list s (slice_range other a (a + (t + m)))
unfolding write_at
over-next list other s a t n m meet short fits inside = same_lists _ _ (search (rules, places)) (λ k d below. grind (arith, places))

over-back : (list other : List Bool) (s a t n m : ℕ) → t ≤ n → n ≤ t + m → s + (t + m) ≤ length list → a + (t + m) ≤ length other
    → write_at (write_at list (s + t) (slice_range other (a + t) (a + t + m))) s (slice_range other a (a + n)) ≡ write_at list s (slice_range other a (a + (t + m)))
unfolding write_at
over-back list other s a t n m meet short fits inside = same_lists _ _ (search (rules, places)) (λ k d below. grind (arith, places))

-- ---- what a write leaves

-- what stands before a written window stays
pub list-ahead : {b : ℕ} {at : ℕ → ℕ → ℕ} {old new : List ℕ} {window : Window} (ahead : Window) {list : List Bool} → HasWindow b old window → ahead.start + ahead.len ≤ window.start → Writes b at old new window list → list_in b at new ahead ≡ list_in b at old ahead
unfolding window_of
list-ahead {b} {at} {old} {new} {window} ahead {list} has apart writes =
    let within = within-list at has in
    rw writes.bits (range-write_at_before (memory_bits b at old) window.start list ahead.start (ahead.start + ahead.len) (omega arith) apart)

-- and so does an element behind it or before it
element-apart : {b : ℕ} {at : ℕ → ℕ → ℕ} {old mid : List ℕ} {window : Window} {list : List Bool} (e : ℕ) → HasWindow b old window → window.start + window.len ≤ e * b ⊎ e * b + b ≤ window.start → Writes b at old mid window list
    → element_bits b at (slice_index mid e) ≡ element_bits b at (slice_index old e)
element-apart {b} {at} {old} {mid} {window} {list} e has apart writes =
    let one : Window = record { start = e * b; len = b } in
    ⊎_elim
    (λ (inside : e < length old).
    let fit = element_fits b e (length old) inside in
    sym (list-whole b at mid e (omega arith))
    ∙ ⊎_elim
    (λ (behind : window.start + window.len ≤ e * b). list-behind {behind = one} has (record { fits = has.fits; within = record { start = omega arith; len = omega arith } }) behind writes)
    (λ (ahead : e * b + b ≤ window.start). list-ahead one has ahead writes)
    apart
    ∙ list-whole b at old e inside)
    (λ (outside : length old ≤ e). ap (element_bits b at) (get_or_past mid e 0 (omega arith) ∙ sym (get_or_past old e 0 outside)))
    (cases_lt e (length old))

-- ---- elements that move one after the other, from the first one on or `later` from the last one back

moved-below : (later : Bool) (k n : ℕ) → k ≤ n → moved_place later k n + k ≤ n
moved-below false k n fits = omega arith
moved-below true k n fits = omega arith

-- the elements that were moved
moved-window : (later : Bool) (b : ℕ) (xs : List ℕ) (first count k : ℕ) → HasWindow b xs (elements_window b first count) → k ≤ count → HasWindow b xs (elements_window b (first + moved_place later k count) k)
moved-window later b xs first count k has fits = let order = mul-le-mul_right b (moved-below later k count fits) in HasWindow-part _ has (omega arith) (omega arith)

-- at first none
pub CopiesSome-none : (later : Bool) {b : ℕ} (at : ℕ → ℕ → ℕ) {xs : List ℕ} (first source skip count : ℕ) → HasWindow b xs (elements_window b first count)
    → CopiesSome later b at xs xs first source skip count 0
CopiesSome-none later {b} at {xs} first source skip count has = Writes-none at xs (elements_window_from b (source + moved_place later 0 count) skip 0) (moved-window later b xs first count 0 has (omega arith)) (omega arith) (omega arith)

-- what is read next, r elements behind the source, is as it was
pub nth-waiting : (later : Bool) (k n : ℕ) → nth_place later k n ≤ waiting_place later (k + 1) n
nth-waiting false k n = omega arith
nth-waiting true k n = omega arith

moved-apart : (later : Bool) (b first source count k r : ℕ) → IsToward later first source → k < count → nth_place later k count ≤ r → r ≤ waiting_place later (k + 1) count
    → (first + moved_place later k count) * b + k * b ≤ (source + r) * b ⊎ (source + r) * b + b ≤ (first + moved_place later k count) * b
moved-apart false b first source count k r towards more low high = inl (let order : (first + k) * b ≤ (source + r) * b = mul-le-mul_right b (omega arith) in omega arith)
moved-apart true b first source count k r towards more low high = inr (let order : (source + r + 1) * b ≤ (first + (count - k)) * b = mul-le-mul_right b (omega arith) in omega arith)

pub CopiesSome-kept : (later : Bool) {b : ℕ} {at : ℕ → ℕ → ℕ} {old mid : List ℕ} (first source skip count k r : ℕ) → IsToward later first source → HasWindow b old (elements_window b first count) → k < count
    → nth_place later k count ≤ r → r ≤ waiting_place later (k + 1) count → CopiesSome later b at old mid first source skip count k → element_bits b at (slice_index mid (source + r)) ≡ element_bits b at (slice_index old (source + r))
CopiesSome-kept later {b} {at} {old} {mid} first source skip count k r towards has more low high moved =
    element-apart (source + r) (moved-window later b old first count k has (omega arith)) (moved-apart later b first source count k r towards more low high) moved

-- the place of the w elements that are stored last, where m of n are moved then
abbrev pub part_place : Bool → ℕ → ℕ → ℕ → ℕ
part_place later w m n = if later then n - m else m - w

-- these may lie over some of the k that were moved before
pub CopiesSome-part : (later : Bool) {b : ℕ} {at : ℕ → ℕ → ℕ} {old mid new : List ℕ} (first source skip count k m w : ℕ) {list : List Bool} → HasSpan b old old (elements_window b first count) (elements_window_from b source skip count) → k ≤ m → m ≤ k + w → w ≤ m → m ≤ count
    → CopiesSome later b at old mid first source skip count k → Writes b at mid new (elements_window b (first + part_place later w m count) w) list → list ≡ list_in b at old (elements_window_from b (source + part_place later w m count) skip w)
    → CopiesSome later b at old new first source skip count m
unfolding window_of
CopiesSome-part false {b} {at} {old} first source skip count k m w {list} has more meet some fits before after is =
    let whole = length-memory_bits b at old in
    let bits = memory_bits b at old in
    let inside = mul-le-mul_right b fits in
    let short : (m - w) * b ≤ k * b = mul-le-mul_right b (omega arith) in
    let over : k * b ≤ m * b = mul-le-mul_right b more in
    let place : (first + (m - w)) * b ≡ (first + 0) * b + (m - w) * b = omega arith in
    let other_place : (source + (m - w)) * b + skip ≡ (source + 0) * b + skip + (m - w) * b = omega arith in
    let all : m * b ≡ (m - w + w) * b = ap (λ (n : ℕ). n * b) (omega arith) in
    let len : m * b ≡ (m - w) * b + w * b = omega arith in
    let made = rw other_place at is in
    record {
      bits = after.bits ∙ ap (λ (l : List Bool). write_at l ((first + (m - w)) * b) list) before.bits
          ∙ rw (made, place, len) (over-next bits bits ((first + 0) * b) ((source + 0) * b + skip) ((m - w) * b) (k * b) (w * b) short (omega arith) (omega arith) (omega arith));
      long = length-list at (HasWindow-part _ has.beside (omega arith) (omega arith));
      elements = after.elements ∙ before.elements;
    }
CopiesSome-part true {b} {at} {old} first source skip count k m w {list} has more meet some fits before after is =
    let whole = length-memory_bits b at old in
    let bits = memory_bits b at old in
    let inside : (count - m + m) * b ≡ count * b = ap (λ (n : ℕ). n * b) (omega arith) in
    let next : (count - k) * b ≡ (count - m + (m - k)) * b = ap (λ (n : ℕ). n * b) (omega arith) in
    let short : (m - k) * b ≤ w * b = mul-le-mul_right b (omega arith) in
    let over : w * b ≤ m * b = mul-le-mul_right b some in
    let place : (first + (count - k)) * b ≡ (first + (count - m)) * b + (m - k) * b = omega arith in
    let other_place : (source + (count - k)) * b + skip ≡ (source + (count - m)) * b + skip + (m - k) * b = omega arith in
    let all : m * b ≡ (m - k + k) * b = ap (λ (n : ℕ). n * b) (omega arith) in
    let len : m * b ≡ (m - k) * b + k * b = omega arith in
    record {
      bits = after.bits ∙ ap (λ (l : List Bool). write_at l ((first + (count - m)) * b) list) before.bits
          ∙ rw (is, place, other_place, len) (over-back bits bits ((first + (count - m)) * b) ((source + (count - m)) * b + skip) ((m - k) * b) (w * b) (k * b) short (omega arith) (omega arith) (omega arith));
      long = length-list at (HasWindow-part _ has.beside (omega arith) (omega arith));
      elements = after.elements ∙ before.elements;
    }

-- one more, of its bits
nth-below : (later : Bool) (k n : ℕ) → k < n → nth_place later k n < n
nth-below false k n more = more
nth-below true k n more = omega arith

nth-part : (later : Bool) (k n : ℕ) → part_place later 1 (k + 1) n ≡ nth_place later k n
nth-part false k n = omega arith
nth-part true k n = refl

pub CopiesSome-more : (later : Bool) {b : ℕ} {at : ℕ → ℕ → ℕ} {old mid : List ℕ} (first source skip count k v : ℕ) → 0 < b → HasSpan b old old (elements_window b first count) (elements_window_from b source skip count) → k < count
    → element_bits b at v ≡ list_in b at old (record { start = (source + nth_place later k count) * b + skip; len = b }) → CopiesSome later b at old mid first source skip count k
    → CopiesSome later b at old (slice_set mid (first + nth_place later k count) v) first source skip count (k + 1)
CopiesSome-more later {b} {at} {old} {mid} first source skip count k v some has more same before =
    let place = nth-part later k count in
    let stored = Writes-set b at mid (first + nth_place later k count) v some (next_element mid first count _ some has.window (nth-below later k count more) before.elements) in
    CopiesSome-part later {at = at} {mid = mid} first source skip count k (k + 1) 1 {list = element_bits b at v} has (omega arith) (omega arith) (omega arith) (omega arith) before
    (rw place (Writes-same _ (elements_window b (first + nth_place later k count) 1) refl (omega arith) stored))
    (rw place (same ∙ sym (list-same b at old _ (elements_window_from b (source + nth_place later k count) skip 1) refl (omega arith))))

-- what is carried, and read next, and joined of both
pub list-joined_next : (later : Bool) {b : ℕ} (at : ℕ → ℕ → ℕ) {xs ys : List ℕ} {first source skip count : ℕ} (k : ℕ) {K : Type 0} (value : K → ℕ) (last next : K) {pair : K × K} → HasSkippedElements b ys xs first source skip count → k < count
    → element_bits b at (value last) ≡ element_bits b at (slice_index xs (source + waiting_place later k count)) → element_bits b at (value next) ≡ element_bits b at (slice_index xs (source + waiting_place later (k + 1) count))
    → pair ≡ (if later then (next, last) else (last, next))
    → drop skip (element_bits b at (value pair.0)) ++ take skip (element_bits b at (value pair.1)) ≡ list_in b at xs (record { start = (source + nth_place later k count) * b + skip; len = b })
list-joined_next false {b} at {xs} {source = source} {skip} {count} k value last next skipped more carried read is =
    let place : source + (k + 1) ≡ source + k + 1 = omega arith in
    rw (is, carried, read, place) (sym (list-both b at xs (source + k) skip skipped.bound (next-inside b xs xs source skip count k skipped.span.beside skipped.inside more refl)))
list-joined_next true {b} at {xs} {source = source} {skip} {count} k value last next skipped more carried read is =
    let place : source + (count - k) ≡ source + (count - (k + 1)) + 1 = omega arith in
    rw (is, carried, read, place) (sym (list-both b at xs (source + (count - (k + 1))) skip skipped.bound (next-inside b xs xs source skip count (count - (k + 1)) skipped.span.beside skipped.inside (omega arith) refl)))

pub list-whole_next : (later : Bool) {b : ℕ} (at : ℕ → ℕ → ℕ) {xs : List ℕ} (source count k : ℕ) → 0 < b → HasWindow b xs (elements_window_from b source 0 count) → k < count
    → element_bits b at (slice_index xs (source + nth_place later k count)) ≡ list_in b at xs (record { start = (source + nth_place later k count) * b + 0; len = b })
list-whole_next later {b} at {xs} source count k some has more =
    let e : ℕ = source + nth_place later k count in
    let order = mul-le-mul_left b (nth-below later k count more) in
    let zero : e * b + 0 ≡ e * b = omega arith in
    rw zero (sym (list-whole b at xs e (element_of b e 0 (length xs) (omega arith))))

-- ---- a window that moves in three parts: the whole elements behind its first t bits, these, and what is behind the elements

-- where no bit is written, any place will do
pub Copies-placed : (b : ℕ) (at : ℕ → ℕ → ℕ) (old new other : List ℕ) (part source to from : Window) → HasWindow b old part → HasWindow b old to → part.len ≡ to.len → source.len ≡ to.len → from.len ≡ to.len
    → to.len ≡ 0 ⊎ (part.start ≡ to.start × source.start ≡ from.start) → Copies b at old new part other source → Copies b at old new to other from
Copies-placed b at old new other part source to from has there len source_len from_len (inl none) copies =
    let here = (within-list at has).start in
    let place = (within-list at there).start in
    let nothing = list-empty b at other source (source_len ∙ none) in
    let still = list-empty b at other from (from_len ∙ none) in
    record {
      bits = copies.bits
          ∙ ap (λ (l : List Bool). write_at (memory_bits b at old) part.start l) nothing
          ∙ write_at-nil (memory_bits b at old) part.start here
          ∙ sym (ap (λ (l : List Bool). write_at (memory_bits b at old) to.start l) still ∙ write_at-nil (memory_bits b at old) to.start place);
      long = ap length still ∙ sym none;
      elements = copies.elements;
    }
Copies-placed b at old new other part source to from has there len source_len from_len (inr same) copies =
    rw (sym same.0, sym len, sym same.1, from_len ∙ sym source_len) copies

pub Copies-parted : {b : ℕ} {at : ℕ → ℕ → ℕ} {old mid next new : List ℕ} {to from : Window} {t : ℕ} {front back : List Bool} → 0 < b → HasSpan b old old to from → t ≡ min to.len (b - to.start % b)
    → CopiesElements b at old mid old ((to.start + t) / b) ((from.start + t) / b) ((from.start + t) % b) ((to.len - t) / b)
    → Writes b at mid next (window_until (to.len - t) to) front → front ≡ list_in b at old (window_until (from.len - t) from)
    → Writes b at next new (window_after ((to.len - t) / b * b) (window_after t to)) back → back ≡ list_in b at old (window_after ((to.len - t) / b * b) (window_after t from))
    → Copies b at old new to old from
Copies-parted {b} {at} {old} {mid} {next} {new} {to} {from} {t} some has long whole head front-is tail back-is =
    let m : ℕ = (to.len - t) / b * b in
    let fits : m ≤ to.len - t = omega (arith, div-add-mod' (to.len - t) b) in
    let elements : Window = record { start = to.start + t; len = m } in
    let source : Window = record { start = from.start + t; len = m } in
    let both : Window = record { start = to.start; len = t + m } in
    let source_both : Window = record { start = from.start; len = t + m } in
    let left : m ≡ 0 ⊎ ((to.start + t) / b * b ≡ to.start + t × (from.start + t) / b * b + (from.start + t) % b ≡ from.start + t) =
    ⊎_elim
    (λ (all : t ≡ to.len). inl (omega arith))
    (λ (more : t ≢ to.len). let edge = head_edge b to.start t to.len some long more in inr (omega (arith, div-add-mod' (to.start + t) b), div-add-mod' (from.start + t) b))
    (cases_eq t to.len) in
    let place = div-add-mod' (to.start + t) b in
    let middle = Copies-placed b at old mid old _ _ elements source
    (record { fits = has.window.fits; within = record { start = omega arith; len = omega arith } })
    (record { fits = has.window.fits; within = record { start = omega arith; len = omega arith } })
    refl refl refl left whole in
    Writes-is
    (Writes-join has.window refl (omega arith) (omega arith)
    (Writes-join_back b at old mid next (window_until (to.len - t) to) elements both
    (record { fits = has.window.fits; within = record { start = omega arith; len = omega arith } })
    refl (omega arith) (omega arith) middle (Writes-is head front-is))
    (Writes-is tail back-is))
    (ap (λ (l : List Bool). l ++ list_in b at old (window_after m (window_after t from)))
    (list-join {b = b} at {xs = old} (window_until (from.len - t) from) source {whole = source_both}
    (record { fits = has.beside.fits; within = record { start = omega arith; len = omega arith } })
    refl (omega arith) (omega arith))
    ∙ list-join at source_both (window_after m (window_after t from)) has.beside refl (omega arith) (omega arith))

-- ---- what a move may load and store beside

-- whole elements between edges of fewer bits each
pub late-order : (b t m n : ℕ) → t ≤ b → m ≤ n → n < t + m + b → late_words b 0 m ≤ late_words b (2 * b) n
unfolding late_words
late-order b t m n edge order beside = grind (arith, nat_tests)

-- the bounds on steps have room for it, and for two loads at each edge
touched_bytes : (s n : ℕ) → 0 < n → touched_count 8 s n ≤ (n + 6) / 8 + 1
touched_bytes s zero some = absurd (omega arith)
touched_bytes s (suc m) some =
    let more = touched-some 8 s m in
    let sum = div-sum 8 s m (omega arith) in
    omega arith

late-bytes : (s n : ℕ) → 640 ≤ n → touched_count 8 s n + 9 ≤ write_stores 8 true n
unfolding write_stores work_steps step_span
late-bytes s n many = let most = touched_bytes s n (omega arith) in omega arith

pub late-stored : (b s n : ℕ) → 0 < b → touched_count b s n + late_words b (2 * b) n ≤ write_stores b true n
unfolding late_words
late-stored b s n some =
    let stored = touched_stored b true s n some in
    let bytes = late-bytes s n in
    grind (arith, nat_tests)

pub late-read : (b s : ℕ) {m n : ℕ} → 0 < b → n ≡ m → 64 < n → touched_count b s m + 4 + late_words b (2 * b) n ≤ edit_loads b true n
unfolding write_loads write_stores read_loads work_steps
late-read b s {m} {n} some same many = let room = late-stored b s n some in rw (← same) (omega arith)

-- ---- the elements that two parts touch

-- both touch at most one
pub touched-split : (b s t n : ℕ) → 0 < b → t ≤ n → touched_count b s t + touched_count b (s + t) (n - t) ≤ touched_count b s n + 1
touched-split b s t n some fits =
    let all : t + (n - t) ≡ n = omega arith in
    let inside = rw all at (touched-inside b s t (n - t) some) in
    let edge = rw all at (touched-edge b s t (n - t) some) in
    let none = touched-none b s in
    grind arith

-- m elements' bits, and what is behind them
pub touched-split_whole : (b s n m : ℕ) → 0 < b → m * b ≤ n → m + touched_count b (s + m * b) (n - m * b) ≤ touched_count b s n
touched-split_whole b s n m some fits =
    let inside = touched-behind_from b s n m some in
    let edge = touched-after b s n m some in
    let first = touched-first b s n in
    let none = touched-none b s in
    let after = touched-none b (s + m * b) in
    grind arith

-- ---- a window that lies in one element

pub part-first : (b : ℕ) (window : Window) → window.start % b + window.len ≤ b → part_window b (first_part_of b window) ≡ window
part-first b window fits =
    let start : window.start / b * b + window.start % b ≡ window.start = div-add-mod' window.start b in
    let len : window.start % b + min window.len (b - window.start % b) - window.start % b ≡ window.len = omega arith in
    rw (start, len) refl
