-- Whole elements that hold a window, and the number of its bits among theirs.
use Rattle.std.specs.Prelude.{◌≡◌, ℕ, ◌+◌, ◌-◌, ◌*◌, ◌/◌, ◌%◌, ◌^◌, ◌<◌, ◌≤◌, ◌==◌, if◌then◌else◌, Bool, true, false, List, length, slice_index, refl}
use Rattle.std.specs.Int.{bit_at}
use Rattle.std.proofs.Common.{arith, sym, ◌∙◌, ap}
use Rattle.std.proofs.lemmas.List.{same_lists}
use Rattle.std.proofs.lemmas.Nat.{div-add-mod', div-mul-add, mod_below}
use Rattle.std.proofs.Math.Nat.{mod-eq_of_lt, mul-le-mul_left}
use Rattle.std.proofs.Math.Pow.{pow_mono}
use Rattle.bitvec_base.specs.declared.window.Window.{Window}
use Rattle.bitvec_base.specs.Memory.{HasWindow, element_bits, list_in}
use Rattle.bitvec_base.specs.MemoryLaws.{get-element_bits, length-element_bits}
use Rattle.bitvec_base.specs.WritesLaws.{length-list, list-range}
use Rattle.bitvec_cells.specs.Cost.{touched_count}
use Rattle.bitvec_cells.specs.WalkLaws.{touched-until}
use Rattle.bitvec_words.specs.Elements.{elements_window}
use Rattle.bitvec_words.specs.ShortWindow.{lowest_bit}
use Rattle.bitvec_words.specs.FieldLaws.{element_of, list-element}
use Rattle.bitvec_words.specs.OrderEnd.{RunsFrom}
use Rattle.bitvec_words.specs.TouchedLaws.{touched-last}
use Rattle.bitvec_words.specs.WholeLaws.{list-empty}
use Rattle.bitvec_words.specs.WordLaws.{word_whole}
use Rattle.bitvec_store.specs.Width.{IsWidth}
use Rattle.bitvec_segments.specs.LoadLaws.{joined_below}
use Rattle.bitvec_segments.specs.NumberLaws.{segment-number-is, segment_number-below}
use Rattle.bitvec_segments.specs.PlainLaws.{append-highest, append-lowest}
use Rattle.bitvec_segments.specs.Segments.{bit_number, segment_bits, segment_number}
use Rattle.bitvec_segments.proofs.PartLemmas.{number-range}

-- the memory has the elements that a window touches
pub HasWindow-elements : {b : ℕ} {xs : List ℕ} {window : Window} (count : ℕ) → HasWindow b xs window → 0 < count → (count - 1) * b < window.start % b + window.len → HasWindow b xs (elements_window b (window.start / b) count)
HasWindow-elements {b} {xs} {window} count has some last =
    let first : ℕ = window.start / b in
    let place = div-add-mod' window.start b in
    let split : (first + (count - 1)) * b ≡ first * b + (count - 1) * b = omega arith in
    let inside = element_of b (first + (count - 1)) 0 (length xs) (omega arith) in
    let room = mul-le-mul_left b (let e : first + count ≤ length xs = omega arith in e) in
    let both : b * (first + count) ≡ first * b + count * b = omega arith in
    record { fits = has.fits; within = record { start = omega arith; len = omega arith } }

-- ---- their number

bits-number : (high : Bool) (b : ℕ) (at : ℕ → ℕ → ℕ) (v : ℕ) → RunsFrom high b at → segment_bits high b v ≡ element_bits b at v
bits-number high b at v ends =
    let long = length-element_bits b (bit_number high) v in
    let wide = length-element_bits b at v in
    same_lists _ _ (omega arith) (λ i d below.
    get-element_bits b (bit_number high) v i d (omega arith)
    ∙ ap (λ (p : ℕ). bit_at v p == 1) (sym (ends i (omega arith)))
    ∙ sym (get-element_bits b at v i d (omega arith)))

-- of an element's bits
pub number-element : (high : Bool) (b : ℕ) (at : ℕ → ℕ → ℕ) {v x : ℕ} → RunsFrom high b at → v ≡ x → v < 2 ^ b → v ≡ segment_number high (element_bits b at x)
number-element high b at {v} ends is below = segment-number-is high b v _ below (bits-number high b at v ends ∙ ap (element_bits b at) is)

-- of one element
pub number-one : (high : Bool) {b : ℕ} (at : ℕ → ℕ → ℕ) {xs : List ℕ} (first : ℕ) {v : ℕ} → 0 < b → HasWindow b xs (elements_window b first 1) → v ≡ segment_number high (element_bits b at (slice_index xs first)) → v ≡ segment_number high (list_in b at xs (elements_window b first 1))
number-one high {b} at {xs} first some has is =
    let none = list-empty b at xs (elements_window b first 0) (omega arith) in
    let here : first + 0 ≡ first = omega arith in
    let whole = rw (none, here) at (list-element at first 1 0 some has (omega arith)) in
    is ∙ ap (segment_number high) whole

-- with one more behind them
pub number-next : (high : Bool) {b : ℕ} (at : ℕ → ℕ → ℕ) {xs : List ℕ} (first count : ℕ) {v w : ℕ} → 0 < b → HasWindow b xs (elements_window b first (count + 1))
    → v ≡ segment_number high (list_in b at xs (elements_window b first count)) → w ≡ segment_number high (element_bits b at (slice_index xs (first + count)))
    → (if high then v * 2 ^ b + w else w * 2 ^ (count * b) + v) ≡ segment_number high (list_in b at xs (elements_window b first (count + 1)))
number-next true {b} at {xs} first count some has before next =
    let whole = list-element at first (count + 1) count some has (omega arith) in
    let long = length-element_bits b at (slice_index xs (first + count)) in
    rw (before, next) (sym (sym (ap (segment_number true) whole) ∙ append-highest (list_in b at xs (elements_window b first count)) (element_bits b at (slice_index xs (first + count))) ∙ rw long refl))
number-next false {b} at {xs} first count some has before next =
    let whole = list-element at first (count + 1) count some has (omega arith) in
    let start = has.within.start in
    let long = length-list {b = b} at {xs = xs} {window = elements_window b first count} (record { fits = has.fits; within = record { start = start; len = omega arith } }) in
    rw (before, next) (sym (sym (ap (segment_number false) whole) ∙ append-lowest (list_in b at xs (elements_window b first count)) (element_bits b at (slice_index xs (first + count))) ∙ rw long refl))

-- it has as many bits as they
pub number-below : (high : Bool) {b : ℕ} (at : ℕ → ℕ → ℕ) {xs : List ℕ} {window : Window} {v : ℕ} → HasWindow b xs window → v ≡ segment_number high (list_in b at xs window) → v < 2 ^ window.len
number-below high {b} at {xs} {window} has is =
    let below = rw (length-list at has) at (segment_number-below high (list_in b at xs window)) in
    rw is below

-- of the window's bits among those of the elements
pub number-cut : (high : Bool) {b : ℕ} (at : ℕ → ℕ → ℕ) {xs : List ℕ} (window : Window) (count : ℕ) {v : ℕ} → HasWindow b xs (elements_window b (window.start / b) count) → window.start % b + window.len ≤ count * b
    → v ≡ segment_number high (list_in b at xs (elements_window b (window.start / b) count))
    → v / 2 ^ lowest_bit high (count * b) (window.start % b) window.len % 2 ^ window.len ≡ segment_number high (list_in b at xs window)
number-cut high {b} at {xs} window count has inside is =
    let whole : Window = elements_window b (window.start / b) count in
    let from : ℕ = window.start % b in
    let long = length-list at has in
    let part = list-range at from (from + window.len) has (omega arith) inside in
    let place : window.start / b * b + from ≡ window.start = div-add-mod' window.start b in
    let len : from + window.len - from ≡ window.len = omega arith in
    let cut = rw long at (number-range high (list_in b at xs whole) from window.len (omega arith)) in
    rw is cut
    ∙ ap (segment_number high) (sym part ∙ rw (place, len) refl)

-- of 64 bits of whole elements, by a word that has them
pub number-word : (high : Bool) {b : ℕ} (at : ℕ → ℕ → ℕ) (xs : List ℕ) (window : Window) {v : ℕ} → RunsFrom high 64 at → IsWidth b → b ≤ 64 → window.start % b ≡ 0 → window.len ≡ 64 → v < 2 ^ 64
    → element_bits 64 at v ≡ list_in b at xs (elements_window b (window.start / b) (64 / b)) → v ≡ segment_number high (list_in b at xs window)
number-word high {b} at xs window {v} ends width narrow edge size below is =
    let place = div-add-mod' window.start b in
    let start : window.start / b * b ≡ window.start = omega arith in
    let long : 64 / b * b ≡ window.len = word_whole b width narrow ∙ sym size in
    segment-number-is high 64 v _ below (bits-number high 64 at v ends ∙ is ∙ rw (start, long) refl)

-- the elements that the window touches are so many
pub touched-elements : (b s n count : ℕ) → 0 < n → 0 < count → (count - 1) * b < s % b + n → s % b + n ≤ count * b → touched_count b s n ≡ count
touched-elements b s n count more some last inside =
    let place = div-add-mod' s b in
    let until = rw (let e : s + n - s ≡ n = omega arith in e) at (touched-until b s (s + n) (omega arith)) in
    let r : ℕ = s % b + n - 1 - (count - 1) * b in
    let one_more : count * b ≡ (count - 1) * b + b = ap (λ (m : ℕ). m * b) (let e : count ≡ count - 1 + 1 = omega arith in e) ∙ omega arith in
    let below : r < b = omega arith in
    let split : s + n - 1 ≡ (s / b + (count - 1)) * b + r = omega arith in
    let quotient : (s + n - 1) / b ≡ s / b + (count - 1) = ap (λ (m : ℕ). m / b) split ∙ div-mul-add (s / b + (count - 1)) b r below in
    omega arith

-- so few reach no further
pub touched-most : {b : ℕ} (s : ℕ) {n : ℕ} (count : ℕ) → 0 < b → 0 < n → touched_count b s n ≤ count → s % b + n ≤ count * b
touched-most {b} s {n} count some more most =
    let last : ℕ = s % b + n - 1 in
    let touched = touched-last b s n some more in
    let place = div-add-mod' last b in
    let below = mod_below last b some in
    let room = mul-le-mul_left b (let e : last / b + 1 ≤ count = omega arith in e) in
    omega arith

-- ---- two numbers in one word

pub joined_fits : (v w j k : ℕ) → v < 2 ^ j → w < 2 ^ k → k + j ≤ 64 → v * 2 ^ k + w < 2 ^ 64
joined_fits v w j k high low most =
    let both = joined_below v w j k high low in
    let order : 2 ^ (k + j) ≤ 2 ^ 64 = pow_mono most in
    omega arith

pub moved_kept : (v w : ℕ) → v + w < 2 ^ 64 → v % 2 ^ 64 ≡ v
moved_kept v w fits = mod-eq_of_lt (omega arith)
