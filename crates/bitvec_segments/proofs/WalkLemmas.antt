-- A walk over a window that loads or stores a number, a part of one element at a time.
use Rattle.std.specs.Prelude.{◌≡◌, ℕ, ◌+◌, ◌-◌, ◌*◌, ◌/◌, ◌%◌, ◌^◌, ◌<◌, ◌≤◌, Bool, true, false, List, ◌++◌, take, drop, refl}
use Rattle.std.proofs.Common.{arith, sym, ◌∙◌, ap, ⊎_elim, eqb}
use Rattle.std.proofs.lemmas.Bool.{cases_lt, cond-true, eq-eqb}
use Rattle.std.proofs.lemmas.Nat.{div-add-mod', div-mul-add, mod-mul-add, mod_below, pow-add, shr-shr}
use Rattle.std.proofs.Math.Nat.{mod-eq_of_lt}
use Rattle.std.proofs.Math.Pow.{pow_mono}
use Rattle.bitvec_base.specs.declared.part.Part.{Part}
use Rattle.bitvec_base.specs.declared.window.Window.{Window}
use Rattle.bitvec_base.specs.Memory.{HasWindow, Writes, list_in}
use Rattle.bitvec_base.specs.Parts.{HasPart, first_part_of, part_window}
use Rattle.bitvec_base.specs.SliceLaws.{range-from_start}
use Rattle.bitvec_base.specs.Window.{window_after, window_range}
use Rattle.bitvec_base.specs.WritesLaws.{HasWindow-kept, Writes-empty, Writes-is, length-list, list-after, list-behind, list-range}
use Rattle.bitvec_store.specs.Width.{IsWidth}
use Rattle.bitvec_store.specs.WidthLaws.{width_some}
use Rattle.bitvec_cells.specs.Cost.{part_loads, touched_count}
use Rattle.bitvec_cells.specs.WalkLaws.{Walked-start, first-len, first-place}
use Rattle.bitvec_words.specs.FieldLaws.{Writes-head}
use Rattle.bitvec_words.specs.PartWalkLaws.{HasPart-first}
use Rattle.bitvec_words.specs.TouchedLaws.{touched-empty, touched-first, touched-parts}
use Rattle.bitvec_words.specs.WholeLaws.{HasWindow-part, list-empty, list-same}
use Rattle.bitvec_segments.specs.LoadLaws.{loaded-below, loaded-first, loaded-none, lower_bits}
use Rattle.bitvec_segments.specs.Segments.{loaded, segment_bits, segment_number, stored}
use Rattle.bitvec_segments.specs.StoreLaws.{stored-first, stored-none}
use Rattle.bitvec_segments.specs.Windows.{HasNumber, StoresIn}

unmoved : (big : Bool) (v : ℕ) → v / 2 ^ lower_bits big 0 0 ≡ v
unmoved true v = omega arith
unmoved false v = omega arith

-- a store in no bits
pub stored-nothing : (big high : Bool) {b : ℕ} (at : ℕ → ℕ → ℕ) {xs : List ℕ} {window : Window} (v : ℕ) → HasWindow b xs window → window.len ≡ 0 → StoresIn big high b at xs xs window v
stored-nothing big high {b} at {xs} {window} v has none =
    Writes-is (Writes-empty at xs has none refl)
    (sym (ap (stored big high b window.start v) (list-empty b at xs window none) ∙ stored-none big high b window.start v))

-- a turn: there is a next part, of t bits
pub record Turn (b : ℕ) (rest : Window) (t : ℕ) : Type 0 where
  pub some : 0 < b
  pub more : 0 < rest.len
  pub step : t ≡ (first_part_of b rest).to - (first_part_of b rest).from
  pub first : 0 < t
  pub most : t ≤ rest.len
  pub touched : touched_count b rest.start rest.len ≡ 1 + touched_count b (rest.start + t) (rest.len - t)

pub turn : {b : ℕ} (rest : Window) {t : ℕ} {part : Part} → IsWidth b → 0 < rest.len → part ≡ first_part_of b rest → t ≡ part.to - part.from → Turn b rest t
turn {b} rest {t} {part} width more is long =
    let some = width_some b width in
    let len = first-len b rest some more in
    let step = long ∙ ap (λ (p : Part). p.to - p.from) is in
    record { some = some; more = more; step = step; first = omega arith; most = omega arith; touched = touched-parts b rest.start t rest.len some more (omega arith) }

-- its part is one of an element, and isn't empty
pub first-part : {b : ℕ} {xs : List ℕ} {window : Window} {part : Part} → IsWidth b → 0 < window.len → HasWindow b xs window → part ≡ first_part_of b window → HasPart b xs part × (part.from < part.to)
first-part {b} {xs} {window} {part} width more has is =
    let some = width_some b width in
    rw is (HasPart-first some more has (Walked-start b window), (first-len b window some more).0)

module _ (big high : Bool) {b : ℕ} (at : ℕ → ℕ → ℕ) {xs : List ℕ} {rest : Window} {t : ℕ} (turn : Turn b rest t) (has : HasWindow b xs rest) where
  taken-part : take t (list_in b at xs rest) ≡ list_in b at xs (part_window b (first_part_of b rest))
  taken-part =
      let place = first-place b rest in
      let len = first-len b rest turn.some turn.more in
      sym (list-same b at xs (window_range rest 0 t) (part_window b (first_part_of b rest)) (omega arith) (omega arith)
      ∙ list-range at 0 t has (omega arith) (omega arith)
      ∙ range-from_start (list_in b at xs rest) t t refl)

  dropped-part : drop t (list_in b at xs rest) ≡ list_in b at xs (window_after t rest)
  dropped-part = let len = first-len b rest turn.some turn.more in sym (list-after at t has (omega arith))

  pub number-part : loaded big high b rest.start (list_in b at xs rest)
      ≡ segment_number high (list_in b at xs (part_window b (first_part_of b rest))) * 2 ^ lower_bits big 0 (rest.len - t) + loaded big high b (rest.start + t) (list_in b at xs (window_after t rest)) * 2 ^ lower_bits big t 0
  number-part =
      let long = length-list at has in
      loaded-first big high b rest.start (list_in b at xs rest) t turn.some (omega arith) (omega arith) ∙ rw (taken-part, dropped-part, long) refl

  bits-part : (v : ℕ) → stored big high b rest.start v (list_in b at xs rest)
      ≡ segment_bits high t (v / 2 ^ lower_bits big 0 (rest.len - t)) ++ stored big high b (rest.start + t) (v / 2 ^ lower_bits big t 0) (list_in b at xs (window_after t rest))
  bits-part v =
      let long = length-list at has in
      stored-first big high b rest.start v (list_in b at xs rest) t turn.some (omega arith) (omega arith) ∙ rw (dropped-part, long) refl

  -- a store of it, and one of what is left
  pub stored-joined : {mid new : List ℕ} (v : ℕ) → Writes b at xs mid (part_window b (first_part_of b rest)) (segment_bits high ((first_part_of b rest).to - (first_part_of b rest).from) (v / 2 ^ lower_bits big 0 (rest.len - t)))
      → StoresIn big high b at mid new (window_after t rest) (v / 2 ^ lower_bits big t 0) → StoresIn big high b at xs new rest v
  stored-joined {mid} {new} v first later =
      let place = first-place b rest in
      let len = first-len b rest turn.some turn.more in
      let part = HasWindow-part (part_window b (first_part_of b rest)) has (omega arith) (omega arith) in
      let left = HasWindow-part (window_after t rest) has (omega arith) (omega arith) in
      let kept = list-behind part left (omega arith) first in
      let later_bits : List Bool = stored big high b (rest.start + t) (v / 2 ^ lower_bits big t 0) (list_in b at xs (window_after t rest)) in
      Writes-is
      (Writes-head turn.some turn.more turn.step has first (Writes-is later (ap (stored big high b (rest.start + t) (v / 2 ^ lower_bits big t 0)) kept)))
      (ap (λ (k : ℕ). segment_bits high k (v / 2 ^ lower_bits big 0 (rest.len - t)) ++ later_bits) (sym turn.step) ∙ sym (bits-part v))

  -- nothing is left
  pub stored-one : {new : List ℕ} (v : ℕ) → rest.len ≤ t → Writes b at xs new (part_window b (first_part_of b rest)) (segment_bits high ((first_part_of b rest).to - (first_part_of b rest).from) v) → StoresIn big high b at xs new rest v
  stored-one {new} v all written =
      let none : rest.len - t ≡ 0 = omega arith in
      let left = HasWindow-part (window_after t rest) has (omega arith) (omega arith) in
      stored-joined v (rw (none, unmoved big v) written)
      (stored-nothing big high at _ (HasWindow-kept new left written.elements) none)

-- ---- loads

-- a load of no bits
pub loaded-nothing : (big high : Bool) {b : ℕ} (at : ℕ → ℕ → ℕ) {xs : List ℕ} {window : Window} → HasWindow b xs window → window.len ≡ 0 → 0 ≡ loaded big high b window.start (list_in b at xs window)
loaded-nothing big high {b} at {xs} {window} has none = sym (ap (loaded big high b window.start) (list-empty b at xs window none) ∙ loaded-none big high b window.start)

-- a number with the parts so far, to which the rest adds what is left of the whole; and with one part more
abbrev pub Loaded : Bool → Bool → ℕ → (ℕ → ℕ → ℕ) → List ℕ → Window → Window → ℕ → Type 0
Loaded big high b at xs window rest number = number + loaded big high b rest.start (list_in b at xs rest) * 2 ^ lower_bits big (window.len - rest.len) 0 ≡ loaded big high b window.start (list_in b at xs window)

-- of a part with d bits before it, t bits, and e behind it
part-sum : (big : Bool) (number n left d t e : ℕ) → number + (n * 2 ^ lower_bits big 0 e + left * 2 ^ lower_bits big t 0) * 2 ^ lower_bits big d 0 ≡ number + n * 2 ^ lower_bits big d e + left * 2 ^ lower_bits big (d + t) 0
part-sum true number n left d t e = omega arith
part-sum false number n left d t e = let power = pow-add 2 d t in rw power (omega arith)

Loaded-more : (big high : Bool) {b : ℕ} (at : ℕ → ℕ → ℕ) {xs : List ℕ} (window : Window) {rest : Window} {t : ℕ} (number : ℕ) {n : ℕ} → Turn b rest t → HasWindow b xs rest → rest.len ≤ window.len
    → n ≡ segment_number high (list_in b at xs (part_window b (first_part_of b rest)))
    → Loaded big high b at xs window rest number → Loaded big high b at xs window (window_after t rest) (number + n * 2 ^ lower_bits big (window.len - rest.len) (rest.len - t))
Loaded-more big high {b} at {xs} window {rest} {t} number {n} turn has fits is before =
    let part = number-part big high at turn has in
    let d : ℕ = window.len - rest.len in
    let left : ℕ = loaded big high b (rest.start + t) (list_in b at xs (window_after t rest)) in
    let done : window.len - (rest.len - t) ≡ d + t = omega arith in
    rw done
    (sym (part-sum big number n left d t (rest.len - t))
    ∙ ap (λ (m : ℕ). number + (m * 2 ^ lower_bits big 0 (rest.len - t) + left * 2 ^ lower_bits big t 0) * 2 ^ lower_bits big d 0) is
    ∙ ap (λ (m : ℕ). number + m * 2 ^ lower_bits big d 0) (sym part)
    ∙ before)

-- so far the number fits 128 bits
total_fits : (v n w : ℕ) → w < 2 ^ n → n ≤ 128 → v ≤ w → v < 2 ^ 128
total_fits v n w below size least = let most : 2 ^ n ≤ 2 ^ 128 = pow_mono size in omega arith

loaded-fits : (big high : Bool) (b : ℕ) (at : ℕ → ℕ → ℕ) (xs : List ℕ) (window : Window) → HasWindow b xs window → window.len ≤ 128 → loaded big high b window.start (list_in b at xs window) < 2 ^ 128
loaded-fits big high b at xs window has size = total_fits _ window.len _ (rw (length-list at has) at (loaded-below big high b window.start (list_in b at xs window))) size (omega arith)

pub Loaded-next : (big high : Bool) {b : ℕ} (at : ℕ → ℕ → ℕ) {xs : List ℕ} {window rest : Window} {t : ℕ} (number : ℕ) {n : ℕ} → HasNumber b xs window → Turn b rest t → HasWindow b xs rest → rest.len ≤ window.len
    → n ≡ segment_number high (list_in b at xs (part_window b (first_part_of b rest))) → Loaded big high b at xs window rest number
    → let next = number + n * 2 ^ lower_bits big (window.len - rest.len) (rest.len - t) in Loaded big high b at xs window (window_after t rest) next × (next < 2 ^ 128)
Loaded-next big high {b} at {xs} {window} number field turn has fits is before =
    let below = loaded-fits big high b at xs window field.window field.bound in
    let more = Loaded-more big high at window number turn has fits is before in
    (more, omega arith)

-- and no bit of what is added is lost
pub parts_kept : {v w : ℕ} → v + w < 2 ^ 128 → (v % 2 ^ 128 ≡ v) × (w % 2 ^ 128 ≡ w)
parts_kept fits = (mod-eq_of_lt (omega arith), mod-eq_of_lt (omega arith))

-- nothing is left at the end
pub Loaded-all : (big high : Bool) {b : ℕ} (at : ℕ → ℕ → ℕ) {xs : List ℕ} {window rest : Window} (number : ℕ) → HasNumber b xs window → HasWindow b xs rest → rest.len ≡ 0 → Loaded big high b at xs window rest number → number ≡ loaded big high b window.start (list_in b at xs window)
Loaded-all big high {b} at {xs} {window} {rest} number field has none is =
    let same : number ≡ number + 0 * 2 ^ lower_bits big (window.len - rest.len) 0 = omega arith in
    same ∙ ap (λ (m : ℕ). number + m * 2 ^ lower_bits big (window.len - rest.len) 0) (loaded-nothing big high at has none) ∙ is

-- ---- stores

-- once what is left of the number is stored in the rest, the whole number is in the window
abbrev pub Left : Bool → Bool → ℕ → (ℕ → ℕ → ℕ) → List ℕ → List ℕ → Window → Window → ℕ → Type 0
Left big high b at old now window rest v = (new : List ℕ) → StoresIn big high b at now new rest (v / 2 ^ lower_bits big (window.len - rest.len) 0) → StoresIn big high b at old new window v

-- of a number without the d bits before: the bits of a part with e bits behind it, and those behind t bits
moved-part : (big : Bool) (v d e : ℕ) → v / 2 ^ lower_bits big d 0 / 2 ^ lower_bits big 0 e ≡ v / 2 ^ lower_bits big d e
moved-part true v d e = ap (λ (n : ℕ). n / 2 ^ e) (unmoved true v)
moved-part false v d e = unmoved false (v / 2 ^ d)

moved-rest : (big : Bool) (v d t : ℕ) → v / 2 ^ lower_bits big d 0 / 2 ^ lower_bits big t 0 ≡ v / 2 ^ lower_bits big (d + t) 0
moved-rest true v d t = ap (λ (n : ℕ). n / 2 ^ 0) (unmoved true v)
moved-rest false v d t = shr-shr v d t

pub Left-next : (big high : Bool) {b : ℕ} {at : ℕ → ℕ → ℕ} (old : List ℕ) {now mid : List ℕ} (window : Window) {rest : Window} {t : ℕ} (v : ℕ) → Turn b rest t → HasWindow b now rest → rest.len ≤ window.len
    → Left big high b at old now window rest v
    → Writes b at now mid (part_window b (first_part_of b rest)) (segment_bits high ((first_part_of b rest).to - (first_part_of b rest).from) (v / 2 ^ lower_bits big (window.len - rest.len) (rest.len - t)))
    → Left big high b at old mid window (window_after t rest) v
Left-next big high {b} {at} old {now} {mid} window {rest} {t} v turn has fits left written = λ new done.
    let d : ℕ = window.len - rest.len in
    let passed : window.len - (rest.len - t) ≡ d + t = omega arith in
    left new
    (stored-joined big high at turn has {mid = mid} (v / 2 ^ lower_bits big d 0)
    (rw (moved-part big v d (rest.len - t)) written)
    (rw (moved-rest big v d t) (rw passed at done)))

-- a whole element takes no load
pub whole-none : (b : ℕ) (part : Part) → part.to - part.from ≡ b → part_loads b part ≡ 0
whole-none b part all = cond-true (eqb (part.to - part.from) b) 0 1 (eq-eqb (part.to - part.from) b all)

-- ---- the first part of a window from a place on

-- bits are left as long as elements are
bits-left : (b s n : ℕ) {left : ℕ} → left ≡ touched_count b s n → 0 < left → 0 < n
bits-left b s n is more =
    ⊎_elim (λ (few : n < 1). let none = touched-empty b s n (omega arith) in absurd (omega arith)) (λ (some : 1 ≤ n). some) (cases_lt n 1)

pub some-left : {b : ℕ} {xs : List ℕ} {rest : Window} {left : ℕ} → HasWindow b xs rest → left ≡ touched_count b rest.start rest.len → 0 < left → 0 < rest.len
some-left {b} {xs} {rest} has is more = bits-left b rest.start rest.len is more

-- and they begin at the next element
pub next-place : {b : ℕ} {rest : Window} {t : ℕ} → Turn b rest t → t < rest.len → (rest.start / b + 1 ≡ (rest.start + t) / b) × (0 ≡ (rest.start + t) % b)
next-place {b} {rest} {t} turn less =
    let place = div-add-mod' rest.start b in
    let head = mod_below rest.start b turn.some in
    let step = turn.step in
    let start : rest.start + t ≡ (rest.start / b + 1) * b + 0 = omega arith in
    (sym (ap (λ (n : ℕ). n / b) start ∙ div-mul-add (rest.start / b + 1) b 0 turn.some), sym (ap (λ (n : ℕ). n % b) start ∙ mod-mul-add (rest.start / b + 1) b 0 turn.some))

-- where the first bit of a window stands, if there is one
abbrev pub Begins : ℕ → Window → ℕ → ℕ → ℕ → Type 0
Begins b rest element from left = 0 < left → (element ≡ rest.start / b) × (from ≡ rest.start % b)

pub Begins-next : {b : ℕ} {rest : Window} {t element left : ℕ} → Turn b rest t → element ≡ rest.start / b → left ≡ touched_count b (rest.start + t) (rest.len - t)
    → Begins b (window_after t rest) (element + 1) 0 left
Begins-next {b} {rest} {t} {element} {left} turn is count = λ more.
    let later = bits-left b (rest.start + t) (rest.len - t) count more in
    rw is (next-place turn (omega arith))

pub none-left : {b : ℕ} {xs : List ℕ} {rest : Window} {left : ℕ} → HasWindow b xs rest → left ≡ touched_count b rest.start rest.len → left ≤ 0 → rest.len ≡ 0
none-left {b} {xs} {rest} has is none =
    ⊎_elim (λ (few : rest.len < 1). omega arith) (λ (some : 1 ≤ rest.len). let first = touched-first b rest.start rest.len some in absurd (omega arith)) (cases_lt rest.len 1)
