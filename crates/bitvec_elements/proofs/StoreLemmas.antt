-- Windows written a stretch at a time.
use Rattle.std.specs.Prelude.{◌≡◌, ℕ, ◌-◌, ◌<◌, ◌≤◌, Bool, List, length, slice_range, take, refl}
use Rattle.std.proofs.Common.{arith, sym, ◌∙◌, ap, subst}
use Rattle.bitvec_engine.specs.Direction.{Agrees}
use Rattle.bitvec_passes.specs.Pairs.{HasPair}
use Rattle.bitvec_base.specs.declared.window.Window.{Window}
use Rattle.bitvec_base.specs.Memory.{HasWindow, Writes, element_bits, list_in}
use Rattle.bitvec_base.specs.Window.{window_range, write_window}
use Rattle.bitvec_base.specs.WriteLaws.{length-slice_range}
use Rattle.bitvec_base.specs.WritesLaws.{HasWindow-kept, HasWindow-range, Writes-empty, Writes-is, Writes-join, length-list, list-behind, list-range}
use Rattle.bitvec_words.specs.WordLaws.{take-all}
use Rattle.bitvec_words.specs.ShortWindow.{padded}
use Rattle.bitvec_words.specs.MovedLaws.{take-word, take-range}
use Rattle.bitvec_engine.proofs.DirectionLemmas.{memory-agrees}

-- the first n places of a window
abbrev pub until : Window → ℕ → Window
until window n = record { start = window.start; len = n }

-- a write under an order that agrees
pub Writes-agrees : (b : ℕ) (at other : ℕ → ℕ → ℕ) (old new : List ℕ) (window : Window) (list : List Bool) → 0 < b → Agrees b at other → Writes b other old new window list → Writes b at old new window list
Writes-agrees b at other old new window list some agrees writes = record {
  bits = memory-agrees b at other new some agrees ∙ writes.bits ∙ ap (λ (l : List Bool). write_window l window list) (sym (memory-agrees b at other old some agrees));
  long = writes.long;
  elements = writes.elements;
}

-- a range of a window lies in the memory, also after a write
pub range-inside : {b : ℕ} {xs : List ℕ} {window part : Window} (from to : ℕ) → HasWindow b xs window → part ≡ window_range window from to → from ≤ to → to ≤ window.len → HasWindow b xs part
range-inside {b} {xs} {window} from to has is order bound = rw is (HasWindow-range from to has order bound)

pub range-kept : (b : ℕ) (xs ys : List ℕ) (window part : Window) (from to : ℕ) → HasWindow b xs window → length ys ≡ length xs → part ≡ window_range window from to → from ≤ to → to ≤ window.len → HasWindow b ys part
range-kept b xs ys window part from to has long is order bound = range-inside from to (HasWindow-kept ys has long) is order bound

-- the word that is loaded of a range
pub loaded-range : (b : ℕ) (at way : ℕ → ℕ → ℕ) (xs : List ℕ) (window part : Window) (from to word : ℕ) → part ≡ window_range window from to → element_bits 64 way word ≡ padded 64 (list_in b at xs part)
    → element_bits 64 way word ≡ padded 64 (list_in b at xs (window_range window from to))
loaded-range b at way xs window part from to word is loaded = rw is at loaded

-- nothing yet
pub stretch-none : (b : ℕ) (at : ℕ → ℕ → ℕ) (xs ys : List ℕ) (window : Window) (list : List Bool) → HasWindow b xs window → ys ≡ xs → Writes b at xs ys (until window 0) (take 0 list)
stretch-none b at xs ys window list has same =
    let start = has.within.start in
    Writes-empty {b = b} at ys {window = until window 0} (record { fits = has.fits; within = record { start = start; len = omega arith } }) refl same

-- a stretch more
pub stretch-next : {b : ℕ} {at : ℕ → ℕ → ℕ} {old mid : List ℕ} (new : List ℕ) {window : Window} (list : List Bool) {part : List Bool} (from to : ℕ) → HasWindow b old window → from ≤ to → to ≤ window.len → length list ≡ window.len → part ≡ slice_range list from to
    → Writes b at old mid (until window from) (take from list) → Writes b at mid new (window_range window from to) part → Writes b at old new (until window to) (take to list)
stretch-next {b} {at} {old} {mid} new {window} list {part} from to has order bound long same before after =
    let start = has.within.start in
    let end = has.within.len in
    let whole : HasWindow b old (until window to) = record { fits = has.fits; within = record { start = start; len = omega arith } } in
    Writes-is
    (Writes-join whole refl refl (omega arith) before (Writes-is after same))
    (take-range list from to to order (omega arith) refl)

-- all of them
pub stretch-all : {b : ℕ} {at : ℕ → ℕ → ℕ} {old new : List ℕ} (window : Window) {list : List Bool} (n : ℕ) → n ≡ window.len → length list ≡ window.len → Writes b at old new (until window n) (take n list) → Writes b at old new window list
stretch-all {b} {at} {old} {new} window {list} n all long writes =
    Writes-is {b = b} {at = at} {old = old} {new = new} {window = window} (subst (λ (k : ℕ). Writes b at old new (until window k) (take k list)) all writes) (take-all list window.len (omega arith))

-- three stretches of a window of another memory
pub stretches-copied : {b d : ℕ} {at : ℕ → ℕ → ℕ} (way : ℕ → ℕ → ℕ) {old mid next new ys : List ℕ} (to from : Window) {head source body right tail rest : Window} (f l : ℕ) → HasPair b old to d ys from → f ≤ l → l ≤ to.len
    → head ≡ window_range to 0 f → source ≡ window_range from 0 f → Writes b at old mid head (list_in d way ys source)
    → body ≡ window_range to f l → right ≡ window_range from f l → Writes b at mid next body (list_in d way ys right)
    → tail ≡ window_range to l to.len → rest ≡ window_range from l to.len → Writes b at next new tail (list_in d way ys rest)
    → Writes b at old new to (list_in d way ys from)
stretches-copied {b} {d} {at} way {old} {mid} {next} {new} {ys} to from f l span order bound head-is source-is first body-is right-is second tail-is rest-is third =
    let lengths = span.lengths in
    let list = list_in d way ys from in
    let long = length-list way span.beside ∙ sym lengths in
    let part = λ (a e : ℕ) (up : a ≤ e) (fits : e ≤ to.len). list-range way a e span.beside up (omega arith) in
    let one = stretch-next mid list 0 f span.window (omega arith) (omega arith) long (part 0 f (omega arith) (omega arith)) (stretch-none b at old old to list span.window refl) (rw (head-is, source-is) at first) in
    let two = stretch-next next list f l span.window order bound long (part f l order bound) one (rw (body-is, right-is) at second) in
    let three = stretch-next new list l to.len span.window bound (omega arith) long (part l to.len bound (omega arith)) two (rw (tail-is, rest-is) at third) in
    stretch-all to {list = list} to.len refl long three

-- ---- what is stored

-- the word's bits
pub copied-stretch : (at : ℕ → ℕ → ℕ) {d : ℕ} (other : ℕ → ℕ → ℕ) {ys : List ℕ} {right : Window} (from to : ℕ) {n : ℕ} (word : ℕ) → HasWindow d ys right → from ≤ to → to ≤ right.len → n ≡ to - from → element_bits 64 at word ≡ padded 64 (list_in d other ys (window_range right from to))
    → take n (element_bits 64 at word) ≡ slice_range (list_in d other ys right) from to
copied-stretch at {d} other {ys} {right} from to {n} word has order bound size is =
    let long = length-list other has in
    let part = length-slice_range (list_in d other ys right) from to (omega arith) in
    take-word 64 {n = n} (slice_range (list_in d other ys right) from to) (is ∙ ap (padded 64) (list-range other from to has order bound)) (omega arith)

-- the stretch of the window that is not yet written
pub stretch-old : {b : ℕ} {at : ℕ → ℕ → ℕ} {old mid : List ℕ} {window : Window} {list : List Bool} (from to : ℕ) → HasWindow b old window → from ≤ to → to ≤ window.len → Writes b at old mid (until window from) list
    → list_in b at mid (window_range window from to) ≡ slice_range (list_in b at old window) from to
stretch-old {b} {at} {old} {mid} {window} {list} from to has order bound writes =
    let start = has.within.start in
    let end = has.within.len in
    let whole : HasWindow b old (until window from) = record { fits = has.fits; within = record { start = start; len = omega arith } } in
    list-behind whole (HasWindow-range from to has order bound) (omega arith) writes
    ∙ list-range at from to has order bound

-- a stretch more, of a word's first bits
pub stretch-stored : {b : ℕ} {at : ℕ → ℕ → ℕ} {old mid now new : List ℕ} {window part : Window} (list made : List Bool) (from to : ℕ) → HasWindow b old window → from ≤ to → to ≤ window.len → length list ≡ window.len → part ≡ window_range window from to → now ≡ mid → take (to - from) made ≡ slice_range list from to
    → Writes b at old mid (until window from) (take from list) → Writes b at now new part (take part.len made) → Writes b at old new (until window to) (take to list)
stretch-stored {b} {at} {old} {mid} {now} {new} {window} list made from to has order bound long is same fits before after =
    stretch-next new list from to has order bound long fits before (rw (is, same) at after)

pub ruleset ranged = (range-inside, range-kept)
