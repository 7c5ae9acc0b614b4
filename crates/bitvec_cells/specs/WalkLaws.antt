-- Which elements a walk over a window takes, from its front, a part of one element at a time.
use Rattle.std.specs.Prelude.{◌≡◌, ℕ, ◌+◌, ◌-◌, ◌*◌, ◌/◌, ◌%◌, ◌<◌, ◌≤◌, min, Bool, List, [], ◌++◌, length, Option, Some, None, refl, zero, suc}
use Rattle.std.proofs.Common.{arith, ◌∙◌, ap, ⊎_elim, eqb}
use Rattle.std.proofs.lemmas.Bool.{cases_lt, cond-true, cond-false, eq-eqb, ne_eqb}
use Rattle.std.proofs.lemmas.Bool.Decides.{nat_tests}
use Rattle.std.proofs.lemmas.Nat.{div-mul-add, div-add-mod', mod_below, mod-mul-add, le-div}
use Rattle.bitvec_base.specs.declared.window.Window.{Window}
use Rattle.bitvec_base.specs.Lists.{first_place, last_place}
use Rattle.bitvec_base.specs.Memory.{HasWindow, Writes, list_in, memory_bits}
use Rattle.bitvec_base.specs.Parts.{first_part_of, part_window}
use Rattle.bitvec_base.specs.PlacesLaws.{first_place-below, last_place-below}
use Rattle.bitvec_base.specs.SliceLaws.{range-none}
use Rattle.bitvec_base.specs.Window.{window_after, window_of}
use Rattle.bitvec_base.specs.WritesLaws.{length-list, Writes-empty, Writes-join, list-join}
use Rattle.bitvec_cells.specs.Cost.{touched_count, part_loads, first_loads, last_loads}
use Rattle.bitvec_cells.specs.Walk.{Walked, edge_loads, passed}

pub touched-none : (b s : ℕ) → touched_count b s 0 ≡ 0
unfolding touched_count
touched-none b s = refl

pub touched-some : (b s n : ℕ) → touched_count b s (suc n) ≡ (s + n) / b - s / b + 1
unfolding touched_count
touched-some b s n =
    cond-false (eqb (suc n) 0) 0 _ (ne_eqb (suc n) 0 (λ e. omega arith))
    ∙ ap (λ (m : ℕ). m / b - s / b + 1) (let e : s + suc n - 1 ≡ s + n = omega arith in e)

-- the elements up to an end
pub touched-until : (b s e : ℕ) → s < e → touched_count b s (e - s) ≡ (e - 1) / b - s / b + 1
touched-until b s e h =
    let more : e - s ≡ suc (e - s - 1) = omega arith in
    let last : s + (e - s - 1) ≡ e - 1 = omega arith in
    rw more (touched-some b s (e - s - 1) ∙ ap (λ (m : ℕ). m / b - s / b + 1) last)

pub div-order : (b m n : ℕ) → 0 < b → m ≤ n → m / b ≤ n / b
div-order b m n some order = let below = div-add-mod' m b in le-div (m / b) n b some (omega arith)

-- fewer places touch no more elements
pub touched-less : (b s m n : ℕ) → 0 < b → m ≤ n → touched_count b s m ≤ touched_count b s n
touched-less b s zero n some order = let none = touched-none b s in omega arith
touched-less b s (suc m) zero some order = absurd (omega arith)
touched-less b s (suc m) (suc n) some order =
    let fewer = touched-some b s m in
    let all = touched-some b s n in
    let last = div-order b (s + m) (s + n) some (omega arith) in
    omega arith

-- a search takes no more loads than one that finds nothing
first_most : (b : ℕ) (window : Window) (o : Option ℕ) → 0 < b → ((i : ℕ) → o ≡ Some i → i < window.len) → first_loads b window o ≤ touched_count b window.start window.len
first_most b window None some below = omega arith
first_most b window (Some i) some below = touched-less b window.start (i + 1) window.len some (let h = below i refl in omega arith)

pub first_loads-most : {b : ℕ} (at : ℕ → ℕ → ℕ) {xs : List ℕ} {window : Window} (want : Bool) → 0 < b → HasWindow b xs window → first_loads b window (first_place want (list_in b at xs window)) ≤ touched_count b window.start window.len
first_loads-most {b} at {xs} {window} want some has =
    let long = length-list at has in
    first_most b window _ some (λ i found. let below = first_place-below want (list_in b at xs window) i found in omega arith)

touched-later : (b s m n : ℕ) → 0 < b → m < n → touched_count b (s + m) (n - m) ≤ touched_count b s n
touched-later b s m n some order =
    let first : s + n - (s + m) ≡ n - m = omega arith in
    let all : s + n - s ≡ n = omega arith in
    let fewer = rw first at (touched-until b (s + m) (s + n) (omega arith)) in
    let whole = rw all at (touched-until b s (s + n) (omega arith)) in
    let start = div-order b s (s + m) some (omega arith) in
    omega arith

last_most : (b : ℕ) (window : Window) (o : Option ℕ) → 0 < b → ((i : ℕ) → o ≡ Some i → i < window.len) → last_loads b window o ≤ touched_count b window.start window.len
last_most b window None some below = omega arith
last_most b window (Some i) some below = touched-later b window.start i window.len some (below i refl)

pub last_loads-most : {b : ℕ} (at : ℕ → ℕ → ℕ) {xs : List ℕ} {window : Window} (want : Bool) → 0 < b → HasWindow b xs window → last_loads b window (last_place want (list_in b at xs window)) ≤ touched_count b window.start window.len
last_loads-most {b} at {xs} {window} want some has =
    let long = length-list at has in
    last_most b window _ some (λ i found. let below = last_place-below want (list_in b at xs window) i found in omega arith)

-- ---- a walk from the front

-- a part has bits, and no more than are left
pub first-len : (b : ℕ) (rest : Window) → 0 < b → 0 < rest.len → let part = first_part_of b rest in (part.from < part.to) × (part.to ≤ b) × (part.to - part.from ≤ rest.len) × (part.to - part.from ≡ min rest.len (b - rest.start % b))
first-len b rest some more =
    let head = mod_below rest.start b some in
    (omega arith, omega arith, omega arith, omega arith)

-- its bits are the first that are left
pub first-place : (b : ℕ) (rest : Window) → (part_window b (first_part_of b rest)).start ≡ rest.start
first-place b rest = div-add-mod' rest.start b

pub Walked-start : (b : ℕ) (window : Window) → Walked b window window
Walked-start b window = record { start = omega arith; end = refl; aligned = λ later more. absurd (omega arith) }

-- at the start nothing is passed
pub passed-none : (b : ℕ) (at : ℕ → ℕ → ℕ) (xs : List ℕ) (window : Window) → list_in b at xs (passed window window) ≡ []
unfolding window_of
passed-none b at xs window = range-none (memory_bits b at xs) window.start (window.start + (window.start - window.start)) (omega arith)

pub Writes-none_passed : {b : ℕ} {at : ℕ → ℕ → ℕ} {xs : List ℕ} {window : Window} → HasWindow b xs window → Writes b at xs xs (passed window window) []
Writes-none_passed {b} {at} {xs} {window} has =
    let start = has.within.start in
    Writes-empty {b = b} at {xs = xs} xs {window = passed window window} (record { fits = has.fits; within = record { start = start; len = omega arith } }) (omega arith) refl

pub Walked-next : {b : ℕ} {window rest : Window} {t : ℕ} → 0 < b → 0 < rest.len → t ≡ (first_part_of b rest).to - (first_part_of b rest).from → Walked b window rest → Walked b window (window_after t rest)
Walked-next {b} {window} {rest} {t} some more step walk =
    let start = walk.start in
    let end = walk.end in
    let place = div-add-mod' rest.start b in
    let head = mod_below rest.start b some in
    record {
      start = omega arith;
      end = omega arith;
      aligned = λ later left.
          let next : rest.start + t ≡ (rest.start / b + 1) * b + 0 = omega arith in
          rw next (mod-mul-add (rest.start / b + 1) b 0 some);
    }

-- each part takes one element more, however many of its bits are taken
pub touched-next : {b : ℕ} {window rest : Window} (t : ℕ) → 0 < b → 0 < rest.len → 0 < t → t ≤ (first_part_of b rest).to - (first_part_of b rest).from → Walked b window rest
    → touched_count b window.start (rest.start + t - window.start) ≡ touched_count b window.start (rest.start - window.start) + 1
touched-next {b} {window} {rest} t some more taken within walk =
    let start = walk.start in
    let head = mod_below rest.start b some in
    let place = div-add-mod' rest.start b in
    let here : (rest.start + t - 1) / b ≡ rest.start / b =
    ap (λ (m : ℕ). m / b) (let e : rest.start + t - 1 ≡ rest.start / b * b + (rest.start % b + (t - 1)) = omega arith in e)
    ∙ div-mul-add (rest.start / b) b (rest.start % b + (t - 1)) (omega arith) in
    let whole = touched-until b window.start (rest.start + t) (omega arith) in
    ⊎_elim
    (λ (later : window.start < rest.start).
    let edge = walk.aligned later more in
    let before = touched-until b window.start rest.start later in
    let some_before : 0 < rest.start / b =
    ⊎_elim (λ (above : 0 < rest.start / b). above)
    (λ (none : rest.start / b ≤ 0). let zero_on : rest.start / b * b ≡ 0 = ap (λ (q : ℕ). q * b) (let e : rest.start / b ≡ 0 = omega arith in e) ∙ omega arith in absurd (omega arith))
    (cases_lt 0 (rest.start / b)) in
    let q : ℕ = rest.start / b - 1 in
    let up : rest.start / b ≡ q + 1 = omega arith in
    let product = ap (λ (n : ℕ). n * b) up in
    let last : (rest.start - 1) / b ≡ q =
    ap (λ (m : ℕ). m / b) (let e : rest.start - 1 ≡ q * b + (b - 1) = omega arith in e) ∙ div-mul-add q b (b - 1) (omega arith) in
    let order = le-div (window.start / b) (rest.start - 1) b some (let w = div-add-mod' window.start b in omega arith) in
    omega arith)
    (λ (first : rest.start ≤ window.start).
    let same : rest.start ≡ window.start = omega arith in
    let none : touched_count b window.start (rest.start - window.start) ≡ 0 = ap (touched_count b window.start) (let e : rest.start - window.start ≡ 0 = omega arith in e) ∙ touched-none b window.start in
    let at = ap (λ (m : ℕ). m / b) same in
    omega arith)
    (cases_lt window.start rest.start)

-- a write of the next part goes on behind what was written
pub Writes-next_part : {b : ℕ} {at : ℕ → ℕ → ℕ} {old mid new : List ℕ} {window rest : Window} {t : ℕ} {list other : List Bool} → 0 < b → 0 < rest.len → t ≡ (first_part_of b rest).to - (first_part_of b rest).from → HasWindow b old window → Walked b window rest
    → Writes b at old mid (passed window rest) list → Writes b at mid new (part_window b (first_part_of b rest)) other
    → Writes b at old new (passed window (window_after t rest)) (list ++ other)
Writes-next_part {b} {at} {old} {mid} {new} {window} {rest} {t} {list} {other} some more step has walk before after =
    let start = walk.start in
    let end = walk.end in
    let low = has.within.start in
    let high = has.within.len in
    let place = first-place b rest in
    let len = first-len b rest some more in
    let whole = passed window (window_after t rest) in
    Writes-join {b = b} {at = at} {old = old} {mid = mid} {new = new} {first = passed window rest} {second = part_window b (first_part_of b rest)} {whole = whole} {list = list} {other = other}
    (record { fits = has.fits; within = record { start = low; len = omega arith } })
    refl (omega arith) (omega arith) before after

-- the bits passed, with those of the next part
pub list-next : {b : ℕ} (at : ℕ → ℕ → ℕ) {xs : List ℕ} {window rest : Window} {t : ℕ} → 0 < b → 0 < rest.len → t ≡ (first_part_of b rest).to - (first_part_of b rest).from → HasWindow b xs window → Walked b window rest
    → list_in b at xs (passed window rest) ++ list_in b at xs (part_window b (first_part_of b rest)) ≡ list_in b at xs (passed window (window_after t rest))
list-next {b} at {xs} {window} {rest} {t} some more step has walk =
    let start = walk.start in
    let end = walk.end in
    let low = has.within.start in
    let high = has.within.len in
    let place = first-place b rest in
    let len = first-len b rest some more in
    list-join {b = b} at {xs = xs} (passed window rest) (part_window b (first_part_of b rest)) {whole = passed window (window_after t rest)}
    (record { fits = has.fits; within = record { start = low; len = omega arith } })
    refl (omega arith) (omega arith)

-- how many bits the next part has, and how many are passed
pub length-first : (b : ℕ) (at : ℕ → ℕ → ℕ) (xs : List ℕ) (window rest : Window) → 0 < b → 0 < rest.len → HasWindow b xs window → Walked b window rest → length (list_in b at xs (part_window b (first_part_of b rest))) ≡ (first_part_of b rest).to - (first_part_of b rest).from
length-first b at xs window rest some more has walk =
    let start = walk.start in
    let end = walk.end in
    let low = has.within.start in
    let high = has.within.len in
    let place = first-place b rest in
    let len = first-len b rest some more in
    length-list {b = b} at {xs = xs} {window = part_window b (first_part_of b rest)} (record { fits = has.fits; within = record { start = omega arith; len = omega arith } })

pub length-passed : {b : ℕ} (at : ℕ → ℕ → ℕ) {xs : List ℕ} {window rest : Window} → HasWindow b xs window → Walked b window rest → length (list_in b at xs (passed window rest)) ≡ rest.start - window.start
length-passed {b} at {xs} {window} {rest} has walk =
    let start = walk.start in
    let end = walk.end in
    let high = has.within.len in
    length-list {b = b} at {xs = xs} {window = passed window rest} (record { fits = has.fits; within = record { start = has.within.start; len = omega arith } })

edge_loads-first : (window rest : Window) → rest.start ≡ window.start → edge_loads window rest ≡ 0
edge_loads-first window rest first = cond-true _ _ _ (eq-eqb rest.start window.start first)

edge_loads-middle : (window rest : Window) → window.start < rest.start → 0 < rest.len → edge_loads window rest ≡ 1
edge_loads-middle window rest later some = grind (arith, nat_tests)

edge_loads-last : (window rest : Window) → window.start < rest.start → rest.len ≤ 0 → edge_loads window rest ≡ 2
edge_loads-last window rest later none = grind (arith, nat_tests)

-- a fill loads the edges alone: each part but the first and the last is a whole element
pub edge_loads-next : {b : ℕ} {window rest : Window} (t : ℕ) → 0 < b → 0 < rest.len → t ≡ (first_part_of b rest).to - (first_part_of b rest).from → Walked b window rest
    → edge_loads window rest + part_loads b (first_part_of b rest) ≤ edge_loads window (window_after t rest)
edge_loads-next {b} {window} {rest} t some more step walk =
    let start = walk.start in
    let head = mod_below rest.start b some in
    let part = first_part_of b rest in
    let next = window_after t rest in
    let small : part_loads b part ≤ 1 = grind (arith, nat_tests) in
    ⊎_elim
    (λ (later : window.start < rest.start).
    let edge = walk.aligned later more in
    let now = edge_loads-middle window rest later more in
    ⊎_elim
    (λ (left : 0 < rest.len - t).
    let whole : part_loads b part ≡ 0 = cond-true _ _ _ (eq-eqb (part.to - part.from) b (omega arith)) in
    let moved = edge_loads-middle window next (omega arith) left in
    omega arith)
    (λ (none : rest.len - t ≤ 0). let moved = edge_loads-last window next (omega arith) none in omega arith)
    (cases_lt 0 (rest.len - t)))
    (λ (first : rest.start ≤ window.start).
    let now = edge_loads-first window rest (omega arith) in
    ⊎_elim
    (λ (left : 0 < rest.len - t). let moved = edge_loads-middle window next (omega arith) left in omega arith)
    (λ (none : rest.len - t ≤ 0). let moved = edge_loads-last window next (omega arith) none in omega arith)
    (cases_lt 0 (rest.len - t)))
    (cases_lt window.start rest.start)
