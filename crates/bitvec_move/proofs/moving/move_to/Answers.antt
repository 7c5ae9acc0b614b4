use Rattle.std.proofs.Common.{◌≡◌, ◌≢◌, ℕ, min, Bool, true, false, List, length, ◌≤◌, ◌<◌, ◌+◌, ◌-◌, ◌*◌, ◌/◌, ◌%◌, ◌∙◌, ap, arith, refl, zero, suc, ⊎_elim}
use Rattle.std.proofs.lemmas.Bool.{cases_eq}
use Rattle.std.proofs.lemmas.Nat.{div-add-mod', mod_below}
use Rattle.std.proofs.Math.Nat.{div-mul-le_self, le_refl}
use Rattle.bitvec_base.specs.declared.window.Window.{Window}
use Rattle.bitvec_base.specs.Memory.{HasWindow}
use Rattle.bitvec_base.specs.Spans.{HasSpan}
use Rattle.bitvec_base.specs.Window.{window_after, window_until}
use Rattle.bitvec_base.specs.WritesLaws.{HasWindow-kept}
use Rattle.bitvec_store.specs.Width.{IsWidth}
use Rattle.bitvec_store.specs.WidthLaws.{width_some}
use Rattle.bitvec_words.specs.Elements.{elements_window, elements_window_from}
use Rattle.bitvec_words.specs.MovedPlaceLaws.{whole-window_from}
use Rattle.bitvec_move.proofs.CostSums.{Costs-edges}
use Rattle.bitvec_cells.specs.Cost.{touched_count}
use Rattle.bitvec_cells.specs.WalkLaws.{div-order, touched-none}
use Rattle.bitvec_words.specs.TouchedLaws.{head_edge, touched-head, touched-one, touched-parts}
use Rattle.bitvec_words.specs.WholeLaws.{HasWindow-part, behind-mod, window-end}
use Rattle.bitvec_words.specs.Moves.{IsToward}
use Rattle.bitvec_move.proofs.WithinLaws.{Copies-parted, late-order, touched-split, touched-split_whole}
use Rattle.bitvec_move.proofs.moving.move_to.Goals as goal

-- ---- the places of the bits before the first edge, t of them, and of those behind
after-has : {b : ℕ} {xs : List ℕ} {window : Window} (n : ℕ) → HasWindow b xs window → n ≤ window.len → HasWindow b xs (window_after n window)
after-has {b} {xs} {window} n has fits = HasWindow-part (window_after n window) has (omega arith) (omega arith)

rest-short : (b n : ℕ) → 0 < b → n - n / b * b ≤ b
rest-short b n some = let all = div-add-mod' n b in let below = mod_below n b some in omega arith

-- bits of one element, if there are some
touched-few : (b s n : ℕ) → 0 < b → s % b + n ≤ b → touched_count b s n ≤ 1
touched-few b s zero some inside = let none = touched-none b s in omega arith
touched-few b s (suc n) some inside = let one = touched-one b s (suc n) some (omega arith) inside in omega arith

-- what is behind the whole elements lies in one
back-inside : (b s t n : ℕ) → 0 < b → t ≡ min n (b - s % b) → (s + t + (n - t) / b * b) % b + (n - t - (n - t) / b * b) ≤ b
back-inside b s t n some long =
    let below = mod_below (s + t + (n - t) / b * b) b some in
    let short = rest-short b (n - t) some in
    ⊎_elim
    (λ (all : t ≡ n). omega arith)
    (λ (more : t ≢ n). let edge = behind-mod b (s + t) ((n - t) / b) some ∙ head_edge b s t n some long more in omega arith)
    (cases_eq t n)

toward-behind : (later : Bool) (b s r t : ℕ) → 0 < b → IsToward later s r → IsToward later ((s + t) / b) ((r + t) / b)
toward-behind false b s r t some order = div-order b (s + t) (r + t) some (omega arith)
toward-behind true b s r t some order = div-order b (r + t) (s + t) some (omega arith)

until-has : {b : ℕ} {xs : List ℕ} {window : Window} (n : ℕ) → HasWindow b xs window → HasWindow b xs (window_until n window)
until-has {b} {xs} {window} n has = HasWindow-part (window_until n window) has (le_refl window.start) (omega arith)

span-after : {b : ℕ} {xs ys : List ℕ} {left right : Window} (n : ℕ) → HasSpan b xs ys left right → n ≤ left.len → HasSpan b xs ys (window_after n left) (window_after n right)
span-after {b} {xs} {ys} {left} {right} n span fits =
    let lengths = span.lengths in
    record { window = after-has n span.window fits; beside = after-has n span.beside (omega arith); lengths = ap (λ (m : ℕ). m - n) lengths }

-- the whole elements of two windows, also where the left one ends in its first element
span-whole : {b : ℕ} {xs ys : List ℕ} {left right : Window} → IsWidth b → HasSpan b xs ys left right → HasSpan b xs ys (elements_window b (left.start / b) (left.len / b)) (elements_window_from b (right.start / b) (right.start % b) (left.len / b))
span-whole {b} {xs} {ys} {left} {right} width span =
    let place = div-add-mod' left.start b in let parts = div-add-mod' left.len b in
    record {
      window = record { fits = span.window.fits; within = record { start = omega arith; len = omega arith } };
      beside = whole-window_from left.len width refl span.beside (omega arith);
      lengths = refl;
    }

until-all : (n t : ℕ) → t ≤ n → n - (n - t) ≡ t
until-all n t fits = omega arith

-- ---- what its calls ask
pub load_short-front-requires-clause-window : goal.load_short-front-requires-clause-window
load_short-front-requires-clause-window g c = rw c.until.ensures (until-has _ c.requires.span.beside)

pub load_short-front-requires-clause-bound : goal.load_short-front-requires-clause-bound
load_short-front-requires-clause-bound g c =
    rw c.until.ensures (omega arith)

pub move_elements-requires-clause-span : goal.move_elements-requires-clause-span
move_elements-requires-clause-span g c =
    rw (c.load_short-back.ensures.reads.numbers, c.load_short-front.ensures.reads.numbers, c.of-moved.ensures, c.after-rest.ensures, c.after-behind.ensures)
    (span-whole g.met.C.Elem.BitStore.width_law (span-after _ c.requires.span c.head_of-head.ensures.fits))

pub move_elements-requires-clause-bound : goal.move_elements-requires-clause-bound
move_elements-requires-clause-bound g c = rw c.of-moved.ensures (mod_below c.after-behind.result.start _ (width_some _ g.met.C.Elem.BitStore.width_law))

pub store_short-requires-clause-window : goal.store_short-requires-clause-window
store_short-requires-clause-window g c =
    let kept = c.move_elements.ensures.writes.elements ∙ ap length (c.load_short-back.ensures.reads.numbers ∙ c.load_short-front.ensures.reads.numbers) in
    rw c.until-2.ensures (until-has _ (HasWindow-kept _ c.requires.span.window kept))

pub store_short-requires-clause-bound : goal.store_short-requires-clause-bound
store_short-requires-clause-bound g c = rw (c.until-2.ensures, c.after-rest.ensures) (omega arith)

pub after-requires-2-clause-end : goal.after-requires-2-clause-end
after-requires-2-clause-end g c =
    rw c.after-rest.ensures (window-end (after-has _ c.requires.span.window c.head_of-head.ensures.fits))

pub after-requires : goal.after-requires
after-requires g c =
    let fits : c.head_of-head.result.1 ≤ c.args.from.len = rw c.requires.span.lengths at c.head_of-head.ensures.fits in
    let most = rw (c.after-rest.ensures, c.requires.span.lengths) at c.whole_bits-passed.ensures.fits in
    rw c.after-behind.ensures (record { bound = most; end = window-end (after-has _ c.requires.span.beside fits) })

pub load_short-back-requires : goal.load_short-back-requires
load_short-back-requires g c =
    let fits : c.head_of-head.result.1 ≤ c.args.from.len = rw c.requires.span.lengths at c.head_of-head.ensures.fits in
    rw (c.load_short-front.ensures.reads.numbers, c.after.ensures, c.whole_bits-passed.ensures.value, c.after-rest.ensures, c.after-behind.ensures, c.requires.span.lengths)
    (record {
      window = after-has _ (after-has _ c.requires.span.beside fits) (div-mul-le_self _ _);
      bound = rest-short _ _ (width_some _ g.met.C.Elem.BitStore.width_law);
    })

pub move_elements-requires-clause-towards : goal.move_elements-requires-clause-towards
move_elements-requires-clause-towards g c =
    let some = width_some _ g.met.C.Elem.BitStore.width_law in
    rw (c.of-moved.ensures, c.after-rest.ensures, c.after-behind.ensures) (toward-behind _ _ _ _ _ some c.requires.towards)

pub store_short-requires-2 : goal.store_short-requires-2
store_short-requires-2 g c =
    let some = width_some _ g.met.C.Elem.BitStore.width_law in
    let kept = c.store_short.ensures.writes.elements ∙ c.move_elements.ensures.writes.elements ∙ ap length (c.load_short-back.ensures.reads.numbers ∙ c.load_short-front.ensures.reads.numbers) in
    rw (c.after-2.ensures, c.whole_bits-passed.ensures.value, c.after-rest.ensures)
    (record {
      window = HasWindow-kept _ (after-has _ (after-has _ c.requires.span.window c.head_of-head.ensures.fits) (div-mul-le_self _ _)) kept;
      bound = rest-short _ _ some;
    })

pub returns-clause-writes : goal.returns-clause-writes
returns-clause-writes g c =
    let some = width_some _ g.met.C.Elem.BitStore.width_law in
    let lengths = c.requires.span.lengths in let passed = c.whole_bits-passed.ensures.value in
    let front = rw c.until.ensures at c.load_short-front.ensures.value in
    let back = rw (c.after.ensures, c.after-behind.ensures, passed, c.after-rest.ensures, c.load_short-front.ensures.reads.numbers) at c.load_short-back.ensures.value in
    let whole = rw (c.load_short-back.ensures.reads.numbers, c.load_short-front.ensures.reads.numbers, c.of-moved.ensures, c.after-behind.ensures, c.after-rest.ensures) at c.move_elements.ensures.writes in
    let head = rw (c.until-2.ensures, c.after-rest.ensures) at c.store_short.ensures.writes in
    let tail = rw (c.after-2.ensures, passed, c.after-rest.ensures) at c.store_short-2.ensures.writes in
    Copies-parted some c.requires.span c.head_of-head.ensures.long whole head (rw lengths front) tail (rw lengths (rw lengths at back))

pub returns-clause-cost : goal.returns-clause-cost
returns-clause-cost g c =
    let b = g.C.Elem.BitStore.BITS in
    let t = c.head_of-head.result.1 in let n = c.args.to.len in let m = c.args.from.len in
    let some = width_some _ g.met.C.Elem.BitStore.width_law in
    let lengths = c.requires.span.lengths in let passed = c.whole_bits-passed.ensures.value in
    let source_fits : t ≤ m = rw c.requires.span.lengths at c.head_of-head.ensures.fits in
    let whole_fits : (n - t) / b * b ≤ n - t = div-mul-le_self (n - t) b in
    let read = touched-split b c.args.from.start t m some source_fits in
    let elements = touched-split_whole b (c.args.from.start + t) (m - t) ((n - t) / b) some (rw (← lengths) whole_fits) in
    let stored = touched-split_whole b (c.args.to.start + t) (n - t) ((n - t) / b) some whole_fits in
    let late = late-order b t ((n - t) / b * b) n (omega (arith, c.head_of-head.ensures.long, mod_below c.args.to.start b some)) (omega arith) (omega (arith, div-add-mod' (n - t) b, mod_below (n - t) b some)) in
    let one = touched-head b c.args.to.start t n some c.requires.some c.head_of-head.ensures.long in
    let written = touched-parts b c.args.to.start t n some c.requires.some c.head_of-head.ensures.long in
    let front = rw (c.until.ensures, until-all m t source_fits) at c.load_short-front.ensures.reads in
    let back = rw (c.after.ensures, c.after-behind.ensures, passed, c.after-rest.ensures) at c.load_short-back.ensures.reads in
    let whole = rw (c.of-moved.ensures, c.after-rest.ensures) at c.move_elements.ensures.cost in
    let head = rw (c.until-2.ensures, c.after-rest.ensures, until-all n t c.head_of-head.ensures.fits) at c.store_short.ensures.cost in
    let tail = rw (c.after-2.ensures, passed, c.after-rest.ensures) at c.store_short-2.ensures.cost in
    let last = touched-few b _ _ some (back-inside b c.args.to.start t n some c.head_of-head.ensures.long) in
    Costs-edges g.C.CellsRead _ _ front back whole head (omega arith) tail last (omega arith) (omega arith)
