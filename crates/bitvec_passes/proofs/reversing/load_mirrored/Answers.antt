use Rattle.std.proofs.Common.{◌≡◌, ℕ, List, ◌<◌, ◌≤◌, ◌+◌, ◌-◌, ◌*◌, ◌/◌, ◌%◌, arith, rules, ap, sym, ◌∙◌, length, map, reverse, refl}
use Rattle.std.proofs.lemmas.List.{length-map, map-set}
use Rattle.std.proofs.lemmas.Nat.{div-add-mod', mod_below}
use Rattle.bitvec_base.specs.Memory.{HasWindow}
use Rattle.bitvec_store.specs.Width.{IsWidth}
use Rattle.bitvec_store.specs.WidthLaws.{width_some}
use Rattle.bitvec_base.specs.declared.window.Window.{Window}
use Rattle.bitvec_base.specs.Window.{max_bits}
use Rattle.bitvec_base.specs.WritesLaws.{HasWindow-kept, Writes-holds, Writes-is}
use Rattle.bitvec_words.specs.FieldLaws.{Writes-no_element, element_of}
use Rattle.bitvec_words.specs.Elements.{elements_window}
use Rattle.bitvec_words.specs.WholeLaws.{list-empty}
use Rattle.bitvec_passes.proofs.MirroredLemmas.{held-amid, held-room, held-some, last-has, mirrored-element, mirrored-window, touched-beside, touched-has, touched-window}
use Rattle.bitvec_passes.specs.Ends.{HoldsBeside}
use Rattle.bitvec_passes.proofs.reversing.load_mirrored.Goals as goal

-- what its numbers are: `count` elements are touched from `first` on, and `most` are held, of `long` ones
record HasPlaces (b n first count most long : ℕ) : Type 0 where
  pub few : count < most
  pub last : first + count ≤ long
  pub room : n + 2 * b ≤ b * (most - 1)
  pub fits : b * (most - 1) ≤ max_bits

has-places : {b first count most : ℕ} {xs : List ℕ} {window : Window} → IsWidth b → HasWindow b xs window → 0 < window.len → first ≡ window.start / b → count ≡ (window.start % b + window.len - 1) / b + 1 → HoldsBeside b window.len most
    → HasPlaces b window.len first count most (length xs)
has-places {b} {first} {count} {most} {xs} {window} width has more place all held =
    let some = width_some b width in
    let below = touched-beside window.start some more all held in
    let touched = touched-window some more place all in
    let start = has.within.start in let end = has.within.len in let room = held.room in let least = touched.least in let fits = held.fits in
    let sum : b * most ≡ b * (most - 1) + b = ap (λ (n : ℕ). b * n) (let e : most ≡ most - 1 + 1 = omega arith in e) ∙ omega arith in
    let behind : (first + count - 1 + 1) * b ≡ (first + count) * b = ap (λ (n : ℕ). n * b) (omega arith) in
    let inside : first + count - 1 < length xs = element_of b (first + count - 1) 0 (length xs) (omega arith) in
    record { few = below; last = omega arith; room = omega arith; fits = omega arith }

pub loop-step-init : goal.loop-step-init
loop-step-init g c =
    let b = g.C.Elem.BitStore.BITS in
    let at = g.O.BitOrder.at in
    let value = g.C.Elem.BitStore.value in
    let old = g.C.CellsRead.numbers c.args.cells.now in
    let held = c.args.held.now in let window = c.args.window in
    let most = length held in
    let first = c.element-first.result in let count = c.touched-count.result in
    let inside = touched-beside window.start (width_some _ g.met.C.Elem.BitStore.width_law) c.requires.some c.touched-count.ensures.places c.requires.held in
    let room = held-room b (map value held) (most - 1 - count) count most (omega arith) (length-map held value) c.requires.held.fits in
    let none : Window = record { start = 0; len = 0 } in
    record {
      writes =
          Writes-is
          (Writes-no_element {at = at} old (most - 1 - count) count none room refl)
          (list-empty b at old none refl ∙ sym (ap reverse (list-empty b at old (elements_window b (first + count - 1 + 1 - 0) 0) (omega arith))));
      reads = search rules;
    }

pub loop-step-preserved : goal.loop-step-preserved
loop-step-preserved g c =
    let b = g.C.Elem.BitStore.BITS in
    let value = g.C.Elem.BitStore.value in
    let held = c.args.held.now in let window = c.args.window in
    let most = length held in
    let some = width_some _ g.met.C.Elem.BitStore.width_law in
    let first = c.element-first.result in let count = c.touched-count.result in
    let touched = touched-window some c.requires.some c.element-first.ensures c.touched-count.ensures.places in
    let inside = touched-beside window.start some c.requires.some c.touched-count.ensures.places c.requires.held in
    let room = held-room b (map value held) (most - 1 - count) count most (omega arith) (length-map held value) c.requires.held.fits in
    let step = c.loop-step.step in
    let next : ℕ = first + (count - (step + 1)) in
    let now : first + count - 1 + 1 - (step + 1) ≡ next = omega arith in
    let before = rw (let e : first + count - 1 + 1 - step ≡ next + 1 = omega arith in e) at c.loop-step.invariant.writes in
    let made = rw (c.load.ensures.value, c.loop-step.invariant.reads.numbers, (let e : first + count - 1 - step ≡ next = omega arith in e)) at c.reversed.ensures in
    let has = touched-has c.requires.window (omega arith) touched in
    record {
      writes = rw (map-set value c.loop-step.held (most - 1 - count + step) c.reversed.result, now)
          (mirrored-element (most - 1 - count) count step next (value c.reversed.result) some room c.loop-step-test.true
          (last-has first count (step + 1) has (omega arith)) made before);
      reads = search rules;
    }

pub returns-clause-mirrors : goal.returns-clause-mirrors
returns-clause-mirrors g c =
    let b = g.C.Elem.BitStore.BITS in
    let at = g.O.BitOrder.at in
    let value = g.C.Elem.BitStore.value in
    let held = c.args.held.now in let window = c.args.window in
    let most = length held in
    let some = width_some _ g.met.C.Elem.BitStore.width_law in
    let first = c.element-first.result in let count = c.touched-count.result in
    let positive = held-some most c.requires.held c.requires.some in
    let touched = touched-window some c.requires.some c.element-first.ensures c.touched-count.ensures.places in
    let inside = touched-beside window.start some c.requires.some c.touched-count.ensures.places c.requires.held in
    let room = held-room b (map value held) (most - 1 - count) count most (omega arith) (length-map held value) c.requires.held.fits in
    let place : first * b + c.phase-skip.result ≡ window.start = rw (c.element-first.ensures, c.phase-skip.ensures) (div-add-mod' window.start b) in
    let below = mod_below window.start b some in
    let all : c.loop-step.step ≡ count = omega arith in
    let writes = rw (all, (let e : first + count - 1 + 1 - count ≡ first = omega arith in e)) at c.loop-step.invariant.writes in
    let has = touched-has c.requires.window (omega arith) touched in
    let to : Window = record { start = c.bits_of-room.result - c.phase-skip.result - window.len; len = window.len } in
    let amid = held-amid (map value c.loop-step.held) c.phase-skip.result to c.requires.some (omega arith) (writes.elements ∙ length-map held value) c.requires.held refl (omega arith) in
    let sum : b * (most - 1) ≡ (most - 1 - count) * b + count * b = ap (λ (n : ℕ). b * n) (let e : most - 1 ≡ most - 1 - count + count = omega arith in e) ∙ omega arith in
    let far = amid.before in
    record {
      place = amid;
      len = refl;
      list = mirrored-window at (most - 1 - count) first count window to
          (HasWindow-kept _ room writes.elements) has touched.start touched.end refl (omega arith)
          (Writes-holds room writes);
    }

pub returns-clause-reads : goal.returns-clause-reads
returns-clause-reads g c =
    let all : c.loop-step.step ≡ c.touched-count.result = omega arith in
    rw (sym c.touched-count.ensures.touched, sym all) c.loop-step.invariant.reads

pub bounds-held-from : goal.bounds-held-from
bounds-held-from g c = let has = has-places g.met.C.Elem.BitStore.width_law c.requires.window c.requires.some c.element-first.ensures c.touched-count.ensures.places c.requires.held in omega arith

pub load-requires : goal.load-requires
load-requires g c = let has = has-places g.met.C.Elem.BitStore.width_law c.requires.window c.requires.some c.element-first.ensures c.touched-count.ensures.places c.requires.held in rw c.loop-step.invariant.reads.numbers (omega arith)

pub bits_of-room-requires : goal.bits_of-room-requires
bits_of-room-requires g c = let has = has-places g.met.C.Elem.BitStore.width_law c.requires.window c.requires.some c.element-first.ensures c.touched-count.ensures.places c.requires.held in omega arith

pub overflow_sub-result : goal.overflow_sub-result
overflow_sub-result g c = let has = has-places g.met.C.Elem.BitStore.width_law c.requires.window c.requires.some c.element-first.ensures c.touched-count.ensures.places c.requires.held in let below = mod_below c.args.window.start g.C.Elem.BitStore.BITS (width_some _ g.met.C.Elem.BitStore.width_law) in omega arith
