-- Ranges of a memory combined with others of it.
use Rattle.std.specs.Prelude.{◌≡◌, ℕ, ◌+◌, ◌-◌, ◌*◌, ◌/◌, ◌%◌, ◌<◌, ◌≤◌, ◌⊎◌, Bool, true, false, nat_eq, List, ◌++◌, length, map, max, refl}
use Rattle.std.proofs.Common.{arith, ap, inl, inr, not, subst, sym, ◌∙◌, length-append}
use Rattle.std.proofs.Math.Nat.{div-add-mod, mul-add}
use Rattle.std.proofs.lemmas.Bool.Decides.{nat_tests}
use Rattle.std.proofs.lemmas.List.{length-map, map-append}
use Rattle.bitvec_base.specs.Lists.{FitsWithin, combined}
use Rattle.bitvec_base.specs.ListsLaws.{length-combined}
use Rattle.bitvec_base.specs.Memory.{Edits, FitsMaxBits, HasWindow, Writes, list_in, memory_bits}
use Rattle.bitvec_base.specs.MemoryLaws.{length-memory_bits}
use Rattle.bitvec_base.specs.Window.{window_of, window_range}
use Rattle.bitvec_base.specs.WritesLaws.{HasWindow-range, Writes-is, Writes-range, length-list, list-range}
use Rattle.bitvec_base.specs.declared.window.Window.{Window}
use Rattle.bitvec_words.specs.Operator.{operator}
use Rattle.bitvec_words.specs.declared.operator.BitOp.{BitOp}
use Rattle.bitvec_within.specs.Combined.{combined_within}
use Rattle.bitvec_within.specs.CombinedLaws.{combined_within-before, combined_within-next, combined_within-none}
use Rattle.bitvec_within.specs.Ranges.{AreSides, CombinesRanges, HasRanges, LieInOrder, combined_ranges, first_of, joined_sides, rest_of}
use Rattle.bitvec_within.specs.declared.combining_within.Ranges.{Ranges}
use Rattle.bitvec_within.proofs.Edges.{Writes-in_front, Writes-in_rest, list-in_front, list-in_rest}

-- the windows of bits that are read, and of those that are written
abbrev pub source_of : Ranges → Window
source_of r = record { start = r.from; len = r.len }

abbrev pub target_of : Ranges → Window
target_of r = record { start = r.to; len = r.len }

module _ (op : BitOp) (r : Ranges) (list : List Bool) (source : r.from + r.len ≤ length list) (target : r.to + r.len ≤ length list) (n : ℕ) (fits : n ≤ r.len) where
  -- the first bits of each, and then those behind them
  pub first-next : (r.to ≤ r.from) ⊎ (r.from + r.len ≤ r.to) → combined_ranges op (rest_of r n) (combined_ranges op (first_of r n) list) ≡ combined_ranges op r list
  first-next kept =
      let sum : n + (r.len - n) ≡ r.len = omega arith in
      combined_within-next (operator op) list r.from r.to n (r.len - n) (omega arith) (omega arith) (rw sum kept) ∙ ap (λ k. combined_within (operator op) r.from (r.from + k) r.to list) sum

  -- and the other way
  pub first-last : r.from ≤ r.to → combined_ranges op (first_of r n) (combined_ranges op (rest_of r n) list) ≡ combined_ranges op r list
  first-last kept =
      let sum : n + (r.len - n) ≡ r.len = omega arith in
      combined_within-before (operator op) list r.from r.to n (r.len - n) (omega arith) (omega arith) kept ∙ ap (λ k. combined_within (operator op) r.from (r.from + k) r.to list) sum

-- what is written to a window
pub window-combined : {b : ℕ} {at : ℕ → ℕ → ℕ} {old new : List ℕ} (r : Ranges) (op : BitOp) → Writes b at old new (target_of r) (combined (operator op) (list_in b at old (target_of r)) (list_in b at old (source_of r))) → CombinesRanges b at old new r op
unfolding combined_within window_of
window-combined {b} {at} r op writes =
    let count : r.from + r.len - r.from ≡ r.len = omega arith in
    let wrote = rw count at writes.bits in
    record { bits = rw count wrote; elements = writes.elements }

-- no bit is combined
pub none-combined : {b : ℕ} (at : ℕ → ℕ → ℕ) {xs : List ℕ} {r : Ranges} (op : BitOp) → HasRanges b xs r → r.len ≡ 0 → CombinesRanges b at xs xs r op
none-combined {b} at {xs} {r} op has none =
    let long = length-memory_bits b at xs in
    let target = has.target in
    record { bits = sym (combined_within-none (operator op) r.from (r.from + r.len) r.to (memory_bits b at xs) (omega arith) (omega arith)); elements = refl }

-- the ranges lie apart
kept-apart : (later : Bool) (r : Ranges) → LieInOrder later r → (r.to ≤ r.from) ⊎ (r.from + r.len ≤ r.to)
kept-apart true r apart = inr apart
kept-apart false r apart = inl (omega arith)

-- a constant that says which of them stands behind the other
pub is_later : (n : ℕ) → (n ≡ 0 → ⊥) → not (nat_eq n 0) ≡ true
is_later n some = grind (arith, nat_tests)

pub is_earlier : (n : ℕ) → n ≡ 0 → not (nat_eq n 0) ≡ false
is_earlier n none = rw none refl

-- they are combined one after the other
pub parts-combined : {b : ℕ} (at : ℕ → ℕ → ℕ) {old mid new : List ℕ} {r : Ranges} (op : BitOp) (n : ℕ) (later : Bool) → HasRanges b old r → n ≤ r.len → LieInOrder later r → CombinesRanges b at old mid (first_of r n) op → CombinesRanges b at mid new (rest_of r n) op → CombinesRanges b at old new r op
parts-combined {b} at {old} {mid} {new} {r} op n later has fits apart first second =
    let long = length-memory_bits b at old in
    let source = has.source in
    let target = has.target in
    record {
      bits = second.bits ∙ ap (combined_ranges op (rest_of r n)) first.bits ∙ first-next op r (memory_bits b at old) (omega arith) (omega arith) n fits (kept-apart later r apart);
      elements = second.elements ∙ first.elements;
    }

-- bits of a window are combined, and so that is edited
window-writes : {b : ℕ} {at : ℕ → ℕ → ℕ} {old new : List ℕ} (window : Window) (f e d : ℕ) {op : BitOp} → HasWindow b old (window_range window d (d + (e - f)))
    → CombinesRanges b at old new (record { from = window.start + f; to = window.start + d; len = e - f }) op
    → Writes b at old new (window_range window d (d + (e - f))) (combined (operator op) (list_in b at old (window_range window d (d + (e - f)))) (list_in b at old (window_range window f e)))
unfolding combined_within window_of
window-writes {b} {at} {old} window f e d {op} part combines =
    let target = window_range window d (d + (e - f)) in
    let count : window.start + f + (e - f) - (window.start + f) ≡ d + (e - f) - d = omega arith in
    let wrote = rw count at combines.bits in
    record { bits = rw count wrote; long = length-combined (operator op) (list_in b at old target) (list_in b at old (window_range window f e)) ∙ length-list at part; elements = combines.elements }

pub window-edited : {b : ℕ} {at : ℕ → ℕ → ℕ} {old new : List ℕ} {window : Window} {f e d : ℕ} {op : BitOp} → HasWindow b old window → FitsWithin f e d window.len
    → CombinesRanges b at old new (record { from = window.start + f; to = window.start + d; len = e - f }) op → Edits b at old new window (combined_within (operator op) f e d)
unfolding combined_within
window-edited {b} {at} {old} {new} {window} {f} {e} {d} {op} has fits combines =
    let order = fits.order in
    let room = fits.room in
    let read = list-range at f e has order fits.source in
    let written = list-range at d (d + (e - f)) has (omega arith) room in
    let part = HasWindow-range d (d + (e - f)) has (omega arith) room in
    Writes-is (Writes-range d (d + (e - f)) has (omega arith) room (window-writes window f e d part combines)) (rw (read, written) refl)

-- what is left after a part of two: the last bits of each are combined, and then the first ones
pub turn-last : {b : ℕ} {at : ℕ → ℕ → ℕ} {now new : List ℕ} {left : Ranges} {op : BitOp} {parts : Ranges × Ranges} (n : ℕ) → HasRanges b now left → n ≤ left.len → left.from ≤ left.to → parts ≡ (rest_of left n, first_of left n) → CombinesRanges b at now new parts.0 op
    → HasRanges b new parts.1 × (combined_ranges op parts.1 (memory_bits b at new) ≡ combined_ranges op left (memory_bits b at now))
turn-last {b} {at} {now} {new} {left} {op} n has short order is combines =
    let done : CombinesRanges b at now new (rest_of left n) op = rw is at combines in
    let long = length-memory_bits b at now in
    let product : b * length new ≡ b * length now = ap (λ k. b * k) done.elements in
    let fits = has.fits in
    let source = has.source in
    let target = has.target in
    rw is (record { fits = omega arith; source = omega arith; target = omega arith }, ap (combined_ranges op (first_of left n)) done.bits ∙ first-last op left (memory_bits b at now) (omega arith) (omega arith) n short order)

-- and the other way
pub turn-first : {b : ℕ} {at : ℕ → ℕ → ℕ} {now new : List ℕ} {left : Ranges} {op : BitOp} {parts : Ranges × Ranges} (n : ℕ) → HasRanges b now left → n ≤ left.len → left.to ≤ left.from → parts ≡ (first_of left n, rest_of left n) → CombinesRanges b at now new parts.0 op
    → HasRanges b new parts.1 × (combined_ranges op parts.1 (memory_bits b at new) ≡ combined_ranges op left (memory_bits b at now))
turn-first {b} {at} {now} {new} {left} {op} n has short order is combines =
    let done : CombinesRanges b at now new (first_of left n) op = rw is at combines in
    let long = length-memory_bits b at now in
    let product : b * length new ≡ b * length now = ap (λ k. b * k) done.elements in
    let fits = has.fits in
    let source = has.source in
    let target = has.target in
    rw is (record { fits = omega arith; source = omega arith; target = omega arith }, ap (combined_ranges op (rest_of left n)) done.bits ∙ first-next op left (memory_bits b at now) (omega arith) (omega arith) n short (inl order))

-- a memory cut in two: a window of the first part, and the first bits of the other
both-inside : (b : ℕ) (front rest : List ℕ) (start place n : ℕ) → FitsMaxBits b (front ++ rest) → start + n ≤ place → place + n ≤ b * length (front ++ rest) → b * length front ≡ place
    → HasWindow b front (record { start = start; len = n }) × HasWindow b rest (record { start = 0; len = n })
both-inside b front rest start place n fits before behind cut =
    let sum : b * length (front ++ rest) ≡ b * length front + b * length rest = ap (λ n. b * n) (length-append front rest) ∙ mul-add b (length front) (length rest) in
    (record { fits = omega arith; within = record { start = omega arith; len = omega arith } }, record { fits = omega arith; within = record { start = omega arith; len = omega arith } })

abbrev pub far_of : Ranges → Window
far_of r = record { start = 0; len = r.len }

module _ (b : ℕ) (at : ℕ → ℕ → ℕ) (some : 0 < b) (front rest new : List ℕ) (r : Ranges) (op : BitOp) (has : HasRanges b (front ++ rest) r) where
  -- the bits of the first part are combined with those of the other
  front-combined : r.to + r.len ≤ r.from → b * length front ≡ r.from → Writes b at front new (target_of r) (combined (operator op) (list_in b at front (target_of r)) (list_in b at rest (far_of r))) → CombinesRanges b at (front ++ rest) (new ++ rest) r op
  front-combined apart cut writes =
      let inside = both-inside b front rest r.to r.from r.len has.fits apart has.source cut in
      let place : b * length front + 0 ≡ r.from = omega arith in
      let near-is = list-in_front b at some front rest (target_of r) inside.0 in
      let far-is = subst (λ (s : ℕ). list_in b at (front ++ rest) (record { start = s; len = r.len }) ≡ list_in b at rest (far_of r)) place (list-in_rest b at some front rest (far_of r)) in
      window-combined r op (Writes-is (Writes-in_front b at some front rest new (target_of r) _ inside.0 writes) (rw (near-is, far-is) refl))

  -- and the other way
  rest-combined : r.from + r.len ≤ r.to → b * length front ≡ r.to → Writes b at rest new (far_of r) (combined (operator op) (list_in b at rest (far_of r)) (list_in b at front (source_of r))) → CombinesRanges b at (front ++ rest) (front ++ new) r op
  rest-combined apart cut writes =
      let inside = both-inside b front rest r.from r.to r.len has.fits apart has.target cut in
      let place : b * length front + 0 ≡ r.to = omega arith in
      let near-is = list-in_front b at some front rest (source_of r) inside.0 in
      let far-is = subst (λ (s : ℕ). list_in b at (front ++ rest) (record { start = s; len = r.len }) ≡ list_in b at rest (far_of r)) place (list-in_rest b at some front rest (far_of r)) in
      let wrote = subst (λ (s : ℕ). Writes b at (front ++ rest) (front ++ new) (record { start = s; len = r.len }) (combined (operator op) (list_in b at rest (far_of r)) (list_in b at front (source_of r)))) place (Writes-in_rest b at some front rest new (far_of r) _ inside.1 writes) in
      window-combined r op (Writes-is wrote (rw (near-is, far-is) refl))

-- the place of the cut
cut-at : {A : Type 0} {b bits : ℕ} (value : A → ℕ) (front : List A) (m place : ℕ) → bits ≡ b → length front ≡ m / bits → m % b ≡ 0 → m ≡ place → b * length (map value front) ≡ place
cut-at {b} value front m place same count edge is =
    let cut = div-add-mod m b in
    let rows : b * length (map value front) ≡ b * (m / b) = ap (λ n. b * n) (length-map front value ∙ count ∙ ap (λ k. m / k) same) in
    omega arith

-- the windows of the part that is written and of the other
abbrev pub cut_windows : Bool → Ranges → Window × Window
cut_windows true r = (far_of r, source_of r)
cut_windows false r = (target_of r, far_of r)

module _ {A : Type 0} (b bits m : ℕ) (value : A → ℕ) (cells left right : List A) (r : Ranges) (same : bits ≡ b) (has : HasRanges b (map value cells) r) (last : m ≡ max r.from r.to) (edge : m % b ≡ 0) where
  pub sides-combined : (at : ℕ → ℕ → ℕ) (some : 0 < b) (new : List A) (op : BitOp) (later : Bool) → LieInOrder later r → AreSides later (m / bits) cells left right
      → Writes b at (map value left) (map value new) (cut_windows later r).0 (combined (operator op) (list_in b at (map value left) (cut_windows later r).0) (list_in b at (map value right) (cut_windows later r).1))
      → CombinesRanges b at (map value cells) (map value (joined_sides later new right)) r op
  sides-combined at some new op true apart sides writes =
      let cut = cut-at value right m r.to same sides.1 edge (omega arith) in
      let all = rw (sides.0, map-append value right left) at has in
      rw (sides.0, map-append value right left, map-append value right new) (rest-combined b at some (map value right) (map value left) (map value new) r op all apart cut writes)
  sides-combined at some new op false apart sides writes =
      let cut = cut-at value left m r.from same sides.1 edge (omega arith) in
      let all = rw (sides.0, map-append value left right) at has in
      rw (sides.0, map-append value left right, map-append value new right) (front-combined b at some (map value left) (map value right) (map value new) r op all apart cut writes)
