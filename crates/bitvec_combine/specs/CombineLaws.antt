-- What combining does with a window that is empty or cut in two, and with an element.
use Rattle.std.specs.Prelude.{◌≡◌, ℕ, ◌+◌, ◌-◌, ◌*◌, ◌%◌, ◌<◌, ◌≤◌, Bool, List, [], ◌++◌, length, slice_index, slice_range, slice_set, refl}
use Rattle.std.proofs.Common.{arith, sym, ◌∙◌, ap, ⊎_elim, length-append}
use Rattle.std.proofs.lemmas.Bool.{cases_lt}
use Rattle.std.proofs.lemmas.List.{length-set}
use Rattle.std.proofs.lemmas.Nat.{mod-mul-add}
use Rattle.bitvec_base.specs.declared.part.Part.{Part}
use Rattle.bitvec_base.specs.declared.window.Window.{Window}
use Rattle.bitvec_base.specs.Lists.{combined}
use Rattle.bitvec_base.specs.ListsLaws.{combined-is}
use Rattle.bitvec_base.specs.Memory.{HasWindow, Writes, element_bits, list_in}
use Rattle.bitvec_base.specs.MemoryLaws.{length-element_bits, set-element}
use Rattle.bitvec_base.specs.PartLaws.{length-part}
use Rattle.bitvec_base.specs.Parts.{HasPart, part_window}
use Rattle.bitvec_base.specs.Window.{write_at}
use Rattle.bitvec_base.specs.WritesLaws.{Writes-empty, Writes-is, length-list}
use Rattle.bitvec_cells.specs.Access.{Costs}
use Rattle.bitvec_cells.specs.declared.cells.CellsRead.{Ghosts as Access}
use Rattle.bitvec_cells.specs.Cost.{read_loads, touched_count}
use Rattle.bitvec_cells.specs.CostLaws.{touched_read}
use Rattle.bitvec_cells.specs.WalkLaws.{touched-less, touched-none}
use Rattle.bitvec_words.specs.declared.operator.BitOp.{BitOp}
use Rattle.bitvec_words.specs.CombinedLaws.{Writes-both, combined-append, combined-padded, combined-range}
use Rattle.bitvec_words.specs.FieldLaws.{list-part, list-whole, part-stored}
use Rattle.bitvec_words.specs.Operator.{operator}
use Rattle.bitvec_words.specs.ShortWindow.{padded}
use Rattle.bitvec_words.specs.TouchedLaws.{touched-edge, touched-one}
use Rattle.bitvec_combine.specs.Acts.{IsCut, bits_beside}
use Rattle.bitvec_combine.specs.Sides.{Combines, CombinesBits}

-- The elements that a window touches are those of its first `t` bits and those of the rest, where an element ends between.
pub touched-passed : (b s t n : ℕ) → 0 < b → t ≤ n → (t < n → (s + t) % b ≡ 0) → touched_count b s n ≡ touched_count b s (n - (n - t)) + touched_count b (s + t) (n - t)
touched-passed b s t n some fits edge =
    let same : n - (n - t) ≡ t = omega arith in
    let all : t + (n - t) ≡ n = omega arith in
    rw same (⊎_elim
    (λ (less : t < n). rw all at (touched-edge b s t (n - t) some (edge less)))
    (λ (last : n ≤ t). let none : n - t ≡ 0 = omega arith in let count = touched-none b (s + t) in let whole : t ≡ n = omega arith in let all = ap (touched_count b s) whole in rw none (omega arith))
    (cases_lt t n))

-- The first `m` of `n` bits touch at most as many elements as the loads that a reader of `n` bits may make.
pub touched-met : (b s m n : ℕ) (words : Bool) → 0 < b → m ≤ n → touched_count b s m ≤ read_loads b words n
touched-met b s m n words some fits = let fewer = touched-less b s m n some fits in let most = touched_read b words s n some in omega arith

-- These laws bound the elements that a window touches, for the loads of a loop that passes over it.
pub ruleset passed = (touched-met, touched-passed)

-- Combining with bits padded with zeros is combining with the window beside, since a bit past its end counts as 0.
pub combines-beside : {b : ℕ} {at : ℕ → ℕ → ℕ} (op : BitOp) {old new : List ℕ} (ys : List ℕ) {to : Window} (from : Window) → Writes b at old new to (combined (operator op) (list_in b at old to) (bits_beside b at ys to from)) → Combines b at op old new ys to from
unfolding padded
combines-beside {b} {at} op ys {to} from writes = Writes-is writes (combined-padded (operator op) _ (list_in b at ys from) _)

-- ---- what the act did

module _ {E C : Type 0} (access : Access C E) (b : ℕ) (at : ℕ → ℕ → ℕ) where
  -- Combining an empty window with no bits changes nothing.
  pub combines-empty : (c : C) (window : Window) (op : BitOp) → HasWindow b (access.numbers c) window → window.len ≡ 0 → CombinesBits access b at c c window [] op op
  combines-empty c window op has none =
      let long = length-list at has in
      let count : touched_count b window.start window.len ≡ 0 = ap (touched_count b window.start) none ∙ touched-none b window.start in
      record {
        writes = Writes-is (Writes-empty at _ has none refl) (combined-is (operator op) _ [] [] (omega arith) (λ k inside. absurd (omega arith)));
        long = sym none;
        same = refl;
        cost = record { borrow = refl; loads = omega arith; stores = omega arith };
      }

  -- Combining the two windows that a window is cut into, one after the other, combines the whole window.
  pub combines-join : (c d e : C) (whole first second : Window) (list other : List Bool) (s t u : BitOp) → 0 < b → HasWindow b (access.numbers c) whole → IsCut b whole first second
      → CombinesBits access b at c d first list s t → CombinesBits access b at d e second other t u → CombinesBits access b at c e whole (list ++ other) s u
  combines-join c d e whole first second list other s t u some has cut before after =
      let start = cut.start in
      let next = cut.next in
      let len = cut.len in
      let count = touched-edge b first.start first.len second.len some (rw (← next) cut.edge) in
      let all : touched_count b whole.start whole.len ≡ touched_count b first.start first.len + touched_count b second.start second.len = rw (len, ← start, next) count in
      record {
        writes = Writes-both at (operator s) first second list other (list ++ other) has start next len
            (λ (x y : List Bool) (x_long : length x ≡ first.len) (y_long : length y ≡ second.len). combined-append (operator s) x y list other (omega arith)) before.writes (rw before.same at after.writes);
        long = omega (arith, length-append list other);
        same = after.same ∙ before.same;
        cost = let low = before.cost in let high = after.cost in record { borrow = high.borrow ∙ low.borrow; loads = omega arith; stores = omega arith };
      }

module _ {E C : Type 0} {access : Access C E} {b : ℕ} {at : ℕ → ℕ → ℕ} where
  -- the bits of a window within an element, which was loaded and stored
  combines-one : (c d : C) (e k : ℕ) (window : Window) (list : List Bool) (op : BitOp) → 0 < b → window.start ≡ e * b + k → 0 < window.len → k + window.len ≤ b → length list ≡ window.len
      → Writes b at (access.numbers c) (access.numbers d) window (combined (operator op) (list_in b at (access.numbers c) window) list) → Costs access c d 1 1 → CombinesBits access b at c d window list op op
  combines-one c d e k window list op some start more fits long writes cost =
      let index = ap (λ (s : ℕ). s % b) start ∙ mod-mul-add e b k (omega arith) in
      record { writes = writes; long = long; same = refl; cost = rw (touched-one b window.start window.len some more (omega arith)) cost }

  -- Combining a whole element with one load and one store combines its window.
  pub combines-whole : {c d : C} {e : ℕ} (v w : ℕ) {op : BitOp} → 0 < b → e < length (access.numbers c) → element_bits b at w ≡ combined (operator op) (element_bits b at (slice_index (access.numbers c) e)) (element_bits b at v)
      → access.numbers d ≡ slice_set (access.numbers c) e w → Costs access c d 1 1 → CombinesBits access b at c d (record { start = e * b; len = b }) (element_bits b at v) op op
  combines-whole {c} {d} {e} v w {op} some inside made now cost =
      let xs = access.numbers c in
      let one : Window = record { start = e * b; len = b } in
      let bits : Writes b at xs (access.numbers d) one (element_bits b at w) = rw now (record { bits = set-element b at xs e w some inside; long = length-element_bits b at w; elements = length-set xs e w }) in
      combines-one c d e 0 one (element_bits b at v) op some (omega arith) some (omega arith) (length-element_bits b at v)
      (Writes-is bits (made ∙ ap (λ (l : List Bool). combined (operator op) l (element_bits b at v)) (sym (list-whole b at xs e inside)))) cost

  -- Combining a part of an element with one load and one store combines the part's window.
  pub combines-part : {c d : C} {part : Part} (v u w : ℕ) {op : BitOp} → 0 < b → HasPart b (access.numbers c) part → part.from < part.to
      → element_bits b at u ≡ combined (operator op) (element_bits b at (slice_index (access.numbers c) part.element)) (element_bits b at v)
      → element_bits b at w ≡ write_at (element_bits b at (slice_index (access.numbers c) part.element)) part.from (slice_range (element_bits b at u) part.from part.to)
      → access.numbers d ≡ slice_set (access.numbers c) part.element w → Costs access c d 1 1 → CombinesBits access b at c d (part_window b part) (slice_range (element_bits b at v) part.from part.to) op op
  combines-part {c} {d} {part} v u w {op} some has more new made now cost =
      let xs = access.numbers c in
      let old = element_bits b at (slice_index xs part.element) in
      let long = length-element_bits b at (slice_index xs part.element) in
      let bound = has.bound in
      combines-one c d part.element part.from (part_window b part) _ op some refl (omega arith) (omega arith) (length-part b at v part.from part.to bound)
      (rw now (Writes-is (part-stored at u w some has made)
      (ap (λ (l : List Bool). slice_range l part.from part.to) new
      ∙ combined-range (operator op) old (element_bits b at v) part.from part.to has.order (omega arith)
      ∙ ap (λ (l : List Bool). combined (operator op) l (slice_range (element_bits b at v) part.from part.to)) (sym (list-part at has))))) cost
