-- Bits of a window compared with others, by its parts.
use Rattle.std.specs.Prelude.{◌≡◌, ℕ, ◌+◌, ◌%◌, ◌<◌, ◌≤◌, ◌==◌, Bool, true, false, not, ◌&&◌, List, [], ◌++◌, length, bit_or, refl}
use Rattle.std.proofs.Common.{arith, sym, ◌∙◌, ap, length-append}
use Rattle.std.proofs.Math.Bool.{and-true}
use Rattle.std.proofs.lemmas.Grind.{common_steps}
use Rattle.bitvec_base.specs.declared.window.Window.{Window}
use Rattle.bitvec_base.specs.CompareLaws.{same-unequal}
use Rattle.bitvec_base.specs.Lists.{same_bits}
use Rattle.bitvec_base.specs.Memory.{HasWindow, list_in}
use Rattle.bitvec_base.specs.Spans.{HasSpan}
use Rattle.bitvec_base.specs.WritesLaws.{length-list, list-join}
use Rattle.bitvec_cells.specs.Access.{OnlyReads}
use Rattle.bitvec_cells.specs.declared.cells.CellsRead.{Ghosts as Access}
use Rattle.bitvec_store.specs.Width.{IsWidth}
use Rattle.bitvec_store.specs.WidthLaws.{width_some}
use Rattle.bitvec_cells.specs.Cost.{equal_loads, touched_count}
use Rattle.bitvec_cells.specs.CostLaws.{touched_read}
use Rattle.bitvec_cells.specs.WalkLaws.{touched-less}
use Rattle.bitvec_words.specs.SameLaws.{or_zero, same-joined}
use Rattle.bitvec_words.specs.TouchedLaws.{touched-edge, touched-one}
use Rattle.bitvec_words.specs.WholeLaws.{HasWindow-part, list-empty, same-empty}
use Rattle.bitvec_words.specs.WordLaws.{padded-all}
use Rattle.bitvec_combine.specs.Acts.{IsCut, bits_beside}
use Rattle.bitvec_combine.specs.Sides.{FindsDifference}

-- bits compared by two windows, after others
then_joined : {b : ℕ} (at : ℕ → ℕ → ℕ) {xs : List ℕ} {whole : Window} (first second : Window) (list other : List Bool) (before : Bool) → HasWindow b xs whole → first.start ≡ whole.start → second.start ≡ first.start + first.len → whole.len ≡ first.len + second.len
    → length list ≡ first.len → (before && same_bits (list_in b at xs whole) (list ++ other)) ≡ ((before && same_bits (list_in b at xs first) list) && same_bits (list_in b at xs second) other)
then_joined at first second list other false has start next len long = refl
then_joined {b} at {xs} {whole} first second list other true has start next len long =
    rw (← list-join at first second has start next len)
    (same-joined _ _ _ _ (length-list at (HasWindow-part first has (omega arith) (omega arith)) ∙ sym long))

-- the elements that the parts of a window touch
touched-cut : (b : ℕ) (whole first second : Window) → IsWidth b → IsCut b whole first second
    → touched_count b whole.start whole.len ≡ touched_count b first.start first.len + touched_count b second.start second.len
touched-cut b whole first second width cut =
    rw (← cut.start, cut.len, cut.next) (touched-edge b first.start first.len second.len (width_some b width) (rw (← cut.next) cut.edge))

module _ {E C : Type 0} (access : Access C E) (b : ℕ) (at : ℕ → ℕ → ℕ) where
  -- An empty window has no difference from no bits.
  pub finds-none : (c : C) (window : Window) (n : ℕ) → window.len ≡ 0 → FindsDifference access b at c c window [] n n
  finds-none c window n none =
      record {
        value = rw (list-empty b at (access.numbers c) window none) (sym (and-true (n == 0)));
        long = sym none;
        reads = record { numbers = refl; borrow = refl; loads = omega arith; stores = refl };
      }

  -- Comparing the two windows that a window is cut into, one after the other, compares the whole window.
  pub finds-both : (c d e : C) (whole first second : Window) (list other : List Bool) (s t u : ℕ) → IsWidth b → HasWindow b (access.numbers c) whole → IsCut b whole first second
      → FindsDifference access b at c d first list s t → FindsDifference access b at d e second other t u → FindsDifference access b at c e whole (list ++ other) s u
  finds-both c d e whole first second list other s t u width has cut before after =
      let now = before.reads.numbers in
      let loads = touched-cut b whole first second width cut in
      record {
        value =
            rw now at after.value ∙ ap (λ (m : Bool). m && same_bits (list_in b at (access.numbers c) second) other) before.value
            ∙ sym (then_joined at first second list other (s == 0) has cut.start cut.next cut.len before.long);
        long = simp length-append (omega arith);
        reads = record { numbers = after.reads.numbers ∙ now; borrow = after.reads.borrow ∙ before.reads.borrow; loads = omega arith; stores = after.reads.stores ∙ before.reads.stores };
      }

  -- A difference found in the first bits of a window is one of the whole window, so that the rest needn't be compared.
  pub finds-early : (c d : C) (whole first : Window) (list other : List Bool) (s t : ℕ) → IsWidth b → HasWindow b (access.numbers c) whole → first.start ≡ whole.start → whole.len ≡ first.len + length other → not (t == 0) ≡ true
      → FindsDifference access b at c d first list s t → FindsDifference access b at c d whole (list ++ other) s t
  finds-early c d whole first list other s t width has start len stopped before =
      let rest : Window = record { start = first.start + first.len; len = length other } in
      let apart : (t == 0) ≡ false = grind (arith, stopped) in
      let fewer = touched-less b first.start first.len whole.len (width_some b width) (omega arith) in
      record {
        value =
            apart ∙ ap (λ (m : Bool). m && same_bits (list_in b at (access.numbers c) rest) other) (sym apart ∙ before.value)
            ∙ sym (then_joined at first rest list other (s == 0) has start refl len before.long);
        long = simp length-append (omega arith);
        reads = rw (← start) (record { numbers = before.reads.numbers; borrow = before.reads.borrow; loads = omega arith; stores = before.reads.stores });
      }

module _ {E C : Type 0} {access : Access C E} {b : ℕ} {at : ℕ → ℕ → ℕ} where
  -- One load compares a window that lies in one element.
  pub finds-one : {old new : C} {window : Window} {list : List Bool} {before found : ℕ} (n : ℕ) → IsWidth b → 0 < window.len → window.start % b + window.len ≤ b → length list ≡ window.len → OnlyReads access old new 1
      → found ≡ bit_or before n → (n == 0) ≡ same_bits (list_in b at (access.numbers old) window) list → FindsDifference access b at old new window list before found
  finds-one {window = window} {before = before} n width some inside long reads is told =
      let one = touched-one b window.start window.len (width_some b width) some inside in
      record {
        value = rw (is, or_zero before n) (ap (λ (s : Bool). (before == 0) && s) told);
        long = long;
        reads = record { numbers = reads.numbers; borrow = reads.borrow; loads = omega arith; stores = reads.stores };
      }

  -- Where no difference was found before, the result says whether the window has the bits beside it.
  pub found_same : {old new : C} {ys : List ℕ} {left right : Window} {result : Bool} {before found : ℕ} → HasSpan b (access.numbers old) ys left right → FindsDifference access b at old new left (bits_beside b at ys left right) before found
      → before ≡ 0 → result ≡ (found == 0) → result ≡ same_bits (list_in b at (access.numbers old) left) (list_in b at ys right)
  found_same {ys = ys} {right = right} span done none is =
      is ∙ rw (none, padded-all {list = list_in b at ys right} (length-list at span.beside ∙ sym span.lengths)) at done.value

-- ---- whole windows

-- A window of `n` bits touches at most as many elements as a comparison of equal lengths may load.
pub equal_enough : (b s : ℕ) {n m : ℕ} → IsWidth b → n ≡ m → touched_count b s n ≤ equal_loads b true n m
equal_enough b s {n} width same = rw (← same) (let most = touched_read b true s n (width_some b width) in grind (arith, common_steps))

-- The window beside, of `m` bits and the same length, touches at most as many elements as a comparison may load.
pub equal_enough_right : (b s : ℕ) {n m : ℕ} → IsWidth b → n ≡ m → touched_count b s m ≤ equal_loads b true n m
equal_enough_right b s {n} {m} width same = rw same (equal_enough b s {n = m} {m = m} width refl)

-- These laws bound the loads of a comparison, and tell it of an empty list and of lists of different lengths.
pub ruleset compared = (equal_enough, equal_enough_right, length-list, same-empty, same-unequal)
