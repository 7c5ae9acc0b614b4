-- Windows of two memories that are exchanged a part at a time.
use Rattle.std.specs.Prelude.{◌≡◌, ℕ, min, ◌+◌, ◌-◌, ◌*◌, ◌/◌, ◌%◌, ◌<◌, ◌≤◌, Bool, List, ◌++◌, length, slice_range, slice_set, slice_index, refl}
use Rattle.std.proofs.Common.{arith, sym, ◌∙◌, ap}
use Rattle.std.proofs.Math.Nat.{mul-le-mul_left}
use Rattle.std.proofs.lemmas.List.{length-set}
use Rattle.std.proofs.lemmas.Nat.{div-add-mod'}
use Rattle.bitvec_base.specs.declared.part.Part.{Part}
use Rattle.bitvec_base.specs.declared.window.Window.{Window}
use Rattle.bitvec_base.specs.Memory.{HasWindow, Writes, element_bits, list_in}
use Rattle.bitvec_base.specs.MemoryLaws.{length-element_bits, set-element}
use Rattle.bitvec_base.specs.Parts.{HasPart, first_part_of, part_window}
use Rattle.bitvec_base.specs.SliceLaws.{range-same}
use Rattle.bitvec_base.specs.Window.{window_after, window_until, write_at}
use Rattle.bitvec_base.specs.WritesLaws.{Writes-is, Writes-join, list-behind, list-join}
use Rattle.bitvec_cells.specs.WalkLaws.{first-len}
use Rattle.bitvec_words.specs.Elements.{elements_window, elements_window_from}
use Rattle.bitvec_words.specs.FieldLaws.{element_of, list-part, list-whole, part-stored}
use Rattle.bitvec_words.specs.WholeLaws.{HasWindow-part}
use Rattle.bitvec_words.specs.Moves.{SwapsWindows}

-- ---- two windows side by side are a third

pub record SideBySide (first rest whole : Window) : Type 0 where
  pub start : first.start ≡ whole.start
  pub next : rest.start ≡ first.start + first.len
  pub len : whole.len ≡ first.len + rest.len

-- the part of a window that has the indices of another one's first part, of t places, and what is left
pub beside-head : (b : ℕ) (to window : Window) (t : ℕ) → 0 < b → 0 < to.len → t ≡ min to.len (b - to.start % b)
    → to.len ≡ window.len → to.start % b ≡ window.start % b
    → SideBySide (part_window b (record (first_part_of b to) { element = window.start / b })) (window_after t window) window
beside-head b to window t some more part same phases =
    let place = div-add-mod' window.start b in
    let len = first-len b to some more in
    record { start = omega arith; next = omega arith; len = omega arith }

-- whole elements, and what is left of a window that begins where an element does
pub beside-tail : (b : ℕ) (window : Window) (n : ℕ) → window.start % b ≡ 0 → n ≡ window.len
    → SideBySide (elements_window b (window.start / b) (n / b))
    (part_window b (record { element = window.start / b + n / b; from = 0; to = n % b })) window
beside-tail b window n edge all =
    let place = div-add-mod' window.start b in
    let parts = div-add-mod' n b in
    record { start = omega arith; next = omega arith; len = omega arith }

-- as many bits as whole elements have, and what is left of any window
pub beside-after : (b : ℕ) (window : Window) (count : ℕ) → count * b ≤ window.len
    → SideBySide (elements_window_from b (window.start / b) (window.start % b) count) (window_after (count * b) window) window
beside-after b window count fits =
    let place = div-add-mod' window.start b in
    record { start = place; next = omega arith; len = omega arith }

-- the first t bits of a window, and the others
pub beside-parted : (window : Window) (t : ℕ) → t ≤ window.len
    → SideBySide (window_until (window.len - t) window) (window_after t window) window
beside-parted window t fits = record { start = refl; next = omega arith; len = omega arith }

-- one element more
pub beside-element : (b first step : ℕ)
    → SideBySide (elements_window b first step) (record { start = (first + step) * b; len = b }) (elements_window b first (step + 1))
beside-element b first step = record { start = refl; next = omega arith; len = omega arith }

pub beside-element_from : (b first skip step : ℕ)
    → SideBySide (elements_window_from b first skip step) (record { start = (first + step) * b + skip; len = b })
    (elements_window_from b first skip (step + 1))
beside-element_from b first skip step = record { start = refl; next = omega arith; len = omega arith }

-- ---- an exchange after another

-- what the first one left of the other memory is what the second one takes
pub Writes-exchanged : {b : ℕ} {at : ℕ → ℕ → ℕ} {old mid new other : List ℕ} (middle : List ℕ) {first rest whole its_first its_rest its_whole : Window} (list : List Bool)
    → HasWindow b old whole → HasWindow b other its_whole
    → SideBySide first rest whole → SideBySide its_first its_rest its_whole
    → Writes b at old mid first (list_in b at other its_first) → Writes b at mid new rest (list_in b at middle its_rest)
    → Writes b at other middle its_first list
    → Writes b at old new whole (list_in b at other its_whole)
Writes-exchanged {b} {at} {old} {mid} {new} {other} middle {first} {rest} {whole} {its_first} {its_rest} {its_whole} list has its beside its_beside before after kept =
    let start = its_beside.start in
    let next = its_beside.next in
    let len = its_beside.len in
    let behind = list-behind
    (HasWindow-part its_first its (omega arith) (omega arith))
    (HasWindow-part its_rest its (omega arith) (omega arith)) (omega arith) kept in
    Writes-is
    (Writes-join has beside.start beside.next beside.len before after)
    (ap (λ (l : List Bool). list_in b at other its_first ++ l) behind ∙ list-join at its_first its_rest its start next len)

-- so both sides
pub SwapsWindows-joined : {b : ℕ} {at : ℕ → ℕ → ℕ} {xs mid new ys middle last : List ℕ} {first rest left its_first its_rest right : Window}
    → HasWindow b xs left → HasWindow b ys right
    → SideBySide first rest left → SideBySide its_first its_rest right
    → SwapsWindows b at xs mid ys middle first its_first → SwapsWindows b at mid new middle last rest its_rest
    → SwapsWindows b at xs new ys last left right
SwapsWindows-joined {b} {at} {xs} {mid} {new} {ys} {middle} {last} {first} {rest} {left} {its_first} {its_rest} {right} has its beside its_beside before after = record {
  writes = Writes-exchanged middle _ has its beside its_beside before.writes after.writes before.right_writes;
  right_writes = Writes-exchanged mid _ its has its_beside beside before.right_writes after.right_writes before.writes;
}

-- ---- elements

-- one that is stored
pub Writes-set : (b : ℕ) (at : ℕ → ℕ → ℕ) (xs : List ℕ) (e v : ℕ) → 0 < b → e < length xs
    → Writes b at xs (slice_set xs e v) (record { start = e * b; len = b }) (element_bits b at v)
Writes-set b at xs e v some inside = record {
  bits = set-element b at xs e v some inside;
  long = length-element_bits b at v;
  elements = length-set xs e v;
}

-- the first elements of a window of elements
pub first_elements : {b : ℕ} {xs : List ℕ} (first count step : ℕ) → HasWindow b xs (elements_window b first count) → step < count
    → HasWindow b xs (elements_window b first (step + 1))
first_elements {b} {xs} first count step has more =
    let order = mul-le-mul_left b more in
    HasWindow-part (elements_window b first (step + 1)) has (omega arith) (omega arith)

-- the element behind them
pub next_element : {b : ℕ} {xs : List ℕ} (ys : List ℕ) (first count step : ℕ) → 0 < b → HasWindow b xs (elements_window b first count) → step < count
    → length ys ≡ length xs → first + step < length ys
next_element {b} {xs} ys first count step some has more same =
    let order = mul-le-mul_left b more in
    rw same (element_of b (first + step) 0 (length xs) (omega arith))

-- one more is exchanged
pub Writes-exchanged_element : {b : ℕ} {at : ℕ → ℕ → ℕ} {old mid other middle : List ℕ} (first source count step : ℕ) {list : List Bool}
    → 0 < b → HasWindow b old (elements_window b first count) → HasWindow b other (elements_window b source count) → step < count
    → Writes b at old mid (elements_window b first step) (list_in b at other (elements_window b source step))
    → Writes b at other middle (elements_window b source step) list
    → Writes b at old (slice_set mid (first + step) (slice_index middle (source + step))) (elements_window b first (step + 1))
    (list_in b at other (elements_window b source (step + 1)))
Writes-exchanged_element {b} {at} {old} {mid} {other} {middle} first source count step {list} some has its more before kept =
    Writes-exchanged middle list
    (first_elements first count step has more) (first_elements source count step its more)
    (beside-element b first step) (beside-element b source step) before
    (Writes-is
    (Writes-set b at mid (first + step) (slice_index middle (source + step)) some (next_element mid first count step some has more before.elements))
    (sym (list-whole b at middle (source + step) (next_element middle source count step some its more kept.elements))))
    kept

-- a part that takes the bits at its indices of another element
pub Writes-exchanged_part : {b : ℕ} {at : ℕ → ℕ → ℕ} {xs ys : List ℕ} {part its : Part} {v : ℕ} (w : ℕ) → 0 < b → HasPart b xs part
    → HasPart b ys its → its.from ≡ part.from → its.to ≡ part.to → v ≡ slice_index ys its.element
    → element_bits b at w ≡ write_at (element_bits b at (slice_index xs part.element)) part.from (slice_range (element_bits b at v) part.from part.to)
    → Writes b at xs (slice_set xs part.element w) (part_window b part) (list_in b at ys (part_window b its))
Writes-exchanged_part {b} {at} {xs} {ys} {part} {its} {v} w some has there from to is wrote =
    Writes-is
    (part-stored at v w some has wrote)
    (ap (λ (n : ℕ). slice_range (element_bits b at n) part.from part.to) is
    ∙ range-same (element_bits b at (slice_index ys its.element)) part.from part.to its.from its.to (sym from) (sym to)
    ∙ sym (list-part at there))
