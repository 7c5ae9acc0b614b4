-- Words of a window, one part after the other.
use Rattle.std.specs.Prelude.{◌≡◌, ℕ, ◌+◌, ◌-◌, ◌*◌, ◌/◌, ◌<◌, ◌≤◌, Bool, false, List, [], length, replicate, slice_index, slice_range, take, bit_or, refl}
use Rattle.std.proofs.Common.{arith, rules, sym, ◌∙◌, ap}
use Rattle.std.proofs.lemmas.List.{places, same_lists}
use Rattle.bitvec_base.specs.declared.window.Window.{Window}
use Rattle.bitvec_base.specs.Memory.{HasWindow, element_bits, list_in}
use Rattle.bitvec_base.specs.Parts.{first_part_of, part_window}
use Rattle.bitvec_base.specs.Window.{window_after, write_at}
use Rattle.bitvec_base.specs.WriteLaws.{length-slice_range}
use Rattle.bitvec_words.specs.AcrossLaws.{length-first}
use Rattle.bitvec_store.specs.Width.{IsWidth}
use Rattle.bitvec_store.specs.WidthLaws.{at_each_width}
use Rattle.bitvec_cells.specs.Walk.{Walked, passed}
use Rattle.bitvec_cells.specs.WalkLaws.{first-len, length-first as length-first_part, length-passed, list-next}
use Rattle.bitvec_words.specs.ShortWindow.{padded}
use Rattle.bitvec_words.specs.FieldLaws.{list-part}
use Rattle.bitvec_words.specs.PartWalkLaws.{HasPart-first}
use Rattle.bitvec_words.specs.MovedLaws.{element-joined, take-range}

-- ---- one part after the other

-- a word that has one part more of a window, its bits gathered to the start of another word
front_of : (list : List Bool) (t : ℕ) → t ≡ length list → slice_range (padded 64 list) 0 (0 + t) ≡ list
unfolding padded
front_of list t long = same_lists _ _ (search (rules, places)) (λ k d inside. grind (arith, places))

pub gathered-next : {b : ℕ} (at to : ℕ → ℕ → ℕ) {xs : List ℕ} {window rest : Window} {t n : ℕ} (word : ℕ) {element : ℕ} (first moved : ℕ) → 0 < b → 0 < rest.len → window.len ≤ 64 → t ≡ (first_part_of b rest).to - (first_part_of b rest).from → n ≡ window.len - rest.len → HasWindow b xs window → Walked b window rest
    → element ≡ slice_index xs (first_part_of b rest).element
    → element_bits 64 to first ≡ padded 64 (slice_range (element_bits b at element) (first_part_of b rest).from (first_part_of b rest).to)
    → element_bits 64 to moved ≡ write_at (replicate 64 false) n (slice_range (element_bits 64 to first) 0 (0 + t))
    → element_bits 64 to word ≡ padded 64 (list_in b at xs (passed window rest))
    → element_bits 64 to (bit_or word moved) ≡ padded 64 (list_in b at xs (passed window (window_after t rest)))
gathered-next {b} at to {xs} {window} {rest} {t} {n} word {element} first moved some more size step count has walk loaded gathered put held =
    let start = walk.start in
    let end = walk.end in
    let part = first_part_of b rest in
    let len = first-len b rest some more in
    let before = length-passed at has walk in
    let next = length-first_part b at xs window rest some more has walk in
    let holds = list-part at (HasPart-first some more has walk) in
    let bits : slice_range (element_bits b at element) part.from part.to ≡ list_in b at xs (part_window b part) =
    ap (λ (v : ℕ). slice_range (element_bits b at v) part.from part.to) loaded ∙ sym holds in
    let front : slice_range (element_bits 64 to first) 0 (0 + t) ≡ list_in b at xs (part_window b part) =
    ap (λ (l : List Bool). slice_range l 0 (0 + t)) (gathered ∙ ap (padded 64) bits) ∙ front_of (list_in b at xs (part_window b part)) t (omega arith) in
    element-joined 64 to word moved n (list_in b at xs (passed window rest)) (list_in b at xs (part_window b part)) (omega arith) (omega arith) held (put ∙ ap (λ (l : List Bool). write_at (replicate 64 false) n l) front)
    ∙ ap (padded 64) (list-next at some more step has walk)

-- ---- eight bits more

pub eights-none : (list : List Bool) → padded 64 [] ≡ padded 64 (take (0 * 8) list)
eights-none list = refl

pub eights-next : (to : ℕ → ℕ → ℕ) (list : List Bool) (word few moved n : ℕ) → n * 8 + 8 ≤ length list → n * 8 + 8 ≤ 64
    → element_bits 64 to few ≡ padded 64 (slice_range list (n * 8) (n * 8 + 8))
    → element_bits 64 to moved ≡ write_at (replicate 64 false) (n * 8) (slice_range (element_bits 64 to few) 0 (0 + 8))
    → element_bits 64 to word ≡ padded 64 (take (n * 8) list)
    → element_bits 64 to (bit_or word moved) ≡ padded 64 (take ((n + 1) * 8) list)
eights-next to list word few moved n inside fits gathered put held =
    let part = slice_range list (n * 8) (n * 8 + 8) in
    let long = length-slice_range list (n * 8) (n * 8 + 8) inside in
    let taken = length-first list (n * 8) (omega arith) in
    let front : slice_range (element_bits 64 to few) 0 (0 + 8) ≡ part =
    ap (λ (l : List Bool). slice_range l 0 (0 + 8)) gathered ∙ front_of part 8 (omega arith) in
    element-joined 64 to word moved (n * 8) (take (n * 8) list) part (omega arith) (omega arith) held (put ∙ ap (λ (l : List Bool). write_at (replicate 64 false) (n * 8) l) front)
    ∙ ap (padded 64) (take-range list (n * 8) (n * 8 + 8) ((n + 1) * 8) (omega arith) inside (omega arith))

pub eights-whole : (b : ℕ) → IsWidth b → b / 8 * 8 ≡ b
eights-whole b width = at_each_width (λ n. n / 8 * 8 ≡ n) refl refl refl refl refl b width

pub eights-all : (b n from to : ℕ) (list : List Bool) → IsWidth b → length list ≡ b → from ≤ to → to ≤ b → b ≤ to - from → b / 8 ≤ n → n ≤ b / 8 → take (n * 8) list ≡ slice_range list from to
eights-all b n from to list width long order bound whole low high =
    let all = eights-whole b width in
    same_lists _ _ (search (rules, places)) (λ k d inside. grind (arith, places))
