-- Whole elements that are filled, or flipped, one after the other.
use Rattle.std.specs.Prelude.{◌≡◌, ◌≢◌, ℕ, ◌+◌, ◌-◌, ◌*◌, ◌^◌, ◌<◌, if◌then◌else◌, Bool, not, List, ◌++◌, map, replicate, slice_index, slice_set, refl}
use Rattle.std.proofs.Common.{arith, sym, ◌∙◌, ap}
use Rattle.std.proofs.lemmas.Bool.{cond-false, ne_eqb}
use Rattle.std.proofs.lemmas.List.{map-append, replicate-append-replicate}
use Rattle.bitvec_base.specs.Memory.{HasWindow, Writes, element_bits, list_in}
use Rattle.bitvec_base.specs.Order.{Permutes}
use Rattle.bitvec_base.specs.WritesLaws.{Writes-empty, Writes-is}
use Rattle.bitvec_cells.specs.Cost.{fill_loads}
use Rattle.bitvec_cells.specs.ElementLaws.{element-filled, element-flipped}
use Rattle.bitvec_words.specs.CombinedLaws.{element-kept}
use Rattle.bitvec_words.specs.Elements.{elements_window}
use Rattle.bitvec_words.specs.FieldLaws.{Writes-element, list-element}
use Rattle.bitvec_words.specs.WholeLaws.{list-empty}

-- n values of one kind, where n is told in another way
pub replicate-is : {n m : ℕ} (bit : Bool) → n ≡ m → replicate n bit ≡ replicate m bit
replicate-is bit same = ap (λ (k : ℕ). replicate k bit) same

pub replicate-parts : (n m all : ℕ) (bit : Bool) → n + m ≡ all → replicate n bit ++ replicate m bit ≡ replicate all bit
replicate-parts n m all bit sum = replicate-append-replicate n m bit ∙ replicate-is bit sum

-- ---- no element, and one more

pub Writes-none_filled : {b : ℕ} {at : ℕ → ℕ → ℕ} {xs : List ℕ} (first count : ℕ) (bit : Bool) → HasWindow b xs (elements_window b first count) → Writes b at xs xs (elements_window b first 0) (replicate (0 * b) bit)
Writes-none_filled {b} {at} {xs} first count bit has =
    let none : 0 * b ≡ 0 = omega arith in
    Writes-is
    (Writes-empty {b = b} at {xs = xs} xs {window = elements_window b first 0} (record { fits = has.fits; within = record { start = has.within.start; len = omega arith } }) none refl)
    (replicate-is bit (sym none))

pub Writes-filled : {b : ℕ} {at : ℕ → ℕ → ℕ} → Permutes b (at b) → {old mid : List ℕ} (first : ℕ) {count step : ℕ} (bit : Bool) → 0 < b → HasWindow b old (elements_window b first count) → step < count
    → Writes b at old mid (elements_window b first step) (replicate (step * b) bit)
    → Writes b at old (slice_set mid (first + step) (if bit then 2 ^ b - 1 else 0)) (elements_window b first (step + 1)) (replicate ((step + 1) * b) bit)
Writes-filled {b} {at} p {old} {mid} first {count} {step} bit some has more before =
    Writes-is
    (Writes-element first count step (if bit then 2 ^ b - 1 else 0) some has more before)
    (ap (λ (l : List Bool). replicate (step * b) bit ++ l) (element-filled b at p bit)
    ∙ replicate-parts (step * b) b ((step + 1) * b) bit (omega arith))

pub Writes-none_flipped : {b : ℕ} {at : ℕ → ℕ → ℕ} {xs : List ℕ} (first count : ℕ) → HasWindow b xs (elements_window b first count) → Writes b at xs xs (elements_window b first 0) (map not (list_in b at xs (elements_window b first 0)))
Writes-none_flipped {b} {at} {xs} first count has =
    let none : 0 * b ≡ 0 = omega arith in
    let here : HasWindow b xs (elements_window b first 0) = record { fits = has.fits; within = record { start = has.within.start; len = omega arith } } in
    let nothing = list-empty b at xs (elements_window b first 0) none in
    Writes-is
    (Writes-empty at xs here none refl)
    (ap (map not) (sym nothing))

pub Writes-flipped : {b : ℕ} {at : ℕ → ℕ → ℕ} → Permutes b (at b) → {old mid : List ℕ} (first : ℕ) {count step v : ℕ} → 0 < b → HasWindow b old (elements_window b first count) → step < count → v ≡ slice_index mid (first + step) → v < 2 ^ b
    → Writes b at old mid (elements_window b first step) (map not (list_in b at old (elements_window b first step)))
    → Writes b at old (slice_set mid (first + step) (2 ^ b - 1 - v)) (elements_window b first (step + 1)) (map not (list_in b at old (elements_window b first (step + 1))))
Writes-flipped {b} {at} p {old} {mid} first {count} {step} {v} some has more is small before =
    let front = list_in b at old (elements_window b first step) in
    let here = element_bits b at (slice_index old (first + step)) in
    Writes-is
    (Writes-element first count step (2 ^ b - 1 - v) some has more before)
    (ap (λ (l : List Bool). map not front ++ l)
    (element-flipped b at p v small
    ∙ ap (λ (n : ℕ). map not (element_bits b at n)) is
    ∙ ap (map not) (element-kept first count step some has more before))
    ∙ sym (map-append not front here)
    ∙ ap (map not) (list-element at first count step some has more))

-- ---- loads

pub fill_loads-some : (n : ℕ) → n ≢ 0 → fill_loads n ≡ 2
fill_loads-some n some = cond-false _ _ _ (ne_eqb n 0 some)
