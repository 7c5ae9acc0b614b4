-- Windows written by whole words of another memory, and by blocks.
use Rattle.std.specs.Prelude.{◌≡◌, ℕ, ◌+◌, ◌-◌, ◌*◌, ◌/◌, ◌%◌, ◌<◌, ◌≤◌, min, Bool, List, length, slice_range, take}
use Rattle.std.proofs.Common.{arith, rules, subst, sym, ◌∙◌, ap}
use Rattle.std.proofs.Math.Nat.{mul-le-mul_left}
use Rattle.std.proofs.lemmas.List.{places, same_lists}
use Rattle.std.proofs.lemmas.Nat.{div-add-mod'}
use Rattle.bitvec_passes.specs.Pairs.{HasPair}
use Rattle.bitvec_words.specs.WordLaws.{word_whole}
use Rattle.bitvec_words.specs.CombinedLaws.{combined-range}
use Rattle.bitvec_words.specs.Elements.{elements_window, elements_window_from}
use Rattle.bitvec_base.specs.declared.window.Window.{Window}
use Rattle.bitvec_base.specs.Lists.{combined}
use Rattle.bitvec_base.specs.ListsLaws.{length-combined}
use Rattle.bitvec_base.specs.Memory.{HasWindow, Writes, element_bits, list_in}
use Rattle.bitvec_base.specs.Window.{window_range}
use Rattle.bitvec_base.specs.WritesLaws.{length-list, list-range}
use Rattle.bitvec_store.specs.Width.{IsWidth}
use Rattle.bitvec_store.specs.WidthLaws.{at_each_width}
use Rattle.bitvec_elements.proofs.StoreLemmas.{stretch-next, stretch-old, until}

-- ---- whole words

-- the elements of a window's word k, and those of a window that begins at the edge of a word
module _ (b w k : ℕ) (window : Window) (width : IsWidth b) (is : w ≡ b) (narrow : b ≤ 64) where
  at_place : (s r : ℕ) → s ≡ window.start + k * 64 → r ≡ 64 → (let it : Window = record { start = s; len = r } in it) ≡ window_range window (k * 64) (k * 64 + 64)
  at_place s r start size =
      let len : r ≡ k * 64 + 64 - k * 64 = omega arith in
      ap (λ (n : ℕ). (let it : Window = record { start = n; len = r } in it)) start ∙ ap (λ (n : ℕ). (let it : Window = record { start = window.start + k * 64; len = n } in it)) len

  place : (window.start / b + k * (64 / b)) * b + window.start % b ≡ window.start + k * 64
  place =
      let row = ap (λ (m : ℕ). k * m) (word_whole b width narrow) in
      let cut = div-add-mod' window.start b in
      omega arith

  pub word-window : elements_window_from b (window.start / w + k * (64 / w)) (window.start % w) (64 / b) ≡ window_range window (k * 64) (k * 64 + 64)
  word-window = rw is (at_place _ _ place (word_whole b width narrow))

  pub edge-window : window.start % 64 ≡ 0 → elements_window b (window.start / w + k * (64 / w)) (64 / b) ≡ window_range window (k * 64) (k * 64 + 64)
  edge-window edge =
      let at_edge : window.start % b ≡ 0 = at_each_width (λ n. n ≤ 64 → window.start % n ≡ 0) (λ _. omega arith) (λ _. omega arith) (λ _. omega arith) (λ _. edge) (λ wide. absurd (omega arith)) b width narrow in
      let start : (window.start / b + k * (64 / b)) * b ≡ window.start + k * 64 = omega (arith, place) in
      rw is (at_place _ _ start (word_whole b width narrow))

-- a word more of another memory
pub word-recut : {b d w e : ℕ} {at : ℕ → ℕ → ℕ} (way : ℕ → ℕ → ℕ) {old mid new ys : List ℕ} {to from : Window} (k : ℕ) {next : ℕ} (word made : ℕ) → IsWidth b → IsWidth d → w ≡ b → e ≡ d → b ≤ 64 → d ≤ 64 → HasPair b old to d ys from
    → to.start % 64 ≡ 0 → k < to.len / 64 → next ≡ k + 1
    → element_bits 64 way word ≡ list_in d way ys (elements_window_from d (from.start / e + k * (64 / e)) (from.start % e) (64 / d)) → element_bits 64 at made ≡ element_bits 64 way word
    → Writes b at old mid (until to (k * 64)) (take (k * 64) (list_in d way ys from)) → Writes b at mid new (elements_window b (to.start / w + k * (64 / w)) (64 / b)) (element_bits 64 at made)
    → Writes b at old new (until to (next * 64)) (take (next * 64) (list_in d way ys from))
word-recut {b} {d} {w} {e} {at} way {old} {mid} {new} {ys} {to} {from} k {next} word made width others same alike narrow short pair edge below more loaded reordered before after =
    let list = list_in d way ys from in
    let lengths = pair.lengths in
    let end : k * 64 + 64 ≤ to.len = omega arith in
    let long = length-list way pair.beside ∙ sym lengths in
    let bits = reordered ∙ loaded ∙ ap (list_in d way ys) (word-window d e k from others alike short) ∙ list-range way (k * 64) (k * 64 + 64) pair.beside (omega arith) (omega arith) in
    let stored = subst (λ (part : Window). Writes b at mid new part (element_bits 64 at made)) (edge-window b w k to width same narrow edge) after in
    subst (λ (m : ℕ). Writes b at old new (until to m) (take m list)) (let all : k * 64 + 64 ≡ next * 64 = omega arith in all)
    (stretch-next new list (k * 64) (k * 64 + 64) pair.window (omega arith) end long bits before stored)

-- ---- blocks

-- the first bits of a block
pub block-window : {b n : ℕ} {xs : List ℕ} {window : Window} → IsWidth b → length xs ≡ n → n ≤ 8192 → window.start ≡ 0 → window.len ≤ b * n → HasWindow b xs window
block-window {b} {n} {xs} width long few start fits =
    let most : b ≤ 128 = at_each_width (λ m. m ≤ 128) (omega arith) (omega arith) (omega arith) (omega arith) (omega arith) b width in
    let room = mul-le-mul_left b few in
    let all : b * length xs ≡ b * n = ap (λ (m : ℕ). b * m) long in
    record { fits = omega arith; within = record { start = omega arith; len = omega arith } }

-- the stretch of a window that a block has, combined with a shorter list
range-short : (ys : List Bool) (from to r : ℕ) → r ≡ length ys → from ≤ to → slice_range ys (min from r) (min to r) ≡ slice_range ys from to
range-short ys from to r long order = same_lists _ _ (search (rules, places)) (λ k d inside. grind (arith, places))

pub block-combined : {b d : ℕ} {at : ℕ → ℕ → ℕ} (way : ℕ → ℕ → ℕ) (f : Bool → Bool → Bool) {old mid new ys : List ℕ} {to right part other : Window} {held : List Bool} (from next r : ℕ) → HasWindow b old to → HasWindow d ys right → r ≡ right.len → from ≤ next → next ≤ to.len
    → part ≡ window_range to from next → other ≡ window_range right (min from r) (min next r) → held ≡ list_in d way ys other
    → Writes b at old mid (until to from) (take from (combined f (list_in b at old to) (list_in d way ys right))) → Writes b at mid new part (combined f (list_in b at mid part) held)
    → Writes b at old new (until to next) (take next (combined f (list_in b at old to) (list_in d way ys right)))
block-combined {b} {d} {at} way f {old} {mid} {new} {ys} {to} {right} {part} {other} {held} from next r has beside size order bound is other-is holds before after =
    let xs = list_in b at old to in
    let zs = list_in d way ys right in
    let long = length-list at has in
    let right_long = length-list way beside in
    let left = stretch-old from next has order bound before in
    let cut = holds ∙ ap (list_in d way ys) other-is ∙ list-range way (min from r) (min next r) beside (omega arith) (omega arith) ∙ range-short zs from next r (size ∙ sym right_long) order in
    let made = ap (λ (l : List Bool). combined f l held) (ap (list_in b at mid) is ∙ left) ∙ ap (combined f (slice_range xs from next)) cut ∙ sym (combined-range f xs zs from next order (omega arith)) in
    stretch-next new (combined f xs zs) from next has order bound (length-combined f xs zs ∙ long) made before (subst (λ (p : Window). Writes b at mid new p (combined f (list_in b at mid part) held)) is after)

-- what another memory had that is written there as well
pub block-swapped : {b d : ℕ} {at way : ℕ → ℕ → ℕ} {old mid new ys now : List ℕ} {to right part other : Window} {held : List Bool} (from next : ℕ) {first : List Bool} → HasWindow b old to → HasWindow d ys right → to.len ≡ right.len → from ≤ next → next ≤ to.len
    → part ≡ window_range to from next → other ≡ window_range right from next → Writes d way ys now (until right from) first → held ≡ list_in d way now other
    → Writes b at old mid (until to from) (take from (list_in d way ys right)) → Writes b at mid new part held → Writes b at old new (until to next) (take next (list_in d way ys right))
block-swapped {b} {d} {at} {way} {old} {mid} {new} {ys} {now} {to} {right} {part} {other} {held} from next {first} has beside lengths order bound is other-is wrote holds before after =
    let long = length-list way beside ∙ sym lengths in
    let cut = holds ∙ ap (list_in d way now) other-is ∙ stretch-old from next beside order (omega arith) wrote in
    stretch-next new _ from next has order bound long cut before (subst (λ (p : Window). Writes b at mid new p held) is after)
