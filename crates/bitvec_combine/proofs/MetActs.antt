-- Acts on two windows, the second of which may end before the first, by their whole elements and what is before and behind these.
use Rattle.std.proofs.Common.{◌≡◌, ◌≢◌, ℕ, min, ◌+◌, ◌-◌, ◌*◌, ◌/◌, ◌%◌, ◌≤◌, ◌<◌, ◌==◌, Bool, true, false, List, ◌++◌, length, slice_index, refl, ap, arith, sym, ◌∙◌}
use Rattle.std.proofs.lemmas.Bool.Decides.{nat_tests}
use Rattle.std.proofs.lemmas.Nat.{div-add-mod', mod-mul-add}
use Rattle.bitvec_base.specs.declared.part.Part.{Part}
use Rattle.bitvec_base.specs.declared.window.Window.{Window}
use Rattle.bitvec_base.specs.Memory.{HasWindow, list_in}
use Rattle.bitvec_base.specs.Parts.{first_part_of, part_window}
use Rattle.bitvec_base.specs.Window.{window_until}
use Rattle.bitvec_base.specs.WritesLaws.{length-list, list-join}
use Rattle.bitvec_cells.specs.Cost.{touched_count}
use Rattle.bitvec_cells.specs.WalkLaws.{first-place}
use Rattle.bitvec_words.specs.Elements.{elements_window, elements_window_from}
use Rattle.bitvec_words.specs.MovedLaws.{length-padded}
use Rattle.bitvec_words.specs.ShortWindow.{padded}
use Rattle.bitvec_words.specs.TouchedLaws.{apart_edge, head_edge, inside_element, touched-edge, touched-first, touched-inside, touched-after}
use Rattle.bitvec_words.specs.WholeLaws.{HasWindow-part, touched-behind_from, window-same}
use Rattle.bitvec_combine.specs.Acts.{HasMet, IsCarried, bits_beside, held}
use Rattle.bitvec_combine.specs.ActLaws.{padded-join}
use Rattle.bitvec_words.specs.WordLaws.{padded-all}
use Rattle.bitvec_combine.proofs.StretchActs.{index-same, skip-some}

-- all whole elements of the second, where these are all bits
pub elements-all : {C S : Type 0} {b : ℕ} {xs : List ℕ} (Done : (ℕ → ℕ → ℕ) → C → C → Window → List Bool → S → S → Type 0)
    → {at : ℕ → ℕ → ℕ} {c d : C} {ys : List ℕ} {s t : S} {left right : Window} → 0 < b → HasMet b xs ys left right → left.start % b ≡ 0 → right.len / b * b ≡ right.len
    → Done at c d (elements_window b (left.start / b) (right.len / b)) (list_in b at ys (elements_window_from b (right.start / b) (right.start % b) (right.len / b))) s t
    → Done at c d left (bits_beside b at ys left right) s t
elements-all {b = b} Done {at} {ys = ys} {left} {right} some met edge full done =
    let place = div-add-mod' left.start b in
    let source = div-add-mod' right.start b in
    let end : left.start + right.len ≡ (left.start / b + right.len / b) * b + 0 = omega arith in
    let last : (left.start + right.len) % b ≡ 0 = rw end (mod-mul-add (left.start / b + right.len / b) b 0 some) in
    let shorter = rw last at met.inside in
    let same : left.len ≡ right.len = grind arith in
    let long = length-list at met.beside in
    rw (padded-all {b = left.len} {list = list_in b at ys right} (omega arith))
    (rw (window-same (elements_window b (left.start / b) (right.len / b)) left (omega arith) (omega arith), window-same (elements_window_from b (right.start / b) (right.start % b) (right.len / b)) right (omega arith) (omega arith)) at done)

-- the bits before a place and behind it
pub beside-join : (b : ℕ) (at : ℕ → ℕ → ℕ) (ys : List ℕ) (first rest right : Window) (n m : ℕ) → HasWindow b ys right → first.start ≡ right.start → rest.start ≡ first.start + first.len
    → right.len ≡ first.len + rest.len → n ≡ first.len + m → list_in b at ys first ++ padded m (list_in b at ys rest) ≡ padded n (list_in b at ys right)
beside-join b at ys first rest right n m has start next len sum =
    padded-join m _ _ sum (length-list at (HasWindow-part first has (omega arith) (omega arith))) ∙ ap (padded n) (list-join at first rest has start next len)

-- where the act stops behind the first bits, all are done
pub beside-stop : {C S : Type 0} {b : ℕ} (numbers : C → List ℕ) (Done : (ℕ → ℕ → ℕ) → C → C → Window → List Bool → S → S → Type 0) {stopped : S → Bool}
    → ((at : ℕ → ℕ → ℕ) (c d : C) (whole first : Window) (list other : List Bool) (s t : S)
    → HasWindow b (numbers c) whole → first.start ≡ whole.start → whole.len ≡ first.len + length other → stopped t ≡ true → Done at c d first list s t → Done at c d whole (list ++ other) s t)
    → {at : ℕ → ℕ → ℕ} {c d : C} {ys : List ℕ} {s t : S} {left right first : Window} (part : Window) → HasMet b (numbers c) ys left right
    → first.start ≡ left.start → part.start ≡ right.start → part.len ≡ first.len → part.len ≤ right.len → stopped t ≡ true
    → Done at c d first (list_in b at ys part) s t → Done at c d left (bits_beside b at ys left right) s t
beside-stop {b = b} numbers Done stop {at} {c} {d} {ys} {s} {t} {left} {right} {first} part met place source long fits ends done =
    let rest : Window = record { start = part.start + part.len; len = right.len - part.len } in
    let behind = length-list at (HasWindow-part rest met.beside (omega arith) (omega arith)) in
    rw (sym (beside-join b at ys part rest right left.len (left.len - first.len) met.beside source refl (omega arith) (omega arith)))
    (stop at c d left first _ _ s t met.window place (omega (arith, length-padded (left.len - first.len) (list_in b at ys rest) (omega arith))) ends done)

-- ---- the part before the first edge of an element, of t bits

pub head-window : (b : ℕ) {t : ℕ} (to : Window) {head : Part} → t ≡ head.to - head.from → head ≡ first_part_of b to → part_window b head ≡ record { start = to.start; len = t }
head-window b {t} to {head} long is = window-same (part_window b head) (record { start = to.start; len = t }) (rw is (first-place b to)) (sym long)

-- what was done with it, where the second window goes on behind it
pub head-done : {C S : Type 0} (Done : (ℕ → ℕ → ℕ) → C → C → Window → List Bool → S → S → Type 0) {at : ℕ → ℕ → ℕ} {c d : C} {ys : List ℕ} {s u : S} {b t : ℕ} (to : Window) {from met : Window} {head : Part}
    → t ≡ head.to - head.from → head ≡ first_part_of b to → HasWindow b ys from → t ≤ from.len → met ≡ window_until (from.len - min t from.len) from
    → Done at c d (part_window b head) (padded (head.to - head.from) (list_in b at ys met)) s u
    → Done at c d (record { start = to.start; len = t }) (list_in b at ys (record { start = from.start; len = t })) s u
head-done Done {at} {ys = ys} {b} {t} to {from} {met} {head} long is has fits taken done =
    let part : Window = record { start = from.start; len = t } in
    let whole : met ≡ part = taken ∙ window-same _ part refl (omega arith) in
    rw (head-window b to long is, ← long, whole, padded-all (length-list at (HasWindow-part part has (omega arith) (omega arith)))) at done

-- the second window behind it begins at the edge, too, or doesn't
pub rest-phases : (b s r t n : ℕ) (equal : Bool) → 0 < b → t ≡ min n (b - s % b) → t ≢ n → (s % b == r % b) ≡ equal → (0 == (r + t) % b) ≡ equal
rest-phases b s r t n true some part more same =
    let index = index-same (s % b) (r % b) same in
    let edge = head_edge b r t n some (part ∙ ap (λ (k : ℕ). min n (b - k)) index) more in
    rw edge refl
rest-phases b s r t n false some part more apart =
    let inside = apart_edge b s r t n some part more (grind (arith, nat_tests)) in
    grind (arith, nat_tests)

-- the element with its first bit is the last one of those before
pub rest-carried : (b : ℕ) (ys : List ℕ) {equal : Bool} {carry : ℕ} (s t : ℕ) → 0 < b → (0 == (s + t) % b) ≡ equal → IsCarried equal ys ((s + t - 1) / b) carry → IsCarried equal ys ((s + t) / b) carry
rest-carried b ys s t some phases carried = λ apart. carried apart ∙ ap (slice_index ys) (inside_element b s t some (skip-some ((s + t) % b) (phases ∙ apart)))

-- the elements that the second window touches, without those that are carried
pub touched-head : (b s t n : ℕ) (equal : Bool) → 0 < b → 0 < t → t < n → (0 == (s + t) % b) ≡ equal
    → held equal + (touched_count b s t - held equal) + (touched_count b (s + t) (n - t) - held equal) ≡ touched_count b s n
touched-head b s t n true some more fits edge =
    let all : t + (n - t) ≡ n = omega arith in
    let both = rw all at (touched-edge b s t (n - t) some (sym (index-same 0 ((s + t) % b) edge))) in
    omega arith
touched-head b s t n false some more fits inside =
    let all : t + (n - t) ≡ n = omega arith in
    let both = rw all at (touched-inside b s t (n - t) some more (skip-some ((s + t) % b) inside)) in
    let first = touched-first b s t more in
    omega arith

pub touched-elements : (b s n m : ℕ) (equal : Bool) → 0 < b → (0 == s % b) ≡ equal → m * b ≤ n
    → touched_count b s n - held equal ≡ m + (touched_count b (s + m * b) (n - m * b) - held equal)
touched-elements b s n m true some edge fits = let all = touched-after b s n m some (sym (index-same 0 (s % b) edge)) fits in omega arith
touched-elements b s n m false some inside fits = touched-behind_from b s n m some (skip-some (s % b) inside) fits
