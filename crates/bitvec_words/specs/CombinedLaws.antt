-- What is made of two lists, a part of them at a time.
use Rattle.std.proofs.Math.Bool.{and-false, or-false}
use Rattle.std.specs.Prelude.{◌≡◌, ℕ, ◌+◌, ◌<◌, ◌≤◌, ◌⊎◌, ◌*◌, slice_index, Bool, false, refl, List, [], ◌++◌, length, take, replicate, slice_range}
use Rattle.std.proofs.Common.{arith, rules, sym, ◌∙◌, ap, ⊎_elim}
use Rattle.std.proofs.lemmas.List.{places, length-replicate}
use Rattle.bitvec_base.specs.Lists.{combined}
use Rattle.bitvec_base.specs.ListsLaws.{combined-is, get-combined, length-combined}
use Rattle.bitvec_base.specs.declared.window.Window.{Window}
use Rattle.bitvec_base.specs.Memory.{HasWindow, Writes, element_bits, list_in}
use Rattle.bitvec_base.specs.WritesLaws.{Writes-is, Writes-join, length-list, list-behind, list-join}
use Rattle.std.proofs.Math.Nat.{mul-le-mul_left}
use Rattle.bitvec_words.specs.Elements.{elements_window}
use Rattle.bitvec_words.specs.FieldLaws.{element_of, list-whole}
use Rattle.bitvec_words.specs.Operator.{operator}
use Rattle.bitvec_words.specs.declared.operator.BitOp.{BitOp}
use Rattle.bitvec_words.specs.declared.operator.BitOp.TheVariants.{And, AndNot, Or, Xor}

-- by the beginnings and the ends of both, where they begin with as many
pub combined-append : (f : Bool → Bool → Bool) (a b c d : List Bool) → length c ≡ length a → combined f a c ++ combined f b d ≡ combined f (a ++ b) (c ++ d)
combined-append f a b c d same =
    combined-is f (a ++ b) (c ++ d) (combined f a c ++ combined f b d) (search (rules, places, length-combined)) (λ k inside. grind (arith, places, length-combined, get-combined))

-- where the other list is no longer than the beginning
pub combined-short : (f : Bool → Bool → Bool) (a b c : List Bool) → length c ≤ length a → combined f a c ++ combined f b [] ≡ combined f (a ++ b) c
combined-short f a b c short =
    combined-is f (a ++ b) c (combined f a c ++ combined f b []) (search (rules, places, length-combined)) (λ k inside. grind (arith, places, length-combined, get-combined))

-- where the other list goes no further than the beginning, or the beginning is all
pub combined-first : (f : Bool → Bool → Bool) (a b c : List Bool) (n : ℕ) → n ≡ length a → ((k : ℕ) → length a ≤ k → k < length a + length b → length c ≤ k)
    → combined f a (take n c) ++ combined f b [] ≡ combined f (a ++ b) c
combined-first f a b c n all past =
    combined-is f (a ++ b) c (combined f a (take n c) ++ combined f b []) (search (rules, places, length-combined)) (λ k inside. grind (arith, places, length-combined, get-combined, past k))

-- what the list doesn't reach
pub combined-enough : (f : Bool → Bool → Bool) (a x y : List Bool) → ((k : ℕ) → length x ≤ k → k < length a → length x + length y ≤ k) → combined f a x ≡ combined f a (x ++ y)
combined-enough f a x y past = combined-is f a (x ++ y) (combined f a x) (length-combined f a x) (λ k inside. grind (arith, places, get-combined, past k))

-- with zeros behind the other list
pub combined-padded : (f : Bool → Bool → Bool) (a c : List Bool) (n : ℕ) → combined f a (c ++ replicate n false) ≡ combined f a c
combined-padded f a c n = combined-is f a c (combined f a (c ++ replicate n false)) (length-combined f a _) (λ k inside. grind (arith, places, get-combined))

-- a slice of both
pub combined-range : (f : Bool → Bool → Bool) (a c : List Bool) (i j : ℕ) → i ≤ j → j ≤ length a → slice_range (combined f a c) i j ≡ combined f (slice_range a i j) (slice_range c i j)
combined-range f a c i j order inside =
    combined-is f (slice_range a i j) (slice_range c i j) (slice_range (combined f a c) i j) (search (rules, places, length-combined)) (λ k below. grind (arith, places, length-combined, get-combined))

-- ---- with zeros

pub combined-and_zeros : (list : List Bool) → replicate (length list) false ≡ combined (operator And) list []
combined-and_zeros list =
    combined-is (operator And) list [] (replicate (length list) false) (length-replicate (length list) false) (λ k inside. grind (arith, places, and-false))

pub combined-or_zeros : (list : List Bool) → list ≡ combined (operator Or) list []
combined-or_zeros list = combined-is (operator Or) list [] list refl (λ k inside. grind (arith, places, or-false))

pub combined-xor_zeros : (list : List Bool) → list ≡ combined (operator Xor) list []
combined-xor_zeros list = combined-is (operator Xor) list [] list refl (λ k inside. grind (arith, places))

pub combined-and_not_zeros : (list : List Bool) → list ≡ combined (operator AndNot) list []
combined-and_not_zeros list = combined-is (operator AndNot) list [] list refl (λ k inside. grind (arith, places))

pub combined-kept : (op : BitOp) (list : List Bool) → (op ≡ Or) ⊎ (op ≡ Xor) ⊎ (op ≡ AndNot) → list ≡ combined (operator op) list []
combined-kept op list is =
    ⊎_elim (λ e. rw e (combined-or_zeros list)) (λ rest. ⊎_elim (λ e. rw e (combined-xor_zeros list)) (λ e. rw e (combined-and_not_zeros list)) rest) is

-- ---- elements, one after the other

-- a beginning of whole elements
pub length-elements : (b : ℕ) (at : ℕ → ℕ → ℕ) (xs : List ℕ) (start count step : ℕ) → HasWindow b xs (record { start = start; len = count * b }) → step < count → length (list_in b at xs (record { start = start; len = step * b })) ≡ step * b
length-elements b at xs start count step has more =
    let order = mul-le-mul_left b more in
    length-list {b = b} at {xs = xs} {window = record { start = start; len = step * b }} (record { fits = has.fits; within = record { start = has.within.start; len = omega arith } })

-- an element that stands behind those that were written
pub element-kept : {b : ℕ} {at : ℕ → ℕ → ℕ} {old mid : List ℕ} (first count step : ℕ) {list : List Bool} → 0 < b → HasWindow b old (elements_window b first count) → step < count → Writes b at old mid (elements_window b first step) list
    → element_bits b at (slice_index mid (first + step)) ≡ element_bits b at (slice_index old (first + step))
element-kept {b} {at} {old} {mid} first count step {list} some has more writes =
    let order = mul-le-mul_left b more in
    let inside : first + step < length old = element_of b (first + step) 0 (length old) (omega arith) in
    let one : Window = record { start = (first + step) * b; len = b } in
    sym (list-whole b at mid (first + step) (omega arith))
    ∙ list-behind {behind = one}
    (record { fits = has.fits; within = record { start = has.within.start; len = omega arith } })
    (record { fits = has.fits; within = record { start = omega arith; len = omega arith } })
    (omega arith) writes
    ∙ list-whole b at old (first + step) inside

-- ---- windows side by side

pub Writes-both : {b : ℕ} (at : ℕ → ℕ → ℕ) (f : Bool → Bool → Bool) {old mid new : List ℕ} (first rest : Window) {whole : Window} (other part all : List Bool) → HasWindow b old whole → first.start ≡ whole.start → rest.start ≡ first.start + first.len → whole.len ≡ first.len + rest.len
    → ((a c : List Bool) → length a ≡ first.len → length c ≡ rest.len → combined f a other ++ combined f c part ≡ combined f (a ++ c) all)
    → Writes b at old mid first (combined f (list_in b at old first) other) → Writes b at mid new rest (combined f (list_in b at mid rest) part)
    → Writes b at old new whole (combined f (list_in b at old whole) all)
Writes-both {b} at f {old} {mid} {new} first rest {whole} other part all has start next len meets before after =
    let here : HasWindow b old first = record { fits = has.fits; within = record { start = omega arith; len = omega arith } } in
    let there : HasWindow b old rest = record { fits = has.fits; within = record { start = omega arith; len = omega arith } } in
    let kept = list-behind here there (omega arith) before in
    Writes-is
    (Writes-join has start next len before after)
    (ap (λ (l : List Bool). combined f (list_in b at old first) other ++ combined f l part) kept
    ∙ meets (list_in b at old first) (list_in b at old rest) (length-list at here) (length-list at there)
    ∙ ap (λ (l : List Bool). combined f l all) (list-join at first rest has start next len))
