-- Acts on the whole elements of a stretch, some after others.
use Rattle.std.proofs.Common.{◌≡◌, ℕ, ◌+◌, ◌-◌, ◌*◌, ◌^◌, ◌≤◌, ◌<◌, ◌==◌, Bool, true, false, List, [], ◌++◌, length, drop, take, slice_index, refl, arith, sym, ◌∙◌}
use Rattle.std.proofs.lemmas.Bool.Decides.{nat_tests}
use Rattle.std.proofs.Math.Nat.{mul-le-mul_left, mul-mod_left}
use Rattle.bitvec_base.specs.declared.window.Window.{Window}
use Rattle.bitvec_base.specs.Memory.{HasWindow, element_bits, list_in}
use Rattle.bitvec_base.specs.WritesLaws.{HasWindow-kept, length-list, list-join}
use Rattle.bitvec_store.specs.Width.{IsWidth}
use Rattle.bitvec_store.specs.WidthLaws.{width_some}
use Rattle.bitvec_words.specs.Elements.{elements_window, elements_window_from}
use Rattle.bitvec_words.specs.FieldLaws.{element_of, list-both, list-whole}
use Rattle.bitvec_words.specs.WholeLaws.{HasWindow-part, list-empty, list-same}
use Rattle.bitvec_words.specs.declared.stretch.Stretch.{Stretch}
use Rattle.bitvec_words.specs.Moves.{stretch_part}
use Rattle.bitvec_combine.specs.Acts.{HasStretch, IsCarried, IsCut}
use Rattle.bitvec_words.specs.MovedPlaceLaws.{next-inside}

-- k elements behind m others, where the first memory may have changed
pub stretch-part : {b : ℕ} {xs now ys : List ℕ} {stretch : Stretch} {equal : Bool} {carry last : ℕ} (m k : ℕ) → HasStretch b xs ys stretch equal carry → length now ≡ length xs → m + k ≤ stretch.count
    → IsCarried equal ys (stretch.source + m) last → HasStretch b now ys (stretch_part m k stretch) equal last
stretch-part {b} {xs} {now} {ys} {stretch} m k has long fits carried =
    let order = mul-le-mul_left b fits in
    record {
      span = record {
        window = HasWindow-kept now
            (HasWindow-part (elements_window b (stretch.first + m) k) has.span.window (omega arith) (omega arith)) long;
        beside = HasWindow-part (elements_window_from b (stretch.source + m) stretch.skip k) has.span.beside (omega arith) (omega arith);
        lengths = refl;
      };
      bound = has.bound;
      phases = has.phases;
      carried = carried;
    }

-- a place in a memory, and one in the other, as numbers of a word
word-place : {b : ℕ} {xs : List ℕ} {window : Window} (e : ℕ) → IsWidth b → HasWindow b xs window → e * b ≤ window.start + window.len → e < 2 ^ 64
word-place {b} e width has most =
    let some = mul-le-mul_left e (width_some b width) in
    omega arith

pub first-word : {b : ℕ} {xs ys : List ℕ} {stretch : Stretch} {equal : Bool} {carry : ℕ} (m : ℕ) → IsWidth b → HasStretch b xs ys stretch equal carry → m ≤ stretch.count → stretch.first + m < 2 ^ 64
first-word {b} m width has most = let order = mul-le-mul_left b most in word-place _ width has.span.window (omega arith)

pub source-word : {b : ℕ} {xs ys : List ℕ} {stretch : Stretch} {equal : Bool} {carry : ℕ} (m : ℕ) → IsWidth b → HasStretch b xs ys stretch equal carry → m ≤ stretch.count → stretch.source + m < 2 ^ 64
source-word {b} m width has most = let order = mul-le-mul_left b most in word-place _ width has.span.beside (omega arith)

pub source-inside : {b : ℕ} {xs ys : List ℕ} {stretch : Stretch} {equal : Bool} {carry : ℕ} (m : ℕ) → HasStretch b xs ys stretch equal carry → m < stretch.count → stretch.source + m < length ys
source-inside {b} {ys = ys} {stretch} m has more =
    let order = mul-le-mul_left b more in
    element_of b (stretch.source + m) 0 (length ys) (omega arith)

module _ {C S : Type 0} {b : ℕ} (numbers : C → List ℕ) (Done : (ℕ → ℕ → ℕ) → C → C → Window → List Bool → S → S → Type 0) where
  -- none
  pub stretch-none : ((at : ℕ → ℕ → ℕ) (c : C) (window : Window) (s : S) → HasWindow b (numbers c) window → window.len ≡ 0 → Done at c c window [] s s)
      → {at : ℕ → ℕ → ℕ} {c : C} {ys : List ℕ} {stretch : Stretch} {equal : Bool} {carry : ℕ} {s : S} (m : ℕ) → HasStretch b (numbers c) ys stretch equal carry → m ≡ 0
      → Done at c c (elements_window b stretch.first m) (list_in b at ys (elements_window_from b stretch.source stretch.skip m)) s s
  stretch-none empty {at} {c} {ys} {stretch} {s = s} m has is =
      let none : m * b ≡ 0 = rw is (omega arith) in
      rw (list-empty b at ys (elements_window_from b stretch.source stretch.skip m) none)
      (empty at c (elements_window b stretch.first m) s (HasWindow-part (elements_window b stretch.first m) has.span.window (omega arith) (omega arith)) none)

  -- k behind m others
  pub stretch-join : ((at : ℕ → ℕ → ℕ) (c d e : C) (whole first second : Window) (list other : List Bool) (s t u : S)
      → HasWindow b (numbers c) whole → IsCut b whole first second → Done at c d first list s t → Done at d e second other t u → Done at c e whole (list ++ other) s u)
      → {at : ℕ → ℕ → ℕ} {c d e : C} {ys : List ℕ} {stretch : Stretch} {equal : Bool} {carry : ℕ} {s t u : S} (m k n : ℕ)
      → HasStretch b (numbers c) ys stretch equal carry → m + k ≡ n → n ≤ stretch.count
      → Done at c d (elements_window b stretch.first m) (list_in b at ys (elements_window_from b stretch.source stretch.skip m)) s t
      → Done at d e (elements_window b (stretch.first + m) k) (list_in b at ys (elements_window_from b (stretch.source + m) stretch.skip k)) t u
      → Done at c e (elements_window b stretch.first n) (list_in b at ys (elements_window_from b stretch.source stretch.skip n)) s u
  stretch-join join {at} {c} {d} {e} {ys} {stretch} {s = s} {t} {u} m k n has sum fits before after =
      let most : m + k ≤ stretch.count = omega arith in
      let order = mul-le-mul_left b most in
      rw (← sum) (rw (sym (list-join at (elements_window_from b stretch.source stretch.skip m) (elements_window_from b (stretch.source + m) stretch.skip k)
      (HasWindow-part (elements_window_from b stretch.source stretch.skip (m + k)) has.span.beside (omega arith) (omega arith)) refl (omega arith) (omega arith)))
      (join at c d e (elements_window b stretch.first (m + k)) (elements_window b stretch.first m) (elements_window b (stretch.first + m) k) _ _ s t u
      (HasWindow-part (elements_window b stretch.first (m + k)) has.span.window (omega arith) (omega arith))
      (record { start = refl; next = omega arith; len = omega arith; edge = mul-mod_left (stretch.first + m) b }) before after))

  -- where the act stops, all are done
  pub stretch-stop : {stopped : S → Bool} → ((at : ℕ → ℕ → ℕ) (c d : C) (whole first : Window) (list other : List Bool) (s t : S)
      → HasWindow b (numbers c) whole → first.start ≡ whole.start → whole.len ≡ first.len + length other → stopped t ≡ true → Done at c d first list s t → Done at c d whole (list ++ other) s t)
      → {at : ℕ → ℕ → ℕ} {c d : C} {ys : List ℕ} {stretch : Stretch} {equal : Bool} {carry : ℕ} {s t : S} (m : ℕ)
      → HasStretch b (numbers c) ys stretch equal carry → m ≤ stretch.count → stopped t ≡ true
      → Done at c d (elements_window b stretch.first m) (list_in b at ys (elements_window_from b stretch.source stretch.skip m)) s t
      → Done at c d (elements_window b stretch.first stretch.count) (list_in b at ys (elements_window_from b stretch.source stretch.skip stretch.count)) s t
  stretch-stop stop {at} {c} {d} {ys} {stretch} {s = s} {t} m has fits ends done =
      let order = mul-le-mul_left b fits in
      let rest : Window = record { start = stretch.source * b + stretch.skip + m * b; len = stretch.count * b - m * b } in
      let long = length-list at (HasWindow-part rest has.span.beside (omega arith) (omega arith)) in
      rw (sym (list-join at (elements_window_from b stretch.source stretch.skip m) rest has.span.beside refl refl (omega arith)))
      (stop at c d (elements_window b stretch.first stretch.count) (elements_window b stretch.first m) _ _ s t has.span.window refl (omega arith) ends done)

-- an index that isn't 0
pub skip-some : (n : ℕ) → (0 == n) ≡ false → 0 < n
skip-some n some = grind (arith, nat_tests)

pub index-same : (n m : ℕ) → (n == m) ≡ true → n ≡ m
index-same n m same = grind (arith, nat_tests)

-- one, as it is, and joined of two
pub element-alone : {b : ℕ} {xs ys : List ℕ} (at : ℕ → ℕ → ℕ) {stretch : Stretch} {carry : ℕ} (m : ℕ) → HasStretch b xs ys stretch true carry → m < stretch.count
    → list_in b at ys (record { start = (stretch.source + m) * b + stretch.skip; len = b }) ≡ element_bits b at (slice_index ys (stretch.source + m))
element-alone {b} {ys = ys} at {stretch} m has more =
    let none = index-same 0 stretch.skip has.phases in
    list-same b at ys (record { start = (stretch.source + m) * b; len = b }) (record { start = (stretch.source + m) * b + stretch.skip; len = b }) (omega arith) refl
    ∙ list-whole b at ys (stretch.source + m) (source-inside m has more)

pub element-joined : {b : ℕ} {xs ys : List ℕ} (at : ℕ → ℕ → ℕ) {stretch : Stretch} {carry : ℕ} (m : ℕ) → HasStretch b xs ys stretch false carry → m < stretch.count
    → list_in b at ys (record { start = (stretch.source + m) * b + stretch.skip; len = b })
    ≡ drop stretch.skip (element_bits b at (slice_index ys (stretch.source + m))) ++ take stretch.skip (element_bits b at (slice_index ys (stretch.source + m + 1)))
element-joined {b} {ys = ys} at {stretch} m has more =
    list-both b at ys (stretch.source + m) stretch.skip has.bound (next-inside b ys ys stretch.source stretch.skip stretch.count m has.span.beside (skip-some _ has.phases) more refl)
