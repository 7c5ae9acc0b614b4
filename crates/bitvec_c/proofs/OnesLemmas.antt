-- The places of the ones of a list from a place on.
use Rattle.std.specs.Prelude.{◌≡◌, ℕ, ◌+◌, ◌-◌, ◌≤◌, zero, suc, Bool, true, false, cond, List, ◌∷◌, length, drop, filter, map, refl}
use Rattle.std.specs.Bool.{beq}
use Rattle.std.specs.List.{range_with_len}
use Rattle.std.proofs.Common.{arith, sym, ◌∙◌, ap, get_or, length-drop}
use Rattle.std.proofs.lemmas.List.{get_or-drop}
use Rattle.bitvec_base.specs.declared.window.Window.{Window}
use Rattle.bitvec_base.specs.Lists.{places_of}
use Rattle.bitvec_base.specs.Memory.{HasWindow, list_in}
use Rattle.bitvec_base.specs.WritesLaws.{length-list}
use Rattle.bitvec_places.specs.Places.{places_in}
use Rattle.bitvec_c.specs.Ones.{ones_from}

moved_by : (here : Bool) (f a : ℕ) (rest : List ℕ) → cond here ((f + a) ∷ map (λ i. f + i) rest) (map (λ i. f + i) rest) ≡ map (λ i. f + i) (cond here (a ∷ rest) rest)
moved_by true f a rest = refl
moved_by false f a rest = refl

-- a test of the numbers from f + a on that is another's of those from a on
filter-moved : (p q : ℕ → Bool) (f a n : ℕ) → ((k : ℕ) → p (f + k) ≡ q k) → filter p (range_with_len (f + a) n) ≡ map (λ i. f + i) (filter q (range_with_len a n))
filter-moved p q f a zero same = refl
filter-moved p q f a (suc n) same =
    let next : f + a + 1 ≡ f + (a + 1) = omega arith in
    let rest = filter-moved p q f (a + 1) n same in
    rw (same a, next, rest) (moved_by (q a) f a (filter q (range_with_len (a + 1) n)))

module _ (b : ℕ) (at : ℕ → ℕ → ℕ) (xs : List ℕ) (window : Window) (from : ℕ) (has : HasWindow b xs window) (inside : from ≤ window.len) where
  pub places-from : places_in true (list_in b at xs window) from window.len ≡ ones_from from (list_in b at xs window)
  unfolding places_in places_of
  places-from =
      let list = list_in b at xs window in
      let long = length-list at has in
      let left = length-drop from list in
      let count : window.len - from ≡ length (drop from list) = omega arith in
      let start : from ≡ from + 0 = omega arith in
      ap (λ (n : ℕ). filter (λ i. beq (get_or list i false) true) (range_with_len from n)) count
      ∙ ap (λ (a : ℕ). filter (λ i. beq (get_or list i false) true) (range_with_len a (length (drop from list)))) start
      ∙ filter-moved (λ i. beq (get_or list i false) true) (λ i. beq (get_or (drop from list) i false) true) from 0 (length (drop from list)) (λ k. ap (λ (bit : Bool). beq bit true) (sym (get_or-drop from list k false)))
