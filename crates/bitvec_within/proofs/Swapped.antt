-- Ranges exchanged, a stretch after the other.
use Rattle.std.specs.Prelude.{◌≡◌, ℕ, ◌+◌, ◌-◌, ◌≤◌, ◌⊎◌, Bool, List, length, slice_range, refl}
use Rattle.std.proofs.Common.{arith, ◌∙◌, ap}
use Rattle.std.proofs.lemmas.Bool.{cases_lt}
use Rattle.std.proofs.lemmas.List.{same_lists}
use Rattle.bitvec_base.specs.Lists.{copied_within}
use Rattle.bitvec_base.specs.Memory.{HasWindow, Writes, list_in}
use Rattle.bitvec_base.specs.Window.{window_range, write_at}
use Rattle.bitvec_base.specs.WritesLaws.{HasWindow-kept, Writes-holds, Writes-next, Writes-range, list-range}
use Rattle.bitvec_base.specs.declared.window.Window.{Window}
use Rattle.bitvec_within.specs.SwapsLaws.{get-swapped_back, get-swapped_front, get-swapped_outside, length-swapped}
use Rattle.bitvec_within.specs.Swaps.{swapped_within}

ruleset swaps = (length-swapped, get-swapped_front, get-swapped_back, get-swapped_outside)

module _ {X : Type 0} where
  -- by how many values they are
  pub swapped-by : (list : List X) (f t s n : ℕ) → t - f ≡ n → swapped_within f t s list ≡ write_at (write_at list f (slice_range list s (s + n))) s (slice_range list f t)
  unfolding swapped_within
  swapped-by list f t s n long = ap (λ (m : ℕ). write_at (write_at list f (slice_range list s (s + m))) s (slice_range list f t)) long

  -- and then a stretch more
  pub swapped-next : (list : List X) (f s d c : ℕ) → f + (d + c) ≤ length list → s + (d + c) ≤ length list → (f + (d + c) ≤ s) ⊎ (s + (d + c) ≤ f)
      → swapped_within (f + d) (f + d + c) (s + d) (swapped_within f (f + d) s list) ≡ swapped_within f (f + (d + c)) s list
  swapped-next list f s d c source room apart =
      same_lists _ _ (grind (arith, swaps)) (λ k e inside.
      let near = cases_lt k f in let near_next = cases_lt k (f + d) in let near_end = cases_lt k (f + (d + c)) in
      let far = cases_lt k s in let far_next = cases_lt k (s + d) in let far_end = cases_lt k (s + (d + c)) in
      grind (arith, swaps))

  -- the ranges named in the other order
  pub swapped-reordered : (list : List X) (f s n : ℕ) → f + n ≤ s → s + n ≤ length list → swapped_within f (f + n) s list ≡ swapped_within s (s + n) f list
  swapped-reordered list f s n apart fits =
      same_lists _ _ (grind (arith, swaps)) (λ k e inside.
      let near = cases_lt k f in let near_end = cases_lt k (f + n) in let far = cases_lt k s in let far_end = cases_lt k (s + n) in
      grind (arith, swaps))

-- what is held aside, copied to the other place
pub stretch-swapped : {b : ℕ} {at : ℕ → ℕ → ℕ} {old mid new held kept : List ℕ} {window aside : Window} (f s c : ℕ) → HasWindow b old window → HasWindow b held aside
    → f + c ≤ window.len → s + c ≤ window.len
    → Writes b at held kept aside (list_in b at old (window_range window f (f + c)))
    → Writes b at old mid window (copied_within s (s + c) f (list_in b at old window))
    → Writes b at mid new (window_range window s (s + c)) (list_in b at kept aside)
    → Writes b at old new window (swapped_within f (f + c) s (list_in b at old window))
unfolding copied_within swapped_within
stretch-swapped {b} {at} {old} {mid} {new} {held} {kept} {window} {aside} f s c has room source dest first second third =
    let list = list_in b at old window in
    let saved = Writes-holds room first ∙ list-range at f (f + c) has (omega arith) source in
    let count : f + c - f ≡ c = omega arith in
    Writes-next (λ (l : List Bool). write_at l s (list_in b at kept aside)) has second
    (Writes-range s (s + c) (HasWindow-kept mid has second.elements) (omega arith) dest third)
    (rw (saved, count) refl)
