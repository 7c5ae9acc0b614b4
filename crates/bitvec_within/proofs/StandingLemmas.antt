-- Where a needle stands, by the words of the list and its own first bits.
use Rattle.std.specs.Prelude.{◌≡◌, ℕ, ◌+◌, ◌-◌, ◌<◌, ◌≤◌, Bool, true, false, List, length, slice_index_or, slice_range}
use Rattle.std.proofs.Common.{arith, sym, ◌∙◌, ap, ⊎_elim}
use Rattle.std.proofs.lemmas.Bool.{cases_lt, false_from_ne_true}
use Rattle.bitvec_base.specs.Lists.{stands_at}
use Rattle.bitvec_base.specs.ListsLaws.{same_bits-decides, stands_at-fits, stands_at-long}
use Rattle.bitvec_base.specs.Memory.{element_bits}
use Rattle.bitvec_base.specs.WriteLaws.{get-slice_range}
use Rattle.bitvec_elements.specs.BitsFrom.{HasBitsFrom}
use Rattle.bitvec_within.specs.Candidates.{HasStarts}
use Rattle.bitvec_within.proofs.CandidateLemmas.{beside}

-- where a list stands, its bits are
agrees : (part list : List Bool) (k : ℕ) → stands_at part list k ≡ true → (j : ℕ) → j < length part → slice_index_or list (k + j) false ≡ slice_index_or part j false
agrees part list k there j below =
    ⊎_elim (λ (long : length list < k + length part). let none = stands_at-long part list k long in cc)
    (λ (fits : k + length part ≤ length list).
    let same = (same_bits-decides (slice_range list k (k + length part)) part).0 (sym (stands_at-fits part list k fits) ∙ there) in
    sym (get-slice_range list k (k + length part) j false (omega arith)) ∙ ap (λ (l : List Bool). slice_index_or l j false) same)
    (cases_lt (length list) (k + length part))

pub begins_inside : (part list : List Bool) (k : ℕ) → stands_at part list k ≡ true → k ≤ length list
begins_inside part list k there =
    ⊎_elim (λ (long : length list < k + length part). let none = stands_at-long part list k long in cc) (λ (fits : k + length part ≤ length list). omega arith) (cases_lt (length list) (k + length part))

module _ (at : ℕ → ℕ → ℕ) (list part : List Bool) (low high needle starts count from : ℕ) (low-has : HasBitsFrom at low list from) (high-has : HasBitsFrom at high list (from + 64)) (needle-has : HasBitsFrom at needle part 0)
    (few : count ≤ length part) (most : count ≤ 64) (has : HasStarts at low high needle count starts) where
  -- it stands at none of the next 64 places, if at none of those that are left
  pub absent-next : ((i : ℕ) → i < 64 → slice_index_or (element_bits 64 at starts) i false ≡ true → stands_at part list (from + i) ≡ false) → ((k : ℕ) → k < from → stands_at part list k ≡ false) → (k : ℕ) → k < from + 64 → stands_at part list k ≡ false
  absent-next absent before k below =
      ⊎_elim (λ (passed : k < from). before k passed)
      (λ (here : from ≤ k).
      let place : from + (k - from) ≡ k = omega arith in
      false_from_ne_true (stands_at part list k) (λ (there : stands_at part list k ≡ true).
      let left = has (k - from) (omega arith) (λ j inside.
      let sum : from + (k - from + j) ≡ k + j = omega arith in
      let first : 0 + j ≡ j = omega arith in
      beside at list low high from low-has high-has (k - from + j) (omega arith)
      ∙ ap (λ (n : ℕ). slice_index_or list n false) sum
      ∙ agrees part list k there j (omega arith)
      ∙ ap (λ (n : ℕ). slice_index_or part n false) (sym first)
      ∙ sym (needle-has j (omega arith))) in
      let none = absent (k - from) (omega arith) left in
      let not_here = ap (stands_at part list) (sym place) ∙ none in
      cc))
      (cases_lt k from)
