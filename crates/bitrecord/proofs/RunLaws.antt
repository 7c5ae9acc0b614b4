-- Runs of fields: how one grows, and what lies in one.
use Rattle.std.specs.Prelude.{◌≡◌, ℕ, ◌+◌, ◌-◌, ◌<◌, ◌≤◌, ◌⊎◌, List, refl}
use Rattle.std.proofs.Common.{arith, inl, inr, suc, zero, ⊎_elim}
use Rattle.std.proofs.lemmas.Bool.{cases_lt}
use Rattle.bitvec.specs.Types.{Window}
use Rattle.bitrecord.specs.Layouts.{AreApart, EachField, HasWidth, IsLayout, field_at}
use Rattle.bitrecord.specs.RecordLaws.{beside-or-in}
use Rattle.bitrecord.specs.Records.{IsBeside}
use Rattle.bitrecord.specs.Runs.{IsRun, across, end_of}

earlier_or_last : (k n : ℕ) → k ≤ n → (k < n) ⊎ (k ≡ n)
earlier_or_last k n low = grind arith

-- each of several fields is narrower than a word
pub run-narrow : (fields : List Window) (first last k : ℕ) → EachField HasWidth fields → IsRun fields first last → first < last → first ≤ k → k ≤ last → (field_at fields k).len < 64
run-narrow fields first last k widths run several from low =
    let bound = run.bound several in
    let below = run.below in
    let front = run.front k from low in
    let behind = run.behind k from low in
    ⊎_elim
    (λ (earlier : k < last).
    let start = run.next k from earlier in
    let most = run.behind (k + 1) (omega arith) (omega arith) in
    let some = (widths (k + 1) (omega arith)).some in
    omega arith)
    (λ (this : k ≡ last).
    let is : last - 1 + 1 ≡ last = omega arith in
    let start = rw is at (run.next (last - 1) (omega arith) (omega arith)) in
    let least = run.front (last - 1) (omega arith) (omega arith) in
    let some = (widths (last - 1) (omega arith)).some in
    rw this (omega arith)) (earlier_or_last k last low)

-- a place behind the first bit of a run that is in none of the first fields is behind them
reach : (fields : List Window) (first last place d j : ℕ) → IsRun fields first last → ((k : ℕ) → first ≤ k → k ≤ last → IsBeside (field_at fields k) place) → (field_at fields first).start ≤ place
    → j ≡ first + d → j ≤ last → end_of fields j ≤ place
reach fields first last place zero j run beside from is low =
    let same : j ≡ first = omega arith in
    rw same (⊎_elim (λ (front : place < (field_at fields first).start). absurd (omega arith)) (λ (behind : end_of fields first ≤ place). behind) (beside first (omega arith) (omega arith)))
reach fields first last place (suc d) j run beside from is low =
    let before = reach fields first last place d (first + d) run beside from refl (omega arith) in
    let next = run.next (first + d) (omega arith) (omega arith) in
    let same : j ≡ first + d + 1 = omega arith in
    rw same (⊎_elim (λ (front : place < (field_at fields (first + d + 1)).start). absurd (omega arith)) (λ (behind : end_of fields (first + d + 1) ≤ place). behind) (beside (first + d + 1) (omega arith) (omega arith)))

-- what is in no field of a run is beside it
pub run-beside : (fields : List Window) (first last place : ℕ) → IsRun fields first last → ((k : ℕ) → first ≤ k → k ≤ last → IsBeside (field_at fields k) place) → IsBeside (across fields first last) place
run-beside fields first last place run beside =
    let order = run.order in
    let most = run.behind first (omega arith) order in
    ⊎_elim (λ (front : place < (field_at fields first).start). inl front)
    (λ (from : (field_at fields first).start ≤ place).
    let end = reach fields first last place (last - first) last run beside from (omega arith) (omega arith) in
    inr (omega arith)) (cases_lt place (field_at fields first).start)

-- so a field of a layout that is in front of the run's in the list is apart from it
shared-place : (bits k first last p : ℕ) (fields : List Window) → IsLayout bits fields → IsRun fields first last → k < first → (field_at fields k).start ≤ p → p < end_of fields k
    → (field_at fields first).start ≤ p → p < (field_at fields first).start + (across fields first last).len → ⊥
shared-place bits k first last p fields layout run earlier from low above below =
    let order = run.order in
    let few = run.below in
    ⊎_elim (λ (front : p < (field_at fields first).start). absurd (omega arith)) (λ (behind : (field_at fields first).start + (across fields first last).len ≤ p). absurd (omega arith))
    (run-beside fields first last p run (λ j least most.
    beside-or-in (field_at fields j) p (λ (beside : IsBeside (field_at fields j) p). beside)
    (λ (start : (field_at fields j).start ≤ p) (end : p < (field_at fields j).start + (field_at fields j).len).
    absurd (layout.apart k (omega arith) j (omega arith) (omega arith) (record { first = omega arith; second = omega arith })))))

pub run-apart : (bits k first last : ℕ) (fields : List Window) → IsLayout bits fields → IsRun fields first last → k < first → AreApart (field_at fields k) (across fields first last)
run-apart bits k first last fields layout run earlier over =
    let one = over.first in
    let two = over.second in
    let order = run.order in
    let few = run.below in
    let some = (layout.widths k (omega arith)).some in
    ⊎_elim (λ (front : (field_at fields k).start < (field_at fields first).start). shared-place bits k first last (field_at fields first).start fields layout run earlier (omega arith) (omega arith) (omega arith) (omega arith))
    (λ (behind : (field_at fields first).start ≤ (field_at fields k).start). shared-place bits k first last (field_at fields k).start fields layout run earlier (omega arith) (omega arith) (omega arith) (omega arith))
    (cases_lt (field_at fields k).start (field_at fields first).start)
