-- The first run of one bit, by looking for the last other bit in stretches: behind it the next stretch begins.
use Rattle.std.specs.Prelude.{◌≡◌, ◌≢◌, ℕ, ◌+◌, ◌<◌, ◌≤◌, Bool, false, true, not, List, None, Some, length, refl, slice_index_or}
use Rattle.std.proofs.Common.{arith, inl, inr}
use Rattle.std.proofs.lemmas.Bool.{cases_lt}
use Rattle.bitvec_base.specs.Lists.{last_place}
use Rattle.bitvec_in_place.specs.Ranges.{bits_in}
use Rattle.bitvec.specs.Fits.{HasNoRun, HasNoRunBefore, IsFirstRun, IsRun}
use Rattle.bitvec.specs.FoundLaws.{last_in-absent, last_in-below, last_in-bit}

is-other : (bit other : Bool) → other ≢ not bit → other ≡ bit
is-other true true apart = refl
is-other true false apart = absurd (apart refl)
is-other false true apart = absurd (apart refl)
is-other false false apart = refl

differs : (bit : Bool) → bit ≢ not bit
differs true same = cc
differs false same = cc

module _ (bit : Bool) (list : List Bool) (n start : ℕ) where
  past : (place : ℕ) → HasNoRunBefore bit list n start → start + n ≤ length list → last_place (not bit) (bits_in list start (start + n)) ≡ Some place → HasNoRunBefore bit list n (start + (place + 1))
  past place before inside found = record {
    none = λ s early run.
        elim (cases_lt s start) [
          | inl earlier ↦ before.none s earlier run
          | inr later ↦
              let within = last_in-below (not bit) list start (start + n) inside place found in
              let other = last_in-bit (not bit) list start (start + n) inside place (start + place) found refl in
              let same = run.same (start + place) (omega arith) (omega arith) in
              absurd (differs bit (cc))
        ];
  }

  here : HasNoRunBefore bit list n start → start + n ≤ length list → last_place (not bit) (bits_in list start (start + n)) ≡ None → IsFirstRun bit list n start
  here before inside none = record {
    run = record { inside = inside; same = λ k low high. is-other bit _ (last_in-absent (not bit) list start (start + n) inside k none low high) };
    first = before;
  }

-- Before the first place no run begins.
pub run-none : (bit : Bool) (list : List Bool) (n : ℕ) → HasNoRunBefore bit list n 0
run-none bit list n = record { none = λ s before. absurd (omega arith) }

module _ (list : List Bool) (n start : ℕ) where
  -- Where a stretch of `n` places has a 1, no run of `n` zeros begins up to its last 1.
  pub zeros-past : (place : ℕ) → HasNoRunBefore false list n start → start + n ≤ length list → last_place true (bits_in list start (start + n)) ≡ Some place → HasNoRunBefore false list n (start + (place + 1))
  zeros-past = past false list n start

  -- A stretch of `n` places that has no 1 is the first run of `n` zeros, where none begins before it.
  pub zeros-here : HasNoRunBefore false list n start → start + n ≤ length list → last_place true (bits_in list start (start + n)) ≡ None → IsFirstRun false list n start
  zeros-here = here false list n start

  -- Where a stretch of `n` places has a 0, no run of `n` ones begins up to its last 0.
  pub ones-past : (place : ℕ) → HasNoRunBefore true list n start → start + n ≤ length list → last_place false (bits_in list start (start + n)) ≡ Some place → HasNoRunBefore true list n (start + (place + 1))
  ones-past = past true list n start

  -- A stretch of `n` places that has no 0 is the first run of `n` ones, where none begins before it.
  pub ones-here : HasNoRunBefore true list n start → start + n ≤ length list → last_place false (bits_in list start (start + n)) ≡ None → IsFirstRun true list n start
  ones-here = here true list n start

-- Where no run begins before a place, and fewer than `n` places are left from there on, there is no run.
pub run-end : (bit : Bool) (list : List Bool) (n start : ℕ) → HasNoRunBefore bit list n start → length list < start + n → HasNoRun bit list n
run-end bit list n start before beyond = record {
  none = λ s run.
      elim (cases_lt s start) [
        | inl earlier ↦ before.none s earlier run
        | inr later ↦ absurd (let inside = run.inside in omega arith)
      ];
}
