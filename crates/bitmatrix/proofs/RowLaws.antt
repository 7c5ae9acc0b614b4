-- Rows of a square matrix of bits.
use Rattle.std.specs.Prelude.{◌≡◌, ℕ, ◌+◌, ◌*◌, ◌<◌, ◌≤◌, Bool, List, false, length, refl, replicate, slice_set, true}
use Rattle.std.proofs.Common.{arith, inl, inr}
use Rattle.std.proofs.lemmas.Bool.{cases_lt}
use Rattle.std.proofs.lemmas.Grind.{get_or-set_at}
use Rattle.std.proofs.lemmas.List.{get_or-replicate, get_or-set_other}
use Rattle.bitvec.specs.Laws.{overlaid}
use Rattle.bitvec.specs.Operators.{or_within}
use Rattle.bitmatrix.specs.Matrix.{IsEmpty, JoinsRow, SetsEntry, entry}

-- a row before another ends before it
pub row-before : (n i j : ℕ) → i < j → i * n + n ≤ j * n
row-before n i j h = grind arith

-- a row or-ed into another one
pub joins-row : (n target source : ℕ) (old new : List Bool) → target < n → source < n → length old ≡ n * n
    → new ≡ or_within (source * n) (source * n + n) (target * n) old → JoinsRow n target source old new
unfolding entry
joins-row n target source old new ht hs long joined =
    let target-ends = row-before n target n ht in
    let source-ends = row-before n source n hs in
    record {
      row = λ j hj. rw joined (grind (arith, overlaid));
      others = λ i j hi hj other. elim (cases_lt i target) [
        | inl before ↦ let ends = row-before n i target before in rw joined (grind (arith, overlaid))
        | inr behind ↦ let begins = row-before n target i (omega arith) in rw joined (grind (arith, overlaid))
      ];
    }

-- no bit stands at two places
one-place : (n r c i j : ℕ) → c < n → j < n → r * n + c ≡ i * n + j → (r ≡ i) × (c ≡ j)
one-place n r c i j hc hj same = elim (cases_lt r i) [
  | inl before ↦ let ends = row-before n r i before in absurd (omega arith)
  | inr from ↦ elim (cases_lt i r) [
    | inl behind ↦ let ends = row-before n i r behind in absurd (omega arith)
    | inr to ↦ let rows : r ≡ i = omega arith in (rows, grind (arith, rows, same))
  ]
]

-- one bit set
pub sets-entry : (n i j : ℕ) (old new : List Bool) → new ≡ slice_set old (i * n + j) true → length old ≡ n * n → i < n → j < n → SetsEntry n i j old new
unfolding entry
sets-entry n i j old new set long hi hj =
    let ends = row-before n i n hi in
    record {
      here = rw set (get_or-set_at old (i * n + j) (i * n + j) true false refl (omega arith));
      others = λ r c hr hc apart. rw set (get_or-set_other old (i * n + j) (r * n + c) true false (λ same.
          let both = one-place n r c i j hc hj same in
          elim apart [ inl row ↦ row both.0 | inr column ↦ column both.1 ]));
    }

-- no bit set
pub is_empty-filled : (n len : ℕ) (bits : List Bool) → bits ≡ replicate len false → len ≡ n * n → IsEmpty n bits
unfolding IsEmpty entry
is_empty-filled n len bits none size = λ i j hi hj.
    let ends = row-before n i n hi in
    rw none (get_or-replicate len (i * n + j) false false (omega arith))

-- for `using`
pub ruleset rows = (joins-row, is_empty-filled)
