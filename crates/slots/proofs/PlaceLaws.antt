-- Whether all places of a range are taken.
use Rattle.std.proofs.Common.{◌≡◌, ℕ, ◌+◌, Bool, true, false, List, length, sym, ap, ◌∙◌, arith}
use Rattle.std.specs.Prelude.{◌↔◌, IsTrue, slice_range}
use Rattle.std.specs.List.{list_all}
use Rattle.std.specs.declared.ops.Range.{Range}
use Rattle.std.proofs.lemmas.List.Elements.{All-from_get_or}
use Rattle.std.proofs.lemmas.List.Sums.{list_all-from_AllPass}
use Rattle.bitvec.specs.FoundLaws.{all_in-true}
use Rattle.bitvec.specs.Indices.{HasRange}
use Rattle.bitvec.specs.RangeBitsLaws.{bits_in-range}
use Rattle.bitvec.specs.WriteLaws.{get-slice_range, length-slice_range}
use Rattle.slots.specs.Places.{IsTaken}

taken-from_all : (map : List Bool) (range : Range ℕ) → HasRange range (length map) → list_all (λ bit. bit) (slice_range map range.start range.end) ≡ true → IsTaken map range
taken-from_all map range there all = record {
  there = there;
  each = λ place low high. all_in-true map range.start range.end there.1 place (ap (list_all (λ (bit : Bool). bit)) (bits_in-range map range.start range.end) ∙ all) low high;
}

all-from_taken : (map : List Bool) (range : Range ℕ) → IsTaken map range → list_all (λ bit. bit) (slice_range map range.start range.end) ≡ true
all-from_taken map range taken =
    let long = length-slice_range map range.start range.end taken.there.1 in
    list_all-from_AllPass (λ bit. bit) (slice_range map range.start range.end)
    (All-from_get_or (λ bit. bit ≡ true) (slice_range map range.start range.end) false (λ k below.
    get-slice_range map range.start range.end k false (omega arith) ∙ taken.each (range.start + k) (omega arith) (omega arith)))

-- a test of all places of the range's part tells whether they are taken
pub taken-test : (map : List Bool) (range : Range ℕ) (test : Bool) → HasRange range (length map) → test ≡ list_all (λ bit. bit) (slice_range map range.start range.end)
    → IsTrue test ↔ IsTaken map range
taken-test map range test there same =
    (λ yes. taken-from_all map range there (sym same ∙ yes), λ taken. same ∙ all-from_taken map range taken)

pub taken-outside : (map : List Bool) (range : Range ℕ) → ¬ HasRange range (length map) → IsTrue false ↔ IsTaken map range
taken-outside map range outside = (λ yes. absurd (cc yes), λ taken. absurd (outside taken.there))
