-- The runs of taken places, as searches find them and as they are printed.
use Rattle.std.proofs.Common.{◌≡◌, ◌≢◌, ℕ, ◌+◌, ◌≤◌, Bool, true, false, not, List, [], ◌∷◌, ◌++◌, length, None, Option, Some, refl, sym, ap, subst, ◌∙◌, append-nil, append_assoc, arith}
use Rattle.std.specs.Prelude.{slice_index_or}
use Rattle.std.specs.Io.KnownBytes.{Appends}
use Rattle.std.proofs.KnownBytes.{Appends-trans}
use Rattle.std.proofs.Math.ListN.{get_or-eq_default}
use Rattle.std.specs.List.{flat_map}
use Rattle.std.specs.declared.ops.Range.{Range}
use Rattle.std.proofs.lemmas.Grind.{flat_map-append}
use Rattle.bitvec.specs.FoundLaws.{first_in-absent, first_in-before, first_in-below, first_in-bit}
use Rattle.bitvec.specs.Lists.{first_place}
use Rattle.bitvec.specs.Pieces.{range_of}
use Rattle.bitvec.specs.Ranges.{bits_in}
use Rattle.slots.specs.Places.{Holds, IsFree}
use Rattle.slots.specs.Runs.{AreRuns, IsNextRun, ShowsRuns, range_text}

the-other : (bit other : Bool) → other ≢ bit → other ≡ not bit
the-other true true apart = absurd (apart refl)
the-other true false apart = refl
the-other false true apart = refl
the-other false false apart = absurd (apart refl)

module _ (bit : Bool) (map : List Bool) (from to : ℕ) (inside : to ≤ length map) where
  -- the places before the first one with this bit have the other one
  holds-before : (i : ℕ) → first_place bit (bits_in map from to) ≡ Some i → Holds (not bit) map (range_of from (from + i))
  holds-before i found =
      let below = first_in-below bit map from to inside i found in
      record { there = (omega arith, omega arith); each = λ place low high. the-other bit _ (first_in-before bit map from to inside i place found low high) }

  -- or all have it
  pub holds-all : from ≤ to → first_place bit (bits_in map from to) ≡ None → Holds (not bit) map (range_of from to)
  holds-all order none = record { there = (order, inside); each = λ place low high. the-other bit _ (first_in-absent bit map from to inside place none low high) }

module _ (map : List Bool) (from len start : ℕ) (inside : len ≤ length map) (found : first_place true (bits_in map from len) ≡ Some start) where
  -- a run goes from the first taken place up to the first free one behind it
  pub run-to_free : (free : ℕ) → first_place false (bits_in map (from + start) len) ≡ Some free → IsNextRun map from (range_of (from + start) (from + start + free))
  run-to_free free after =
      let within = first_in-below false map (from + start) len inside free after in
      let here : slice_index_or map (from + start) false ≡ true = first_in-bit true map from len inside start (from + start) found refl in
      let end : slice_index_or map (from + start + free) false ≡ false = first_in-bit false map (from + start) len inside free (from + start + free) after refl in
      let moved : free ≢ 0 = λ zero.
      let same : from + start + free ≡ from + start = omega arith in
      let taken = ap (λ (k : ℕ). slice_index_or map k false) same ∙ here in
      absurd (cc (end, taken)) in
      record { before = holds-before true map from len inside start found; some = omega arith; taken = holds-before false map (from + start) len inside free after; whole = end }

  -- or to the end of the map
  pub run-to_end : length map ≤ len → first_place false (bits_in map (from + start) len) ≡ None → IsNextRun map from (range_of (from + start) len)
  run-to_end whole none =
      let below = first_in-below true map from len inside start found in
      record {
        before = holds-before true map from len inside start found;
        some = below;
        taken = holds-all false map (from + start) len inside (omega arith) none;
        whole = get_or-eq_default map false (omega arith);
      }

-- the runs before the place `from` were printed
pub record HasShown (map : List Bool) (from : ℕ) (before now : Option (List ℕ)) : Type 0 where
  pub runs : List (Range ℕ)
  pub goes_on : (rest : List (Range ℕ)) → AreRuns map from rest → AreRuns map 0 (runs ++ rest)
  pub printed : Appends before now (flat_map range_text runs)

pub HasShown-next : (map : List Bool) (from : ℕ) (run : Range ℕ) (before now after : Option (List ℕ)) → HasShown map from before now → IsNextRun map from run
    → Appends now after (range_text run) → HasShown map run.end before after
HasShown-next map from run before now after shown next one = record {
  runs = shown.runs ++ (run ∷ []);
  goes_on = λ rest all. subst (AreRuns map 0) (sym (append_assoc shown.runs (run ∷ []) rest)) (shown.goes_on (run ∷ rest) (next, all));
  printed = subst (Appends before after) (sym (flat_map-append range_text shown.runs (run ∷ []) ∙ ap (λ (text : List ℕ). flat_map range_text shown.runs ++ text) (append-nil (range_text run))))
      (Appends-trans before now after _ _ shown.printed one);
}

pub ShowsRuns-end : (map : List Bool) (from : ℕ) (before now : Option (List ℕ)) → HasShown map from before now → IsFree map (range_of from (length map)) → ShowsRuns map before now
ShowsRuns-end map from before now shown free =
    record { runs = shown.runs; all = subst (AreRuns map 0) (append-nil shown.runs) (shown.goes_on [] free); printed = shown.printed }
