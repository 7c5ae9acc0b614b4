-- What a summary of full leaves tells of the pages, and how it is kept.
use Rattle.std.specs.Prelude.{◌≡◌, ◌≢◌, ℕ, ◌+◌, ◌*◌, ◌/◌, ◌<◌, Bool, false, true, List, None, Some, length, slice_index_or, slice_set, refl}
use Rattle.std.specs.List.{list_all}
use Rattle.std.proofs.Common.{◌∙◌, ap, arith, inl, inr, sym}
use Rattle.std.proofs.lemmas.Bool.{cases_eq, cases_lt}
use Rattle.std.proofs.lemmas.List.{get_or-set_other, get_or-set_same, length-set}
use Rattle.bitvec.specs.FoundLaws.{all_in-false, all_in-none, all_in-true, first_in-before, first_in-below, first_in-bit}
use Rattle.bitvec.specs.Lists.{first_place}
use Rattle.bitvec.specs.ListsLaws.{first_place-found, first_place-none}
use Rattle.bitvec.specs.PlacesLaws.{first_place-absent, first_place-before, first_place-below, first_place-bit}
use Rattle.bitvec.specs.RangeBitsLaws.{bits-set}
use Rattle.pages.specs.Pages.{IsSummed, leaf_of}

only_true : (bit : Bool) → bit ≢ false → bit ≡ true
only_true true h = refl
only_true false h = absurd (h refl)

module _ (pages summary : List Bool) (summed : IsSummed pages summary) where
  -- a leaf whose bit is 1 has no free page
  summed-taken : (k : ℕ) → k < 4096 → slice_index_or summary (k / 64) false ≢ false → slice_index_or pages k false ≢ false
  summed-taken k below one free =
      let many = summed.pages_are in
      let leaf : k / 64 < 64 = omega arith in
      let full = sym (summed.each (k / 64) leaf) ∙ only_true _ one in
      let taken = all_in-true pages (64 * (k / 64)) (64 * (k / 64) + 64) (omega arith) k full (omega arith) (omega arith) in
      let no : true ≡ false = sym taken ∙ free in cc

  -- the first free page is that of the first leaf that has one
  pub first-none : first_place false summary ≡ None → first_place false pages ≡ None
  first-none none =
      let many = summed.pages_are in
      let few = summed.leaves_are in
      first_place-none false pages (λ k below. summed-taken k (omega arith) (first_place-absent false summary none (k / 64) (omega arith)))

  pub first-some : (i j : ℕ) → first_place false summary ≡ Some i → first_place false (leaf_of pages i) ≡ Some j → first_place false pages ≡ Some (64 * i + j)
  first-some i j leaf place =
      let many = summed.pages_are in
      let few = summed.leaves_are in
      let here = first_place-below false summary i leaf in
      let within = first_in-below false pages (64 * i) (64 * i + 64) (omega arith) j place in
      first_place-found false pages (64 * i + j) (omega arith)
      (first_in-bit false pages (64 * i) (64 * i + 64) (omega arith) j (64 * i + j) place refl)
      (λ k before. elim (cases_lt k (64 * i)) [
        | inl earlier ↦ summed-taken k (omega arith) (first_place-before false summary i (k / 64) leaf (omega arith))
        | inr same ↦ first_in-before false pages (64 * i) (64 * i + 64) (omega arith) j k place same before
      ])

  -- the first leaf whose bit is 0 has a free page
  pub leaf-some : (i : ℕ) → first_place false summary ≡ Some i → first_place false (leaf_of pages i) ≢ None
  leaf-some i leaf none =
      let many = summed.pages_are in
      let few = summed.leaves_are in
      let here = first_place-below false summary i leaf in
      let full = all_in-none pages (64 * i) (64 * i + 64) (omega arith) none in
      let bit = first_place-bit false summary i leaf in
      let no : true ≡ false = sym full ∙ sym (summed.each i (omega arith)) ∙ bit in cc

  -- another leaf than that of a page that was set
  leaf-other : (page : ℕ) (bit : Bool) (i : ℕ) → i < 64 → i ≢ page / 64 → leaf_of (slice_set pages page bit) i ≡ leaf_of pages i
  leaf-other page bit i inside other =
      let many = summed.pages_are in
      bits-set pages 0 0 (64 * i) (64 * i + 64) page bit (omega arith) (elim (cases_lt page (64 * i)) [
        | inl before ↦ inl before
        | inr behind ↦ inr (omega arith)
      ])

  -- a page set, and the bit of its leaf
  pub summed-set : (page leaf : ℕ) (bit full : Bool) → leaf ≡ page / 64 → page < 4096 → full ≡ list_all (λ bit. bit) (leaf_of (slice_set pages page bit) leaf)
      → IsSummed (slice_set pages page bit) (slice_set summary leaf full)
  summed-set page leaf bit full of below is = record {
    pages_are = length-set pages page bit ∙ summed.pages_are;
    leaves_are = length-set summary leaf full ∙ summed.leaves_are;
    each = λ i inside.
        let few = summed.leaves_are in
        elim (cases_eq i leaf) [
          | inl same ↦ rw same (get_or-set_same summary leaf full false (omega arith) ∙ is)
          | inr other ↦ get_or-set_other summary leaf i full false other ∙ summed.each i inside ∙ ap (list_all (λ bit. bit)) (sym (leaf-other page bit i inside (rw of at other)))
        ];
  }

  -- a leaf of which a page was freed is not full
  pub summed-freed : (page leaf : ℕ) → leaf ≡ page / 64 → page < 4096 → IsSummed (slice_set pages page false) (slice_set summary leaf false)
  summed-freed page leaf of below =
      let many = summed.pages_are in
      let size = length-set pages page false in
      summed-set page leaf false false of below
      (sym (all_in-false (slice_set pages page false) (64 * leaf) (64 * leaf + 64) (omega arith) page (get_or-set_same pages page false false (omega arith)) (omega arith) (omega arith)))

-- no page is taken
pub summed-none : (pages summary : List Bool) → length pages ≡ 4096 → length summary ≡ 64
    → ((k : ℕ) → slice_index_or pages k false ≡ false) → ((i : ℕ) → slice_index_or summary i false ≡ false) → IsSummed pages summary
summed-none pages summary many few free clear = record {
  pages_are = many;
  leaves_are = few;
  each = λ i inside. clear i ∙ sym (all_in-false pages (64 * i) (64 * i + 64) (omega arith) (64 * i) (free (64 * i)) (omega arith) (omega arith));
}

-- for `using`
pub ruleset summing = (first-none, first-some, leaf-some, summed-set, summed-freed, summed-none)
