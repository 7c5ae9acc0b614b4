-- A table of fields that passes the test is a layout, so that only memory can be refused.
use Rattle.std.specs.Prelude.{◌≡◌, ℕ, ◌+◌, ◌<◌, ◌≤◌, Bool, true, List, [], ◌∷◌, IfErr, Result, length, nat_le, refl}
use Rattle.std.specs.List.{list_all}
use Rattle.std.proofs.Common.{Err, Ok, arith, inl, inr, suc, zero}
use Rattle.std.proofs.lemmas.Bool.{and_parts, leb-true, or_cases}
use Rattle.std.proofs.lemmas.List.Sums.{AllPass-from_list_all}
use Rattle.bitvec.specs.Types.{Window}
use Rattle.bitvec.specs.Window.{IsWithin}
use Rattle.bitrecord.specs.Layouts.{AreApart, AreApartBefore, EachField, HasWidth, IsFault, IsLayout, field_at, no_field}
use Rattle.bitrecord.specs.Tables.{are_apart, is_field, is_table}
use Rattle.bitrecord.specs.declared.layout_error.LayoutError.{LayoutError}
use Rattle.bitrecord.specs.declared.layout_error.LayoutError.TheVariants as fault

field-told : (bits : ℕ) (field : Window) → is_field bits field ≡ true → HasWidth field × IsWithin field bits
field-told bits field passes =
    let some = and_parts _ _ passes in
    let more = and_parts _ _ some.1 in
    let one = leb-true 1 field.len some.0 in
    let most = leb-true field.len 128 more.0 in
    let end = leb-true _ bits more.1 in
    (record { some = omega arith; bound = most }, record { start = omega arith; len = omega arith })

apart-told : (x y : Window) → are_apart x y ≡ true → AreApart x y
apart-told x y passes = λ over.
    let first = over.first in
    let second = over.second in
    elim (or_cases (nat_le (x.start + x.len) y.start) (nat_le (y.start + y.len) x.start) passes) [
      | inl before ↦ (let end = leb-true (x.start + x.len) y.start before in absurd (omega arith))
      | inr behind ↦ (let end = leb-true (y.start + y.len) x.start behind in absurd (omega arith))
    ]

each-more : (P : Window → Type 0) (field : Window) (fields : List Window) → P field → EachField P fields → EachField P (field ∷ fields)
each-more P field fields here rest zero low = here
each-more P field fields here rest (suc k) low = rest k (omega arith)

apart-more : (field : Window) (fields : List Window) → list_all (are_apart field) fields ≡ true → AreApartBefore fields (length fields) → AreApartBefore (field ∷ fields) (length (field ∷ fields))
apart-more field fields passes rest i low zero from below = absurd (omega arith)
apart-more field fields passes rest zero low (suc j) from below = apart-told field (field_at fields j) (AllPass-from_list_all (are_apart field) fields passes j no_field (omega arith))
apart-more field fields passes rest (suc i) low (suc j) from below = rest i (omega arith) j (omega arith) (omega arith)

-- Fields that pass the test are a layout.
pub table-layout : (bits : ℕ) (fields : List Window) → is_table bits fields ≡ true → IsLayout bits fields
table-layout bits [] passes = record { widths = λ k low. absurd (omega arith); inside = λ k low. absurd (omega arith); apart = λ i low. absurd (omega arith) }
table-layout bits (field ∷ fields) passes =
    let parts = and_parts _ _ passes in
    let more = and_parts _ _ parts.1 in
    let here = field-told bits field parts.0 in
    let rest = table-layout bits fields more.1 in
    record {
      widths = each-more HasWidth field fields here.0 rest.widths;
      inside = each-more (λ (it : Window). IsWithin it bits) field fields here.1 rest.inside;
      apart = apart-more field fields more.0 rest.apart;
    }

-- Of fields that pass the test only memory can be refused.
pub table-fault : (bits : ℕ) (fields : List Window) (why : LayoutError) → is_table bits fields ≡ true → IsFault bits fields why → why ≡ fault.Memory
table-fault bits fields (fault.Width i) passes is = absurd (is.not ((table-layout bits fields passes).widths i is.below))
table-fault bits fields (fault.Outside i) passes is = absurd (is.first.not ((table-layout bits fields passes).inside i is.first.below))
table-fault bits fields (fault.Overlap i j) passes is =
    let order = is.first.order in
    let below = is.first.below in
    absurd ((table-layout bits fields passes).apart i (omega arith) j (omega arith) below is.first.overlap)
table-fault bits fields fault.Memory passes is = refl

-- Where a layout of fields that pass the test is refused, only memory was missing.
pub table-memory : {X : Type 0} (bits : ℕ) (fields : List Window) (result : Result X LayoutError) → is_table bits fields ≡ true → IfErr result (IsFault bits fields) → IfErr result (λ why. why ≡ fault.Memory)
table-memory bits fields (Ok layout) passes refused = tt
table-memory bits fields (Err why) passes refused = table-fault bits fields why passes refused
