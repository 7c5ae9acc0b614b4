-- A part of a view shows what the view shows at its indices.
use Rattle.std.specs.Prelude.{◌≡◌, ℕ, ◌+◌, ◌<◌, ◌≤◌, ◌↔◌, Bool, IfSome, IsSome, IsTrue, List, None, Option, Some, false, length, map, nat_lt, slice_range, refl, true}
use Rattle.std.proofs.Common.{arith, ◌∙◌, ap, sym}
use Rattle.std.proofs.lemmas.Bool.Decides.{nat_tests}
use Rattle.std.specs.declared.ops.Range.{Range}
use Rattle.bitvec_base.specs.Memory.{memory_bits}
use Rattle.bitvec_base.specs.SliceLaws.{range-map}
use Rattle.bitvec_cutting.specs.Cutting.{LiesIn, cut}
use Rattle.bitvec_base.specs.MemoryLaws.{memory-range}
use Rattle.bitvec_store.specs.declared.store.BitStore.{Ghosts as Store}
use Rattle.bitvec_base.specs.declared.order.BitOrder.{Ghosts as Order}
use Rattle.bitvec_domain.specs.declared.reference_mut.BitRefMut.{BitRefMut}
use Rattle.bitvec_slice.specs.Indices.{WritesBitOf}
use Rattle.bitvec_slice.specs.LentLaws.{bit-of_part}
use Rattle.bitvec_slice.specs.MayLend.{IsBitOfView}
use Rattle.bitvec_slice.specs.Seen.{IsGiven, IsRangeOf, Seen}
use Rattle.bitvec_slice.specs.ShowingLaws.{shows-seen}
use Rattle.bitvec_slice.specs.TouchedLaws.{touches}
use Rattle.bitvec_slice.specs.Views.{seen, seen_mut}
use Rattle.bitvec_slice.specs.declared.view.BitSlice.{BitSlice}
use Rattle.bitvec_slice.specs.declared.view_mut.BitSliceMut.{BitSliceMut}
use Rattle.bitvec_iter.specs.Parts.{subview}

abbrev shows : {T : Type 0} → List Bool → List T → List Bool → ℕ → ℕ → Seen T
shows bits elements memory start len = record { bits = bits; elements = elements; memory = memory; window = record { start = start; len = len } }

same_seen : {T : Type 0} {b c : List Bool} {e f : List T} {m n : List Bool} {s u k l : ℕ} → b ≡ c → e ≡ f → m ≡ n → s ≡ u → k ≡ l → shows b e m s k ≡ shows c f n u l
same_seen bits elements memory start len = cc

module _ {T O : Type 0} {t : Store T} {o : Order O} (view part : BitSlice T O t o) (places : Range ℕ) where
  pub part_seen : 0 < t.BITS → LiesIn (seen view).window.len places → IsRangeOf t.BITS (seen view) places.start places.end (seen part) → seen part ≡ subview t.BITS (seen view) places
  part_seen some lies is =
      let elements = (seen view).elements in
      let start = (seen view).window.start in
      let xs = map t.value elements in
      let within = (shows-seen view).has.within in
      let order = within.start in
      let len = within.len in
      let are = touches t.BITS (length xs) (start + places.start) (start + places.end) some (omega arith) (omega arith) in
      same_seen is.bits is.elements
      (ap (λ (elements : List T). memory_bits t.BITS o.at (map t.value elements)) is.elements
      ∙ ap (memory_bits t.BITS o.at) (range-map t.value elements _ _)
      ∙ memory-range t.BITS o.at xs _ _ some are.order are.bound)
      is.start is.len

-- the bits of a part of a view of which it is known what it shows
pub shown-bits : {T : Type 0} (bits : List Bool) (view whole : Seen T) (range place : Range ℕ) → bits ≡ slice_range view.bits range.start range.end → view ≡ whole → range ≡ place → bits ≡ cut whole.bits place
shown-bits bits view whole range place is shows there = rw (← there, ← shows) is

-- what a test of two numbers says
pub tested : (m n : ℕ) → (nat_lt m n ≡ true) ↔ (m < n)
tested m n = ((λ is. grind (arith, nat_tests)), λ is. grind (arith, nat_tests))

pub untested : (m n : ℕ) → n ≤ m → nat_lt m n ≡ false
untested m n none = grind (arith, nat_tests)

-- a reference to a bit, which is given exactly where one was lent
module _ {T O : Type 0} {t : Store T} {o : Order O} {view : Seen T} {index m n : ℕ} {has : Bool} (part : BitSliceMut T O t o) where
  pub bit-given : (r : Option (BitRefMut T O t o)) → has ≡ nat_lt m n → (IsTrue has → IsRangeOf t.BITS view index (index + 1) (seen_mut part)) → (IsSome r ↔ IsTrue has) → IfSome r (λ bit. IsBitOfView part bit) → IsGiven (m < n) (WritesBitOf view index) r
  bit-given None left is some bit = record { some = ((λ s. (tested m n).0 (sym left ∙ some.0 s)), λ l. some.1 (left ∙ (tested m n).1 l)); gives = tt }
  bit-given (Some r) left is some bit = record { some = ((λ s. (tested m n).0 (sym left ∙ some.0 s)), λ l. some.1 (left ∙ (tested m n).1 l)); gives = bit-of_part view index part r (is (some.0 refl)) bit }
