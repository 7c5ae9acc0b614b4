-- Numbers read one after the other: what the list of them is.
use Rattle.std.specs.Prelude.{◌≡◌, ℕ, ◌+◌, ◌-◌, ◌/◌, ◌%◌, ◌^◌, ◌<◌, ◌≤◌, if◌then◌else◌, Bool, List, length, slice_index, slice_set, refl}
use Rattle.std.proofs.Common.{arith, sym, ◌∙◌, ap, ⊎_elim}
use Rattle.std.proofs.lemmas.List.{get_or-set_other, get_or-set_same, get_or_default, length-map, same_lists}
use Rattle.bitvec.specs.ShowingLaws.{length-seen}
use Rattle.bitvec.specs.Types.{BitSlice, Order, Store, Window}
use Rattle.bitvec.specs.Views.{seen}
use Rattle.bitvec.specs.Window.{IsWithin}
use Rattle.bitrecord.proofs.Digits.{last-number, number-joined, plain-below, seamless-number, split-joined}
use Rattle.bitrecord.specs.FieldLaws.{number-below}
use Rattle.bitrecord.specs.Layouts.{IsLayout, field_at}
use Rattle.bitrecord.specs.RecordLaws.{earlier_or_this, number-of-record, record-encodable}
use Rattle.bitrecord.specs.Records.{AreEncodable, Fits, field_number, record_in}
use Rattle.bitrecord.specs.Runs.{IsRun, IsSeamless, SplitsOff, across, aligned, end_of, plain_number}
use Rattle.bitrecord.specs.declared.endian.Endian.{Endian}

-- one number more is written
pub read-next : (f : ℕ → ℕ) (out : List ℕ) (n v : ℕ) → n < length out → v ≡ f n → ((k : ℕ) → k < n → slice_index out k ≡ f k) → (k : ℕ) → k < n + 1 → slice_index (slice_set out n v) k ≡ f k
read-next f out n v below is told k low =
    ⊎_elim (λ (earlier : k < n). get_or-set_other out n k v 0 (λ same. absurd (omega arith)) ∙ told k earlier)
    (λ (this : k ≡ n). rw this (get_or-set_same out n v 0 below ∙ is)) (earlier_or_this k n low)

-- all numbers are read
pub read-all : (endian : Endian) (high : Bool) (b s : ℕ) (list : List Bool) (fields : List Window) (out : List ℕ) → length out ≡ length fields
    → ((k : ℕ) → k < length fields → slice_index out k ≡ field_number endian high b s list (field_at fields k)) → out ≡ record_in endian high b s list fields
read-all endian high b s list fields out many told =
    let long = length-map fields (field_number endian high b s list) in
    same_lists _ _ (omega arith) (λ k d low.
    get_or_default out k d 0 low ∙ told k (omega arith) ∙ sym (number-of-record endian high b s list fields k d (omega arith)))

module _ {T O : Type 0} {t : Store T} {o : Order O} (high : Bool) (view : BitSlice T O t o) where
  -- the numbers of a record fit their fields
  pub view-encodable : (endian : Endian) (bits : ℕ) (fields : List Window) → IsLayout bits fields → (seen view).window.len ≡ bits → AreEncodable fields (record_in endian high t.BITS (seen view).window.start (seen view).bits fields)
  view-encodable endian bits fields layout many =
      record-encodable endian high t.BITS (seen view).window.start (seen view).bits fields (λ k low. rw (length-seen view ∙ many) (layout.inside k low))

  pub view-fits : (endian : Endian) (bits n : ℕ) (fields : List Window) → IsLayout bits fields → (seen view).window.len ≡ bits → n < length fields → Fits (field_at fields n) (field_number endian high t.BITS (seen view).window.start (seen view).bits (field_at fields n))
  view-fits endian bits n fields layout many below = number-below endian high t.BITS (seen view).window.start bits n fields (seen view).bits layout (length-seen view ∙ many) below

  -- the number of a run, of which the first and the last field are these
  pub run-number : (endian : Endian) (bits first last number : ℕ) (fields : List Window) (from to : Window) → IsSeamless endian high → IsLayout bits fields → (seen view).window.len ≡ bits → IsRun fields first last
      → from ≡ field_at fields first → to ≡ field_at fields last → number ≡ field_number endian high t.BITS (seen view).window.start (seen view).bits (record { start = from.start; len = to.start + to.len - from.start })
      → (number ≡ plain_number high (seen view).bits (across fields first last)) × (number < 2 ^ (across fields first last).len)
  run-number endian bits first last number fields from to seam layout many run from-is to-is told =
      let all = length-seen view ∙ many in
      let inside = layout.inside last run.below in
      let start = inside.start in
      let len = inside.len in
      let order = run.behind first (omega arith) run.order in
      let is = rw (from-is, to-is) at told ∙ seamless-number endian high t.BITS (seen view).window.start (seen view).bits (across fields first last) seam in
      (is, rw is (plain-below high (seen view).bits (across fields first last) (record { start = omega arith; len = omega arith })))

  -- the number of the next field is split off, and that of the fields behind it is left
  pub run-split : (endian : Endian) (bits first last n word number left : ℕ) (fields : List Window) → IsSeamless endian high → IsLayout bits fields → (seen view).window.len ≡ bits → IsRun fields first last → first < last → first ≤ n → n ≤ last
      → word ≡ aligned high (plain_number high (seen view).bits (across fields n last)) (across fields n last).len → SplitsOff high word (field_at fields n).len number left
      → (number ≡ field_number endian high t.BITS (seen view).window.start (seen view).bits (field_at fields n)) × (n + 1 ≤ last → left ≡ aligned high (plain_number high (seen view).bits (across fields (n + 1) last)) (across fields (n + 1) last).len)
  run-split endian bits first last n word number left fields seam layout many run several least low is split =
      let all = length-seen view ∙ many in
      let inside = layout.inside last run.below in
      let start = inside.start in
      let len = inside.len in
      let front = run.front n least low in
      let behind = run.behind n least low in
      let bound = run.bound several in
      let rest : Window = record { start = end_of fields n; len = end_of fields last - end_of fields n } in
      let both : (across fields n last).len ≡ (field_at fields n).len + (end_of fields last - end_of fields n) = omega arith in
      let parts = split-joined high word (plain_number high (seen view).bits (across fields n last)) (plain_number high (seen view).bits (field_at fields n)) (plain_number high (seen view).bits rest) (field_at fields n).len (end_of fields last - end_of fields n) number left
      (is ∙ ap (aligned high (plain_number high (seen view).bits (across fields n last))) both)
      (number-joined high (seen view).bits (field_at fields n) rest (across fields n last) (record { start = omega arith; len = omega arith }) refl refl both)
      (plain-below high (seen view).bits (field_at fields n) (record { start = omega arith; len = omega arith }))
      (plain-below high (seen view).bits rest (record { start = omega arith; len = omega arith })) (omega arith) split in
      (parts.0 ∙ sym (seamless-number endian high t.BITS (seen view).window.start (seen view).bits (field_at fields n) seam), λ more. rw (run.next n least (omega arith)) at parts.1)

  -- the number of a field is the end of the word that ends with it
  pub word-before : (endian : Endian) (field : Window) (word : ℕ) → IsSeamless endian high → IsWithin field (seen view).window.len → 64 ≤ field.start + field.len → field.len < 64
      → word ≡ field_number endian high t.BITS (seen view).window.start (seen view).bits (record { start = field.start + field.len - 64; len = 64 })
      → (word < 2 ^ 64) × ((if high then word % 2 ^ field.len else word / 2 ^ (64 - field.len)) ≡ field_number endian high t.BITS (seen view).window.start (seen view).bits field)
  word-before endian field word seam inside wide narrow told =
      let all = length-seen view in
      let start = inside.start in
      let len = inside.len in
      let around : Window = record { start = field.start + field.len - 64; len = 64 } in
      let front : Window = record { start = field.start + field.len - 64; len = 64 - field.len } in
      let is = told ∙ seamless-number endian high t.BITS (seen view).window.start (seen view).bits around seam in (
        rw is (plain-below high (seen view).bits around (record { start = omega arith; len = omega arith })),
        last-number high (seen view).bits front field around word (record { start = omega arith; len = omega arith }) refl (omega arith) (omega arith) is
            ∙ sym (seamless-number endian high t.BITS (seen view).window.start (seen view).bits field seam),
      )
