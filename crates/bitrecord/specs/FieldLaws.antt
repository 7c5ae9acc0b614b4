-- One field of a list of bits written: what the numbers of all fields are then. For callers.
use Rattle.std.specs.Prelude.{◌≡◌, ℕ, ◌+◌, ◌^◌, ◌<◌, ◌≤◌, ◌⊎◌, Bool, List, OnOk, Result, length, slice_index_or, slice_set}
use Rattle.std.proofs.Common.{Err, Ok, arith, sym, ◌∙◌, ap, inl, inr, ⊎_elim}
use Rattle.std.proofs.lemmas.Bool.{cases_lt}
use Rattle.std.proofs.lemmas.List.{get_or-map, get_or-set_other, get_or-set_same, length-map, length-set, same_lists}
use Rattle.bitvec.specs.ShowingLaws.{length-seen_mut}
use Rattle.bitvec.specs.Types.{BitSliceMut, Order, Store, Window}
use Rattle.bitvec.specs.Views.{seen_mut}
use Rattle.bitvec.specs.Window.{IsWithin, window_of}
use Rattle.bitvec.specs.WindowLaws.{get-window, length-window}
use Rattle.bitrecord.specs.Layouts.{AreApart, IsLayout, field_at, no_field}
use Rattle.bitrecord.specs.RecordLaws.{number-fits}
use Rattle.bitrecord.specs.Records.{IsBeside, WritesField, field_number, number_of, record_in}
use Rattle.bitrecord.specs.declared.endian.Endian.{Endian}
use Rattle.bitrecord.specs.declared.layout.Layout.{Layout}
use Rattle.bitrecord.specs.Views.{bits_of, fields_of}

three_ways : (k n : ℕ) → (k < n) ⊎ ((k ≡ n) ⊎ (n < k))
three_ways k n = grind arith

same-or-not : (k n : ℕ) → (k ≡ n) ⊎ (k ≡ n → ⊥)
same-or-not k n = grind arith

-- of two fields that are apart one ends before the other begins
apart-sides : (x y : Window) → AreApart x y → (x.start + x.len ≤ y.start) ⊎ (y.start + y.len ≤ x.start)
apart-sides x y apart =
    ⊎_elim (λ (front : y.start < x.start + x.len).
    ⊎_elim (λ (behind : x.start < y.start + y.len). absurd (apart (record { first = front; second = behind })))
    (λ (ends : y.start + y.len ≤ x.start). inr ends) (cases_lt x.start (y.start + y.len)))
    (λ (ends : x.start + x.len ≤ y.start). inl ends) (cases_lt y.start (x.start + x.len))

beside-side : (other field : Window) (i : ℕ) → i < other.len → (other.start + other.len ≤ field.start) ⊎ (field.start + field.len ≤ other.start) → IsBeside field (other.start + i)
beside-side other field i low sides =
    ⊎_elim (λ (front : other.start + other.len ≤ field.start). inl (omega arith)) (λ (behind : field.start + field.len ≤ other.start). inr (omega arith)) sides

-- A window apart from the field that was written has the bits that it had.
pub window-kept : (before after : List Bool) (field other : Window) → AreApart other field → IsWithin other (length before) → IsWithin other (length after)
    → ((place : ℕ) (d : Bool) → IsBeside field place → slice_index_or after place d ≡ slice_index_or before place d) → window_of after other ≡ window_of before other
window-kept before after field other apart inside also kept =
    let old = length-window before other inside in
    let new = length-window after other also in
    same_lists _ _ (omega arith) (λ i d low.
    let inner : i < other.len = omega arith in
    get-window after other i d inner ∙ kept (other.start + i) d (beside-side other field i inner (apart-sides other field apart)) ∙ sym (get-window before other i d inner))

apart-from : (bits : ℕ) (fields : List Window) (k n : ℕ) → IsLayout bits fields → k < length fields → n < length fields → (k ≡ n → ⊥) → AreApart (field_at fields k) (field_at fields n)
apart-from bits fields k n layout low below other =
    ⊎_elim (λ (less : k < n). layout.apart k low n (omega arith) below)
    (λ (not : (k ≡ n) ⊎ (n < k)). ⊎_elim (λ (same : k ≡ n). absurd (other same))
    (λ (more : n < k). λ over. layout.apart n below k (omega arith) low (record { first = over.second; second = over.first })) not) (three_ways k n)

-- the numbers of all fields where one has a number and the bits beside it are as before
module _ (endian : Endian) (high : Bool) (b s : ℕ) where
  -- Where one field has a number and all other bits are as before, the fields' numbers are the old ones with this one set.
  pub numbers-set : (bits n value : ℕ) (fields : List Window) (before after : List Bool) → IsLayout bits fields → length before ≡ bits → length after ≡ bits → n < length fields
      → field_number endian high b s after (field_at fields n) ≡ value
      → ((place : ℕ) (d : Bool) → IsBeside (field_at fields n) place → slice_index_or after place d ≡ slice_index_or before place d)
      → record_in endian high b s after fields ≡ slice_set (record_in endian high b s before fields) n value
  numbers-set bits n value fields before after layout long also below is kept =
      let many = length-map fields (field_number endian high b s before) in
      let more = length-map fields (field_number endian high b s after) in
      let size = length-set (record_in endian high b s before fields) n value in
      same_lists _ _ (omega arith) (λ k d low.
      let few : k < length fields = omega arith in
      get_or-map (field_number endian high b s after) fields k no_field d few
      ∙ ⊎_elim (λ (same : k ≡ n). rw same (is ∙ sym (get_or-set_same (record_in endian high b s before fields) n value d (omega arith))))
      (λ (other : k ≡ n → ⊥).
      ap (number_of endian high b (s + (field_at fields k).start)) (window-kept before after (field_at fields n) (field_at fields k) (apart-from bits fields k n layout few below other)
      (rw long (layout.inside k few)) (rw also (layout.inside k few)) kept)
      ∙ sym (get_or-map (field_number endian high b s before) fields k no_field d few) ∙ sym (get_or-set_other (record_in endian high b s before fields) n k value d other)) (same-or-not k n))

  -- The number of a field of `n` bits is below `2^n`.
  pub number-below : (bits n : ℕ) (fields : List Window) (list : List Bool) → IsLayout bits fields → length list ≡ bits → n < length fields
      → field_number endian high b s list (field_at fields n) < 2 ^ (field_at fields n).len
  number-below bits n fields list layout long below =
      rw (length-window list (field_at fields n) (rw long (layout.inside n below))) at (number-fits endian high b (s + (field_at fields n).start) (window_of list (field_at fields n)))

module _ {T O : Type 0} {t : Store T} {o : Order O} (endian : Endian) (high : Bool) where
  -- After one field was written, the numbers of a record are the old ones with this one set.
  pub record-set : (bits n value : ℕ) (fields : List Window) (before after : BitSliceMut T O t o) → IsLayout bits fields → (seen_mut before).window.len ≡ bits → n < length fields
      → WritesField endian high (field_at fields n) value before after
      → record_in endian high t.BITS (seen_mut after).window.start (seen_mut after).bits fields ≡ slice_set (record_in endian high t.BITS (seen_mut before).window.start (seen_mut before).bits fields) n value
  record-set bits n value fields before after layout many below wrote =
      let place = wrote.written.window in
      ap (λ (w : Window). record_in endian high t.BITS w.start (seen_mut after).bits fields) place
      ∙ numbers-set endian high t.BITS (seen_mut before).window.start bits n value fields (seen_mut before).bits (seen_mut after).bits layout (length-seen_mut before ∙ many)
      (length-seen_mut after ∙ ap (λ (w : Window). w.len) place ∙ many) below
      (ap (λ (w : Window). field_number endian high t.BITS w.start (seen_mut after).bits (field_at fields n)) (sym place) ∙ wrote.number) wrote.others

  -- Where a call wrote one field, if it succeeded, the numbers of a record are then the old ones with this one set.
  pub record-set_ok : {A X E : Type 0} (layout : Layout A) (n value : ℕ) (fields : List Window) (before after : BitSliceMut T O t o) (result : Result X E) → fields_of layout ≡ fields
      → (seen_mut before).window.len ≡ bits_of layout → n < length fields → OnOk result (WritesField endian high (field_at (fields_of layout) n) value before after)
      → OnOk result (record_in endian high t.BITS (seen_mut after).window.start (seen_mut after).bits fields ≡ slice_set (record_in endian high t.BITS (seen_mut before).window.start (seen_mut before).bits fields) n value)
  record-set_ok layout n value fields before after (Ok done) is many below wrote =
      record-set (bits_of layout) n value fields before after (rw is at layout.layout) many below (rw is at wrote)
  record-set_ok layout n value fields before after (Err fault) is many below wrote = tt
