-- Fields of a view written one after the other, and the checksum last.
use Rattle.std.specs.Prelude.{◌≡◌, ℕ, ◌-◌, ◌<◌, All, Bool, true, List, [], ◌∷◌, ◌++◌, length, slice_index_or, slice_set, OnOk, refl}
use Rattle.std.proofs.Common.{Err, Ok, arith, sym, ◌∙◌, ap, subst}
use Rattle.std.specs.declared.result.Result.{Result}
use Rattle.std.proofs.lemmas.List.{get_or_append_left, get_or_push, get_or-map, length-map, length_push, set-set}
use Rattle.std.proofs.lemmas.List.Sums.{fold_push}
use Rattle.bitvec.specs.Types.{BitSliceMut, Order, Store, Window}
use Rattle.bitvec.specs.ShowingLaws.{length-seen_mut}
use Rattle.bitvec.specs.Views.{seen_mut}
use Rattle.bitvec.specs.WritesLaws.{written-none, written-then}
use Rattle.bitrecord.specs.Layouts.{IsLayout, field_at, no_field}
use Rattle.bitrecord.specs.Records.{IsBeside, WritesField, field_number, record_in}
use Rattle.bitrecord.specs.declared.endian.Endian.TheVariants.{Big}
use Rattle.packet.specs.Changes.{MakesRight, SetsFields, WritesChanges, numbers_seen, with_changes}
use Rattle.packet.specs.Checksums.{checksum_of, checksum_word, sum_words}
use Rattle.packet.specs.Packets.{AreFields, AreWords, numbers_at, packet_bits}
use Rattle.packet.specs.declared.changes.Change.{Change}
use Rattle.packet.specs.declared.field.TheConstants.{CHECKSUM}
use Rattle.bitrecord.specs.FieldLaws.{number-below, record-set}
use Rattle.packet.proofs.SumLaws.{checksum-right}

-- the words of a list of bits have 16 bits
pub words-below : (bits b s : ℕ) (words : List Window) (list : List Bool) → IsLayout bits words → length list ≡ bits → AreWords words → All (λ word. word < 65536) (record_in Big true b s list words)
words-below bits b s words list layout many are k d low =
    let size = length-map words (field_number Big true b s list) in
    let few : k < length words = omega arith in
    let below = number-below Big true b s bits k words list layout many few in
    let is = get_or-map (field_number Big true b s list) words k no_field d few in
    subst (λ (n : ℕ). n < 65536) (sym is) (rw (ap (λ (w : Window). w.len) (are.each k few)) at below)

-- what a call that did succeed ensures of success
pub done : {X E P : Type 0} (r : Result X E) (x : X) → r ≡ Ok x → OnOk r P → P
done (Ok y) x is p = p
done (Err y) x is p = absurd (cc)

module _ {T O : Type 0} {t : Store T} {o : Order O} where
  -- no change, and one more
  pub changes-none : (fields : List Window) (v : BitSliceMut T O t o) → WritesChanges fields [] v v
  changes-none fields v = record { numbers = refl; others = λ place d beside. refl; written = written-none v }

  pub changes-more : (bits : ℕ) (fields : List Window) (changes : List Change) (change : Change) (first now after : BitSliceMut T O t o) → IsLayout bits fields → (seen_mut first).window.len ≡ bits
      → change.number < length fields → WritesChanges fields changes first now → WritesField Big true (field_at fields change.number) change.value now after → WritesChanges fields (changes ++ change ∷ []) first after
  changes-more bits fields changes change first now after layout many below far wrote = record {
    numbers = record-set Big true bits change.number change.value fields now after layout (ap (λ (w : Window). w.len) far.written.window ∙ many) below wrote
        ∙ ap (λ (list : List ℕ). slice_set list change.number change.value) far.numbers
        ∙ sym (fold_push (λ (list : List ℕ) (c : Change). slice_set list c.number c.value) (numbers_seen first fields) changes change);
    others = λ place d beside.
        let size = length_push changes change in
        let last : IsBeside (field_at fields change.number) place =
        subst (λ (c : Change). IsBeside (field_at fields c.number) place) (get_or_push changes change change (length changes) refl) (beside (length changes) change (omega arith)) in
        wrote.others place d last
        ∙ far.others place d (λ k e low. subst (λ (c : Change). IsBeside (field_at fields c.number) place) (get_or_append_left changes (change ∷ []) e k low) (beside k e (omega arith)));
    written = written-then first now after _ _ far.written wrote.written;
  }

  -- the checksum written as 0, and then as what is wanting
  pub made-right : (bits sum : ℕ) (fields words : List Window) (before middle after : BitSliceMut T O t o) → IsLayout bits fields → IsLayout bits words → (seen_mut before).window.len ≡ bits
      → AreFields fields → AreWords words → WritesField Big true (field_at fields CHECKSUM) 0 before middle → sum ≡ sum_words (numbers_seen middle words)
      → WritesField Big true (field_at fields CHECKSUM) (65535 - sum) middle after → MakesRight fields words before after
  made-right bits sum fields words before middle after layout also many are of zero is wrote =
      let same : field_at fields CHECKSUM ≡ field_at words checksum_word = are.checksum ∙ sym (of.each checksum_word of.some) in
      let len : (seen_mut middle).window.len ≡ bits = ap (λ (w : Window). w.len) zero.written.window ∙ many in
      let old : numbers_seen middle words ≡ slice_set (numbers_seen before words) checksum_word 0 =
      record-set Big true bits checksum_word 0 words before middle also many of.some (subst (λ (w : Window). WritesField Big true w 0 before middle) same zero) in
      let new : numbers_seen after words ≡ slice_set (numbers_seen middle words) checksum_word (65535 - sum) =
      record-set Big true bits checksum_word (65535 - sum) words middle after also len of.some (subst (λ (w : Window). WritesField Big true w (65535 - sum) middle after) same wrote) in
      let none : slice_set (numbers_seen middle words) checksum_word 0 ≡ numbers_seen middle words =
      ap (λ (l : List ℕ). slice_set l checksum_word 0) old ∙ set-set (numbers_seen before words) checksum_word 0 0 ∙ sym old in
      let wanting : 65535 - sum ≡ checksum_of (numbers_seen middle words) = ap (λ (n : ℕ). 65535 - n) is ∙ ap (λ (l : List ℕ). 65535 - sum_words l) (sym none) in
      let here : 65535 - sum ≡ checksum_of (numbers_seen after words) =
      wanting ∙ ap (λ (l : List ℕ). 65535 - sum_words l) (sym (set-set (numbers_seen middle words) checksum_word (65535 - sum) 0) ∙ ap (λ (l : List ℕ). slice_set l checksum_word 0) (sym new)) in
      let size = length-map words (field_number Big true t.BITS (seen_mut middle).window.start (seen_mut middle).bits) in
      let some = of.some in
      record {
        numbers = record-set Big true bits CHECKSUM (65535 - sum) fields middle after layout len are.some wrote
            ∙ ap (λ (l : List ℕ). slice_set l CHECKSUM (65535 - sum)) (record-set Big true bits CHECKSUM 0 fields before middle layout many are.some zero)
            ∙ set-set (numbers_seen before fields) CHECKSUM 0 (65535 - sum)
            ∙ ap (λ (n : ℕ). slice_set (numbers_seen before fields) CHECKSUM n) here;
        right = ap sum_words (new ∙ ap (λ (n : ℕ). slice_set (numbers_seen middle words) checksum_word n) wanting)
            ∙ checksum-right (numbers_seen middle words) (omega arith) (words-below bits t.BITS (seen_mut middle).window.start words (seen_mut middle).bits also (length-seen_mut middle ∙ len) of);
        others = λ place d beside. wrote.others place d beside ∙ zero.others place d beside;
        written = written-then before middle after _ _ zero.written wrote.written;
      }

  -- what a whole view of bytes shows, in the words of packets
  as-packet : (v : BitSliceMut T O t o) (bytes : List ℕ) (windows : List Window) → t.BITS ≡ 8 → (seen_mut v).window.start ≡ 0 → (seen_mut v).bits ≡ packet_bits bytes
      → numbers_seen v windows ≡ numbers_at bytes windows
  as-packet v bytes windows eight zero same =
      ap (λ (b : ℕ). record_in Big true b (seen_mut v).window.start (seen_mut v).bits windows) eight
      ∙ ap (λ (s : ℕ). record_in Big true 8 s (seen_mut v).bits windows) zero
      ∙ ap (λ (list : List Bool). record_in Big true 8 0 list windows) same

  pub set-fields : (fields words : List Window) (changes : List Change) (before after : List ℕ) (first middle last : BitSliceMut T O t o) → t.BITS ≡ 8
      → (seen_mut first).window.start ≡ 0 → (seen_mut first).bits ≡ packet_bits before → WritesChanges fields changes first middle → MakesRight fields words middle last
      → (seen_mut last).bits ≡ packet_bits after → length after ≡ length before → SetsFields fields words changes before after
  set-fields fields words changes before after first middle last eight zero same wrote right also size =
      let end : (seen_mut last).window.start ≡ 0 = ap (λ (w : Window). w.start) right.written.window ∙ ap (λ (w : Window). w.start) wrote.written.window ∙ zero in
      record {
        numbers = sym (as-packet last after fields eight end also) ∙ right.numbers
            ∙ ap (λ (l : List ℕ). slice_set l CHECKSUM (checksum_of (numbers_seen last words))) (wrote.numbers ∙ ap (λ (l : List ℕ). with_changes l changes) (as-packet first before fields eight zero same))
            ∙ ap (λ (l : List ℕ). slice_set (with_changes (numbers_at before fields) changes) CHECKSUM (checksum_of l)) (as-packet last after words eight end also);
        right = ap sum_words (sym (as-packet last after words eight end also)) ∙ right.right;
        others = λ place d beside check. ap (λ (l : List Bool). slice_index_or l place d) (sym also) ∙ right.others place d check ∙ wrote.others place d beside
            ∙ ap (λ (l : List Bool). slice_index_or l place d) same;
        length = size;
      }
