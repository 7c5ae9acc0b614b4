-- A field written into a view, and one field after the other.
use Rattle.std.specs.Prelude.{◌≡◌, ℕ, ◌+◌, ◌*◌, ◌%◌, ◌^◌, ◌<◌, ◌≤◌, if◌then◌else◌, Bool, List, length, slice_index, slice_index_or, slice_range, refl}
use Rattle.std.proofs.Common.{arith, inl, inr, sym, ◌∙◌, ap, ⊎_elim, subst}
use Rattle.std.proofs.Math.Nat.{mod-eq_of_lt, mod-mod}
use Rattle.std.proofs.Math.Pow.{pow_mono}
use Rattle.std.proofs.lemmas.Bool.{cases_lt}
use Rattle.bitvec.specs.LoadLaws.{loaded_be-phase, loaded_le-phase}
use Rattle.bitvec.specs.Segments.{loaded_be, loaded_le, stored_be, stored_le}
use Rattle.bitvec.specs.ShowingLaws.{length-seen_mut}
use Rattle.bitvec.specs.StoreLaws.{length-stored_be, length-stored_le, stored_be-loads, stored_le-loads}
use Rattle.bitvec.specs.Types.{BitSliceMut, Order, Store, Window}
use Rattle.bitvec.specs.Views.{seen_mut}
use Rattle.bitvec.specs.Window.{IsWithin, window_of, write_at}
use Rattle.bitvec.specs.WindowLaws.{window-written}
use Rattle.bitvec.specs.WriteLaws.{get-write_at_above, get-write_at_below, length-slice_range}
use Rattle.bitvec.specs.Writes.{WritesBits}
use Rattle.bitvec.specs.WritesLaws.{written-then}
use Rattle.bitrecord.proofs.Digits.{number-joined, seamless-number}
use Rattle.bitrecord.proofs.RunLaws.{run-apart, run-beside}
use Rattle.bitrecord.specs.FieldLaws.{window-kept}
use Rattle.bitrecord.specs.Layouts.{AreApart, IsLayout, field_at}
use Rattle.bitrecord.specs.RecordLaws.{earlier_or_this}
use Rattle.bitrecord.specs.Records.{Fits, WritesField, WritesFields, field_number, number_of}
use Rattle.bitrecord.specs.RunWrites.{WritesRun}
use Rattle.bitrecord.specs.Runs.{IsRun, IsSeamless, across, end_of, plain_number}
use Rattle.bitrecord.specs.declared.endian.Endian.{Endian}
use Rattle.bitrecord.specs.declared.endian.Endian.TheVariants.{Big as big, Little as little}

below-more : (a m n : ℕ) → a < m → m ≤ n → a < n
below-more a m n low most = omega arith

-- a number that fits a field is its remainder by the numbers of a type that has no fewer bits
pub fits-kept : (bits len value : ℕ) → len ≤ bits → value < 2 ^ len → value % 2 ^ bits ≡ value
fits-kept bits len value bound fits =
    let most : 2 ^ len ≤ 2 ^ bits = pow_mono bound in
    mod-eq_of_lt (below-more value _ _ fits most)

field-slice : (list : List Bool) (field : Window) → window_of list field ≡ slice_range list field.start (field.start + field.len)
unfolding window_of
field-slice list field = refl

-- what is loaded of a part that is the field
pub take-le : (high : Bool) (b s start : ℕ) (list part : List Bool) (field : Window) → part ≡ slice_range list field.start (field.start + field.len) → start ≡ (s + field.start) % b
    → loaded_le high b start part ≡ loaded_le high b (s + field.start) (window_of list field)
take-le high b s start list part field is place =
    loaded_le-phase high b start (s + field.start) part (ap (λ (n : ℕ). n % b) place ∙ mod-mod (s + field.start) b)
    ∙ ap (loaded_le high b (s + field.start)) (is ∙ sym (field-slice list field))

pub take-be : (high : Bool) (b s start : ℕ) (list part : List Bool) (field : Window) → part ≡ slice_range list field.start (field.start + field.len) → start ≡ (s + field.start) % b
    → loaded_be high b start part ≡ loaded_be high b (s + field.start) (window_of list field)
take-be high b s start list part field is place =
    loaded_be-phase high b start (s + field.start) part (ap (λ (n : ℕ). n % b) place ∙ mod-mod (s + field.start) b)
    ∙ ap (loaded_be high b (s + field.start)) (is ∙ sym (field-slice list field))

module _ {T O : Type 0} {t : Store T} {o : Order O} (high : Bool) (before after : BitSliceMut T O t o) where
  -- a list with the number, written into the field
  pub put-field : (endian : Endian) (field : Window) (value : ℕ) (new : List Bool) → IsWithin field (seen_mut before).window.len → length new ≡ field.len
      → number_of endian high t.BITS ((seen_mut before).window.start + field.start) new ≡ value
      → WritesBits before after (write_at (seen_mut before).bits field.start new) → WritesField endian high field value before after
  put-field endian field value new inside many is wrote =
      let all = length-seen_mut before in
      let start = inside.start in
      let len = inside.len in
      let within : IsWithin field (length (seen_mut before).bits) = record { start = omega arith; len = omega arith } in
      let holds : window_of (seen_mut after).bits field ≡ new = ap (λ (l : List Bool). window_of l field) wrote.bits ∙ window-written (seen_mut before).bits field new within many in
      record {
        number = ap (λ (w : Window). number_of endian high t.BITS (w.start + field.start) (window_of (seen_mut after).bits field)) wrote.window
            ∙ ap (number_of endian high t.BITS ((seen_mut before).window.start + field.start)) holds ∙ is;
        others = λ place d beside. ap (λ (l : List Bool). slice_index_or l place d) wrote.bits
            ∙ ⊎_elim (λ (front : place < field.start). get-write_at_below (seen_mut before).bits field.start new place d (omega arith) front)
            (λ (behind : field.start + field.len ≤ place). get-write_at_above (seen_mut before).bits field.start new place d (omega arith) (omega arith)) beside;
        written = subst (WritesBits before after) (sym wrote.bits) wrote;
      }

  pub put-le : (field : Window) (value : ℕ) → IsWithin field (seen_mut before).window.len → Fits field value → 0 < t.BITS
      → WritesBits before after (write_at (seen_mut before).bits field.start (stored_le high t.BITS ((seen_mut before).window.start + field.start) value (slice_range (seen_mut before).bits field.start (field.start + field.len))))
      → WritesField little high field value before after
  put-le field value inside fits some wrote =
      let all = length-seen_mut before in
      let start = inside.start in
      let len = inside.len in
      let list = slice_range (seen_mut before).bits field.start (field.start + field.len) in
      let many : length list ≡ field.len = length-slice_range (seen_mut before).bits field.start (field.start + field.len) (omega arith) ∙ omega arith in
      put-field little field value _ inside (length-stored_le high t.BITS _ value list ∙ many)
      (stored_le-loads high t.BITS _ value list some ∙ ap (λ (n : ℕ). value % 2 ^ n) many ∙ mod-eq_of_lt fits) wrote

  pub put-be : (field : Window) (value : ℕ) → IsWithin field (seen_mut before).window.len → Fits field value → 0 < t.BITS
      → WritesBits before after (write_at (seen_mut before).bits field.start (stored_be high t.BITS ((seen_mut before).window.start + field.start) value (slice_range (seen_mut before).bits field.start (field.start + field.len))))
      → WritesField big high field value before after
  put-be field value inside fits some wrote =
      let all = length-seen_mut before in
      let start = inside.start in
      let len = inside.len in
      let list = slice_range (seen_mut before).bits field.start (field.start + field.len) in
      let many : length list ≡ field.len = length-slice_range (seen_mut before).bits field.start (field.start + field.len) (omega arith) ∙ omega arith in
      put-field big field value _ inside (length-stored_be high t.BITS _ value list ∙ many)
      (stored_be-loads high t.BITS _ value list some ∙ ap (λ (n : ℕ). value % 2 ^ n) many ∙ mod-eq_of_lt fits) wrote

  -- a field apart from that which was written has its number as before
  pub other-field : (endian : Endian) (field other : Window) (value : ℕ) → AreApart other field → IsWithin other (seen_mut before).window.len → WritesField endian high field value before after
      → field_number endian high t.BITS (seen_mut after).window.start (seen_mut after).bits other ≡ field_number endian high t.BITS (seen_mut before).window.start (seen_mut before).bits other
  other-field endian field other value apart inside wrote =
      let all = length-seen_mut before in
      let now = length-seen_mut after ∙ ap (λ (w : Window). w.len) wrote.written.window in
      let start = inside.start in
      let len = inside.len in
      ap (λ (w : Window). number_of endian high t.BITS (w.start + other.start) (window_of (seen_mut after).bits other)) wrote.written.window
      ∙ ap (number_of endian high t.BITS ((seen_mut before).window.start + other.start))
      (window-kept (seen_mut before).bits (seen_mut after).bits field other apart (record { start = omega arith; len = omega arith }) (record { start = omega arith; len = omega arith }) wrote.others)

  -- a run has a number that tells those of its fields
  pub run-written : (endian : Endian) (bits : ℕ) (fields : List Window) (values : List ℕ) (first last word : ℕ) (run : Window) → IsSeamless endian high → IsLayout bits fields → (seen_mut before).window.len ≡ bits → IsRun fields first last
      → run.start ≡ (field_at fields first).start → end_of fields last ≡ run.start + run.len
      → ((list : List Bool) → run.start + run.len ≤ length list → plain_number high list run ≡ word → (k : ℕ) → first ≤ k → k ≤ last → plain_number high list (field_at fields k) ≡ slice_index values k)
      → WritesField endian high run word before after → WritesRun endian high fields values first last before after
  run-written endian bits fields values first last word run seam layout many is start end told wrote =
      let now = length-seen_mut after ∙ ap (λ (w : Window). w.len) wrote.written.window in
      let inside = layout.inside last is.below in
      let from = inside.start in
      let most = inside.len in
      let order = is.behind first (omega arith) is.order in
      record {
        numbers = λ k least low. seamless-number endian high t.BITS (seen_mut after).window.start (seen_mut after).bits (field_at fields k) seam
            ∙ told (seen_mut after).bits (omega arith) (sym (seamless-number endian high t.BITS (seen_mut after).window.start (seen_mut after).bits run seam) ∙ wrote.number) k least low;
        others = λ place d beside. wrote.others place d (⊎_elim (λ (front : place < (field_at fields first).start). inl (omega arith)) (λ (behind : (across fields first last).start + (across fields first last).len ≤ place). inr (omega arith)) beside);
        written = wrote.written;
      }

module _ {T O : Type 0} {t : Store T} {o : Order O} (high : Bool) (first now after : BitSliceMut T O t o) where
  -- the next field is written
  pub next-field : (endian : Endian) (bits : ℕ) (fields : List Window) (values : List ℕ) (n : ℕ) → IsLayout bits fields → (seen_mut first).window.len ≡ bits → n < length fields
      → WritesFields endian high fields values n first now → WritesField endian high (field_at fields n) (slice_index values n) now after
      → WritesFields endian high fields values (n + 1) first after
  next-field endian bits fields values n layout many below far wrote =
      let width = ap (λ (w : Window). w.len) far.written.window ∙ many in
      record {
        numbers = λ k low. ⊎_elim
            (λ (earlier : k < n). other-field high now after endian (field_at fields n) (field_at fields k) (slice_index values n)
            (layout.apart k (omega arith) n (omega arith) below) (rw width (layout.inside k (omega arith))) wrote ∙ far.numbers k earlier)
            (λ (this : k ≡ n). rw this wrote.number) (earlier_or_this k n low);
        others = λ place d outside. wrote.others place d (outside n below) ∙ far.others place d outside;
        written = written-then first now after _ _ far.written wrote.written;
      }

  -- the fields of a run are written
  pub next-run : (endian : Endian) (bits : ℕ) (fields : List Window) (values : List ℕ) (n last : ℕ) → IsLayout bits fields → (seen_mut first).window.len ≡ bits → IsRun fields n last
      → WritesFields endian high fields values n first now → WritesRun endian high fields values n last now after → WritesFields endian high fields values (last + 1) first after
  next-run endian bits fields values n last layout many run far wrote =
      let width = ap (λ (w : Window). w.len) far.written.window ∙ many in
      let below = run.below in
      let order = run.order in
      record {
        numbers = λ k low. ⊎_elim
            (λ (earlier : k < n). other-field high now after endian (across fields n last) (field_at fields k) _ (run-apart bits k n last fields layout run earlier) (rw width (layout.inside k (omega arith)))
            (record { number = refl; others = wrote.others; written = wrote.written }) ∙ far.numbers k earlier)
            (λ (from : n ≤ k). wrote.numbers k from (omega arith)) (cases_lt k n);
        others = λ place d outside. wrote.others place d (run-beside fields n last place run (λ k from low. outside k (omega arith))) ∙ far.others place d outside;
        written = written-then first now after _ _ far.written wrote.written;
      }

  -- two fields are written, one behind the other, as one
  pub both-written : (endian : Endian) (x y field : Window) (v w value : ℕ) → IsSeamless endian high → IsWithin field (seen_mut first).window.len → x.start ≡ field.start → y.start ≡ field.start + x.len → field.len ≡ x.len + y.len
      → value ≡ (if high then v * 2 ^ y.len + w else w * 2 ^ x.len + v) → WritesField endian high x v first now → WritesField endian high y w now after → WritesField endian high field value first after
  both-written endian x y field v w value seam inside start behind len is one two =
      let from = inside.start in
      let most = inside.len in
      let width = ap (λ (w : Window). w.len) one.written.window in
      let long = length-seen_mut after ∙ ap (λ (w : Window). w.len) two.written.window ∙ width in
      let plain = seamless-number endian high t.BITS (seen_mut after).window.start (seen_mut after).bits in
      let left = sym (plain x seam) ∙ other-field high now after endian y x w (λ over. let before = over.first in let beyond = over.second in omega arith) (record { start = omega arith; len = omega arith }) two ∙ one.number in
      let right = sym (plain y seam) ∙ two.number in
      record {
        number = plain field seam ∙ number-joined high (seen_mut after).bits x y field (record { start = omega arith; len = omega arith }) start behind len ∙ rw (left, right) (sym is);
        others = λ place d beside. two.others place d (⊎_elim (λ (front : place < field.start). inl (omega arith)) (λ (end : field.start + field.len ≤ place). inr (omega arith)) beside)
            ∙ one.others place d (⊎_elim (λ (front : place < field.start). inl (omega arith)) (λ (end : field.start + field.len ≤ place). inr (omega arith)) beside);
        written = written-then first now after _ _ one.written two.written;
      }
