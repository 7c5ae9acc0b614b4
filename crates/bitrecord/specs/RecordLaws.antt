-- Laws of records for callers: what numbers and the bits in no field fix.
use Rattle.std.specs.Prelude.{◌≡◌, ℕ, ◌+◌, ◌-◌, ◌^◌, ◌<◌, ◌≤◌, ◌⊎◌, Bool, List, length, slice_index, slice_index_or, zip, IfErr, IsOk, IsPermutation, OnOk, refl}
use Rattle.std.proofs.Common.{Err, Ok, arith, suc, zero, sym, ◌∙◌, ap, ⊎_elim, inl, inr, subst}
use Rattle.std.proofs.lemmas.List.{get_or_default, get_or-map, length-map, same_lists}
use Rattle.std.proofs.lemmas.List.Elements.{Contains-get_or}
use Rattle.std.proofs.lemmas.List.Sorted.{Contains-permutation, IsPermutation-sym}
use Rattle.std.proofs.lemmas.Slice.Zip.{firsts-zip, get_or-zip}
use Rattle.std.specs.List.{Contains}
use Rattle.std.specs.declared.result.Result.{Result}
use Rattle.bitvec.specs.LoadLaws.{loaded_be-below, loaded_le-below}
use Rattle.bitvec.specs.Seen.{Seen}
use Rattle.bitvec.specs.ShowingLaws.{length-seen_mut}
use Rattle.bitvec.specs.StoreLaws.{loaded_be-determines, loaded_le-determines}
use Rattle.bitvec.specs.Types.{BitSliceMut, Order, Store, Window}
use Rattle.bitvec.specs.Views.{seen_mut}
use Rattle.bitvec.specs.Window.{IsWithin, window_of}
use Rattle.bitvec.specs.WindowLaws.{get-window, length-window}
use Rattle.bitvec.specs.Writes.{WritesBits}
use Rattle.bitrecord.specs.Layouts.{EachField, IsLayout, field_at, no_field}
use Rattle.bitrecord.specs.Records.{AreEncodable, IsBeside, IsOutside, IsRefusal, WritesRecord, field_number, number_of, record_in}
use Rattle.bitrecord.specs.declared.encode_error.EncodeError.{EncodeError}
use Rattle.bitrecord.specs.declared.encode_error.EncodeError.TheVariants as refusal
use Rattle.bitrecord.specs.declared.endian.Endian.{Endian}
use Rattle.bitrecord.specs.declared.endian.Endian.TheVariants as end
use Rattle.bitrecord.specs.declared.layout.Layout.{Layout}
use Rattle.bitrecord.specs.Views.{bits_of, fields_of}

-- `AgreeOutside fields x y` says that two lists have the same bits at each place that is in no field.
abbrev pub AgreeOutside : List Window → List Bool → List Bool → Type 0
AgreeOutside fields x y = (place : ℕ) (d : Bool) → IsOutside fields place → slice_index_or x place d ≡ slice_index_or y place d

-- The fields of a `Layout` are a layout of its bits.
pub is-layout : {A : Type 0} (layout : Layout A) → IsLayout (bits_of layout) (fields_of layout)
is-layout layout = layout.layout

-- Two lists of one length with one number are one list.
pub number-determines : (endian : Endian) (high : Bool) (b s : ℕ) (x y : List Bool) → 0 < b → length x ≡ length y → number_of endian high b s x ≡ number_of endian high b s y → x ≡ y
number-determines end.Little high b s x y some long same = loaded_le-determines high b s x y some long same
number-determines end.Big high b s x y some long same = loaded_be-determines high b s x y some long same

-- A place is beside a field or in it, so what follows of either holds.
pub beside-or-in : {P : Type 0} (field : Window) (place : ℕ) → (IsBeside field place → P) → (field.start ≤ place → place < field.start + field.len → P) → P
beside-or-in {P} field place beside inside =
    let sides : (place < field.start) ⊎ (field.start ≤ place) = grind arith in
    let ends : (place < field.start + field.len) ⊎ (field.start + field.len ≤ place) = grind arith in
    ⊎_elim (λ front. beside (inl front)) (λ from. ⊎_elim (λ below. inside from below) (λ behind. beside (inr behind)) ends) sides

-- A number below `n + 1` is below `n`, or it is `n`.
pub earlier_or_this : (k n : ℕ) → k < n + 1 → (k < n) ⊎ (k ≡ n)
earlier_or_this k n low = grind arith

-- A place is in none of the first `n` fields or in one of them, so what follows of either holds.
pub outside-or-in : {P : Type 0} (fields : List Window) (place n : ℕ) → (((k : ℕ) → k < n → IsBeside (field_at fields k) place) → P)
    → ((k : ℕ) → k < n → (field_at fields k).start ≤ place → place < (field_at fields k).start + (field_at fields k).len → P) → P
outside-or-in {P} fields place zero outside inside = outside (λ k low. absurd (omega arith))
outside-or-in {P} fields place (suc n) outside inside =
    outside-or-in fields place n
    (λ before. beside-or-in (field_at fields n) place
    (λ beside. outside (λ k low. ⊎_elim (λ (earlier : k < n). before k earlier) (λ (this : k ≡ n). rw this beside) (earlier_or_this k n (omega arith))))
    (λ from below. inside n (omega arith) from below))
    (λ k low from below. inside k (omega arith) from below)

-- Two lists of one length with the same number in each field and the same bits in no field are one list.
pub fields-determine : (endian : Endian) (high : Bool) (b s : ℕ) (fields : List Window) (x y : List Bool) → 0 < b → length x ≡ length y → EachField (λ field. IsWithin field (length x)) fields
    → ((k : ℕ) → k < length fields → field_number endian high b s x (field_at fields k) ≡ field_number endian high b s y (field_at fields k)) → AgreeOutside fields x y → x ≡ y
fields-determine endian high b s fields x y some long inside same outside = same_lists x y long (λ place d low.
    outside-or-in fields place (length fields) (λ none. outside place d none) (λ k few from below.
    let field : Window = field_at fields k in
    let within = inside k few in
    let also : IsWithin field (length y) = rw (← long) within in
    let many : length (window_of x field) ≡ length (window_of y field) = length-window x field within ∙ sym (length-window y field also) in
    let one = number-determines endian high b (s + field.start) (window_of x field) (window_of y field) some many (same k few) in
    let at : ℕ = place - field.start in
    let there : field.start + at ≡ place = omega arith in
    let inner : at < field.len = omega arith in
    ap (λ (n : ℕ). slice_index_or x n d) (sym there) ∙ sym (get-window x field at d inner) ∙ ap (λ (l : List Bool). slice_index_or l at d) one ∙ get-window y field at d inner ∙ ap (λ (n : ℕ). slice_index_or y n d) there))

-- Number `k` of the numbers of a record is that of field `k`.
pub number-of-record : (endian : Endian) (high : Bool) (b s : ℕ) (list : List Bool) (fields : List Window) (k : ℕ) (e : ℕ) → k < length fields
    → slice_index_or (record_in endian high b s list fields) k e ≡ field_number endian high b s list (field_at fields k)
number-of-record endian high b s list fields k e low = get_or-map (field_number endian high b s list) fields k no_field e low

-- Two records of one length with the same numbers and the same bits in no field are one.
pub record-determines : (endian : Endian) (high : Bool) (b s : ℕ) (fields : List Window) (x y : List Bool) → 0 < b → length x ≡ length y → EachField (λ field. IsWithin field (length x)) fields
    → record_in endian high b s x fields ≡ record_in endian high b s y fields → AgreeOutside fields x y → x ≡ y
record-determines endian high b s fields x y some long inside same outside = fields-determine endian high b s fields x y some long inside
    (λ k low. sym (number-of-record endian high b s x fields k 0 low) ∙ ap (λ (l : List ℕ). slice_index_or l k 0) same ∙ number-of-record endian high b s y fields k 0 low) outside

-- The number of a list of `n` bits is below `2^n`.
pub number-fits : (endian : Endian) (high : Bool) (b s : ℕ) (list : List Bool) → number_of endian high b s list < 2 ^ length list
number-fits end.Little high b s list = loaded_le-below high b s list
number-fits end.Big high b s list = loaded_be-below high b s list

-- The numbers that a record has can be encoded: there is one a field, and each fits its field.
pub record-encodable : (endian : Endian) (high : Bool) (b s : ℕ) (list : List Bool) (fields : List Window) → EachField (λ field. IsWithin field (length list)) fields → AreEncodable fields (record_in endian high b s list fields)
record-encodable endian high b s list fields inside = record {
  count = length-map fields (field_number endian high b s list);
  fit = λ k low. rw (number-of-record endian high b s list fields k 0 low)
      (rw (length-window list (field_at fields k) (inside k low)) at (number-fits endian high b (s + (field_at fields k).start) (window_of list (field_at fields k))));
}

-- Values that can be encoded are not refused.
pub encodable-accepted : {X : Type 0} (fields : List Window) (values : List ℕ) (r : Result X EncodeError) → AreEncodable fields values → IfErr r (IsRefusal fields values) → IsOk r
encodable-accepted fields values (Ok x) able why = refl
encodable-accepted fields values (Err refusal.Count) able why = absurd (why able.count)
encodable-accepted fields values (Err (refusal.Range i)) able why = let large = why.large in let fit = able.fit i why.below in absurd (omega arith)

-- What holds where `encode` succeeds holds of values that can be encoded.
pub encodable-done : {X P : Type 0} (fields : List Window) (values : List ℕ) (r : Result X EncodeError) → AreEncodable fields values → IfErr r (IsRefusal fields values) → OnOk r P → P
encodable-done fields values (Ok x) able why done = done
encodable-done fields values (Err refusal.Count) able why done = absurd (why able.count)
encodable-done fields values (Err (refusal.Range i)) able why done = let large = why.large in let fit = able.fit i why.below in absurd (omega arith)

-- What follows of two facts that hold on success holds on success.
pub on-ok-both : {X E P Q R : Type 0} (r : Result X E) → OnOk r P → OnOk r Q → (P → Q → R) → OnOk r R
on-ok-both (Ok x) p q then = then p q
on-ok-both (Err e) p q then = tt

-- Two views that show the same have records of the same numbers.
pub seen-record : {T : Type 0} (endian : Endian) (high : Bool) (b : ℕ) (fields : List Window) (x y : Seen T) → x ≡ y
    → record_in endian high b x.window.start x.bits fields ≡ record_in endian high b y.window.start y.bits fields
seen-record {T} endian high b fields x y same = ap (λ (v : Seen T). record_in endian high b v.window.start v.bits fields) same

-- a field with its value stands in another order too
zip-long : (fields : List Window) (values : List ℕ) → length values ≡ length fields → length (zip fields values) ≡ length fields
zip-long fields values many = sym (length-map (zip fields values) (λ (p : Window × ℕ). p.0)) ∙ ap length (firsts-zip fields values many)

-- A field and its value stand somewhere in any other order of both, so what follows of that holds.
pub stands-among : {P : Type 0} (fields : List Window) (values : List ℕ) (others : List Window) (numbers : List ℕ) → length values ≡ length fields → length numbers ≡ length others → IsPermutation (zip fields values) (zip others numbers) → (k : ℕ) → k < length fields
    → ((j : ℕ) → j < length others → field_at others j ≡ field_at fields k → slice_index numbers j ≡ slice_index values k → P) → P
stands-among {P} fields values others numbers many also order k low then =
    let pairs = zip-long fields values many in
    let more = zip-long others numbers also in
    let d : Window × ℕ = (no_field, 0) in
    let at-k : slice_index_or (zip fields values) k d ≡ (field_at fields k, slice_index values k) = get_or-zip fields values k d low (omega arith) in
    let here : Contains (zip others numbers) (slice_index_or (zip fields values) k d) = Contains-permutation (zip fields values) (zip others numbers) _ order (Contains-get_or (zip fields values) k d (omega arith)) in
    let j : ℕ = here.0 in
    let below : j < length (zip others numbers) = here.1 in
    let few : j < length others = omega arith in
    let at-j : (field_at others j, slice_index numbers j) ≡ (field_at fields k, slice_index values k) =
    sym (get_or-zip others numbers j d few (omega arith)) ∙ get_or_default (zip others numbers) j d _ below ∙ here.2 ∙ at-k in
    then j few (ap (λ (p : Window × ℕ). p.0) at-j) (ap (λ (p : Window × ℕ). p.1) at-j)

module _ {T O : Type 0} {t : Store T} {o : Order O} (endian : Endian) (high : Bool) where
  -- Two views of one window that agree outside the fields have the same bits after the same values were written into both.
  pub writes-determine : (fields : List Window) (values : List ℕ) (first one second other : BitSliceMut T O t o) → 0 < t.BITS → EachField (λ field. IsWithin field (seen_mut first).window.len) fields
      → (seen_mut second).window ≡ (seen_mut first).window → AgreeOutside fields (seen_mut first).bits (seen_mut second).bits
      → WritesRecord endian high fields values first one → WritesRecord endian high fields values second other → (seen_mut one).bits ≡ (seen_mut other).bits
  writes-determine fields values first one second other some inside window agree wrote also =
      let place = wrote.written.window in
      let there = also.written.window ∙ window in
      let many : length (seen_mut one).bits ≡ (seen_mut first).window.len = length-seen_mut one ∙ ap (λ (w : Window). w.len) place in
      let more : length (seen_mut other).bits ≡ (seen_mut first).window.len = length-seen_mut other ∙ ap (λ (w : Window). w.len) there in
      fields-determine endian high t.BITS (seen_mut first).window.start fields (seen_mut one).bits (seen_mut other).bits some (many ∙ sym more) (λ k low. rw many (inside k low))
      (λ k low. ap (λ (w : Window). field_number endian high t.BITS w.start (seen_mut one).bits (field_at fields k)) (sym place) ∙ wrote.numbers k low
      ∙ sym (also.numbers k low) ∙ ap (λ (w : Window). field_number endian high t.BITS w.start (seen_mut other).bits (field_at fields k)) there)
      (λ k d outside. wrote.others k d outside ∙ agree k d outside ∙ sym (also.others k d outside))

  -- The numbers that a record has, written into it again, leave its bits.
  pub written-back : (fields : List Window) (before after : BitSliceMut T O t o) → 0 < t.BITS → EachField (λ field. IsWithin field (seen_mut before).window.len) fields
      → WritesRecord endian high fields (record_in endian high t.BITS (seen_mut before).window.start (seen_mut before).bits fields) before after → WritesBits before after (seen_mut before).bits
  written-back fields before after some inside wrote =
      let place = wrote.written.window in
      let many : length (seen_mut after).bits ≡ (seen_mut before).window.len = length-seen_mut after ∙ ap (λ (w : Window). w.len) place in
      let same : (seen_mut after).bits ≡ (seen_mut before).bits =
      fields-determine endian high t.BITS (seen_mut before).window.start fields (seen_mut after).bits (seen_mut before).bits some (many ∙ sym (length-seen_mut before)) (λ k low. rw many (inside k low))
      (λ k low. ap (λ (w : Window). field_number endian high t.BITS w.start (seen_mut after).bits (field_at fields k)) (sym place) ∙ wrote.numbers k low
      ∙ number-of-record endian high t.BITS (seen_mut before).window.start (seen_mut before).bits fields k 0 low)
      wrote.others in
      subst (WritesBits before after) same wrote.written

  -- Values that were written into their fields are written in any other order of the fields, each with its value.
  pub order-free : (fields : List Window) (values : List ℕ) (others : List Window) (numbers : List ℕ) (before after : BitSliceMut T O t o) → length values ≡ length fields → length numbers ≡ length others
      → IsPermutation (zip fields values) (zip others numbers) → WritesRecord endian high fields values before after → WritesRecord endian high others numbers before after
  order-free fields values others numbers before after many also order wrote = record {
    numbers = λ k low. stands-among others numbers fields values also many (IsPermutation-sym _ _ order) k low (λ j few field value.
        ap (λ (w : Window). field_number endian high t.BITS (seen_mut after).window.start (seen_mut after).bits w) (sym field) ∙ wrote.numbers j few ∙ value);
    others = λ place d outside. wrote.others place d (λ k low. stands-among fields values others numbers many also order k low (λ j few field value.
        subst (λ (w : Window). IsBeside w place) field (outside j few)));
    written = wrote.written;
  }

  -- Values that are the numbers of a view's record can be encoded.
  pub encodable-back : (fields : List Window) (values : List ℕ) (before : BitSliceMut T O t o) → EachField (λ field. IsWithin field (seen_mut before).window.len) fields
      → values ≡ record_in endian high t.BITS (seen_mut before).window.start (seen_mut before).bits fields → AreEncodable fields values
  encodable-back fields values before inside told =
      subst (AreEncodable fields) (sym told) (record-encodable endian high t.BITS (seen_mut before).window.start (seen_mut before).bits fields (λ k low. rw (length-seen_mut before) (inside k low)))

  -- An `encode` of the numbers that a view's record has leaves the view's bits.
  pub encoded-back : {X : Type 0} (fields : List Window) (values : List ℕ) (before after : BitSliceMut T O t o) (r : Result X EncodeError) → 0 < t.BITS → EachField (λ field. IsWithin field (seen_mut before).window.len) fields
      → values ≡ record_in endian high t.BITS (seen_mut before).window.start (seen_mut before).bits fields → IfErr r (IsRefusal fields values) → OnOk r (WritesRecord endian high fields values before after)
      → WritesBits before after (seen_mut before).bits
  encoded-back fields values before after r some inside told why wrote =
      written-back fields before after some inside
      (subst (λ (l : List ℕ). WritesRecord endian high fields l before after) told (encodable-done fields values r (encodable-back fields values before inside told) why wrote))
