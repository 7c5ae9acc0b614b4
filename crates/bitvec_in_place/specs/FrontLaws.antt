-- The front of a list of bits: how long it is, each bit, and after an edit inside it, behind it or at its end.
use Rattle.std.specs.Prelude.{◌≡◌, ◌≢◌, ℕ, ◌+◌, ◌-◌, ◌*◌, ◌<◌, ◌≤◌, Bool, List, [], ◌∷◌, ◌++◌, drop, length, refl, replicate, slice_index_or, slice_range, slice_set, take}
use Rattle.std.specs.List.{insert, remove}
use Rattle.std.proofs.Common.{◌∙◌, ap, arith, rules, sym, ⊎_elim}
use Rattle.std.proofs.Math.Seq.{take-add, take-set-lt}
use Rattle.std.proofs.lemmas.Bool.{cases_eq}
use Rattle.std.proofs.lemmas.Grind.{get_or-set_at, take-set_at}
use Rattle.std.proofs.lemmas.List.{drop-drop, drop-take, get_or-set_other, get_or-take, length-replicate, length-set, length-take-le, places, same_lists, take-take, take_all, take-append-le, take-set-le, take_more}
use Rattle.std.proofs.lemmas.List.Edits.{length-insert, length-remove}
use Rattle.std.proofs.lemmas.Slice.{between_from_start}
use Rattle.bitvec_base.specs.Lists.{copied_within}
use Rattle.bitvec_base.specs.Memory.{memory_bits}
use Rattle.bitvec_base.specs.MemoryLaws.{length-memory_bits, memory-append}
use Rattle.bitvec_base.specs.Window.{write_at}
use Rattle.bitvec_base.specs.WriteLaws.{get-slice_range, get-write_at_above, get-write_at_below, get-write_at_inside, length-slice_range, length-write_at, take-written}
use Rattle.bitvec_in_place.specs.Fronts.{front_bits}
use Rattle.bitvec_in_place.specs.Inserted.{inserted, removed}
use Rattle.bitvec_in_place.specs.Ranges.{bits_in, filled, number_in}
use Rattle.bitvec_segments.specs.Segments.{loaded}

-- ---- of any list

-- A write from place `s` on leaves the first `n` values, where `n` is at most `s`.
pub take-written_behind : {X : Type 0} (list : List X) (s n : ℕ) (new : List X) → n ≤ s → s + length new ≤ length list → take n (write_at list s new) ≡ take n list
take-written_behind list s n new order room =
    let kept = length-write_at list s new room in
    let old = length-take-le n list (omega arith) in
    let now = length-take-le n (write_at list s new) (omega arith) in
    same_lists _ _ (omega arith) (λ k d inside.
    get_or-take n (write_at list s new) k d (omega arith) ∙ get-write_at_below list s new k d (omega arith) (omega arith) ∙ sym (get_or-take n list k d (omega arith)))

-- A write that ends among the first `n` values of a list is the same write of these.
pub take-written_inside : {X : Type 0} (list : List X) (s n : ℕ) (new : List X) → s + length new ≤ n → n ≤ length list → take n (write_at list s new) ≡ write_at (take n list) s new
take-written_inside list s n new room inside =
    let kept = length-write_at list s new (omega arith) in
    let old = length-take-le n list (omega arith) in
    let now = length-take-le n (write_at list s new) (omega arith) in
    let same = length-write_at (take n list) s new (omega arith) in
    same_lists _ _ (omega arith) (λ k d below. grind (arith, get_or-take, get-write_at_below, get-write_at_inside, get-write_at_above))

-- one value set is a value beside a range, or one in it
module _ {X : Type 0} (list : List X) (i : ℕ) (x : X) (a e : ℕ) (inside : e ≤ length list) where
  range-set_other : ((k : ℕ) → a ≤ k → k < e → k ≡ i → ⊥) → slice_range (slice_set list i x) a e ≡ slice_range list a e
  range-set_other other =
      let kept = length-set list i x in
      let old = length-slice_range list a e inside in
      let now = length-slice_range (slice_set list i x) a e (omega arith) in
      same_lists _ _ (omega arith) (λ k d below.
      let short : a + k < e = omega arith in
      get-slice_range (slice_set list i x) a e k d short
      ∙ get_or-set_other list i (a + k) x d (other (a + k) (omega arith) short)
      ∙ sym (get-slice_range list a e k d short))

  -- A value set at `i` leaves a range that ends at `i` or before.
  pub range-set_before : e ≤ i → slice_range (slice_set list i x) a e ≡ slice_range list a e
  range-set_before before = range-set_other (λ k low high same. omega arith)

  -- A value set at `i` leaves a range that begins behind `i`.
  pub range-set_after : i < a → slice_range (slice_set list i x) a e ≡ slice_range list a e
  range-set_after after = range-set_other (λ k low high same. omega arith)

  -- A value set at a place of a range is set in the range's list, at its index there.
  pub range-set_inside : a ≤ i → i < e → slice_range (slice_set list i x) a e ≡ slice_set (slice_range list a e) (i - a) x
  range-set_inside low high =
      let kept = length-set list i x in
      let old = length-slice_range list a e inside in
      let now = length-slice_range (slice_set list i x) a e (omega arith) in
      let same = length-set (slice_range list a e) (i - a) x in
      same_lists _ _ (omega arith) (λ k d below.
      let short : a + k < e = omega arith in
      get-slice_range (slice_set list i x) a e k d short
      ∙ ⊎_elim
      (λ (here : k ≡ i - a). grind (arith, get_or-set_at))
      (λ (other : k ≢ i - a). get_or-set_other list i (a + k) x d (λ (it : a + k ≡ i). other (omega arith)) ∙ sym (get_or-set_other (slice_range list a e) (i - a) k x d other ∙ get-slice_range list a e k d short))
      (cases_eq k (i - a)))

-- ---- of the first bits

-- `front_bits list n` has `n` bits, where the list has as many.
pub length-front : (list : List Bool) (n : ℕ) → n ≤ length list → length (front_bits list n) ≡ n
unfolding front_bits
length-front list n inside = length-take-le n list inside

-- Bit `k` of the first `n` bits is the list's bit `k`, where `k` is below `n`.
pub get-front : (list : List Bool) (n k : ℕ) (d : Bool) → k < n → slice_index_or (front_bits list n) k d ≡ slice_index_or list k d
unfolding front_bits
get-front list n k d below = get_or-take n list k d below

-- The first 0 bits of a list are the empty list.
pub front-none : (list : List Bool) → front_bits list 0 ≡ []
unfolding front_bits
front-none list = refl

-- The first `n` bits of a list are all of it, where it has `n` bits or fewer.
pub front-all : (list : List Bool) (n : ℕ) → length list ≤ n → front_bits list n ≡ list
unfolding front_bits
front-all list n all = take_all n list all

-- The first `n` of the first `m` bits are the first `n` of the list, where `n` is at most `m`.
pub front-shorter : (list : List Bool) (n m : ℕ) → n ≤ m → take n (front_bits list m) ≡ front_bits list n
unfolding front_bits
front-shorter list n m order = take-take n m list order

-- The first `n` of the first `m` bits are all `m`, where `m` is at most `n`.
pub front-longer : (list : List Bool) (n m : ℕ) → m ≤ n → m ≤ length list → take n (front_bits list m) ≡ front_bits list m
unfolding front_bits
front-longer list n m order inside =
    let long = length-take-le m list inside in
    take_all n (take m list) (omega arith)

-- The first `n` bits and the bit at `n`, joined, are the first `n + 1` bits.
pub front-last : (list : List Bool) (n : ℕ) (d : Bool) → n < length list → front_bits list n ++ slice_index_or list n d ∷ [] ≡ front_bits list (n + 1)
unfolding front_bits
front-last list n d inside = sym (take_more list n d inside)

-- The range `0..n` of a list is its first `n` bits.
pub front-range : (list : List Bool) (n : ℕ) → slice_range list 0 n ≡ front_bits list n
unfolding front_bits
front-range list n = between_from_start list n

-- ranges of them, and the numbers of these, so that one equation of fronts tells any number of fields
range-in_front : (list : List Bool) (n a e : ℕ) → a ≤ e → e ≤ n → slice_range (take n list) a e ≡ slice_range list a e
range-in_front list n a e order below =
    let there : n ≡ a + (n - a) = omega arith in
    ap (λ (m : ℕ). take (e - a) (drop a (take m list))) there
    ∙ ap (take (e - a)) (drop-take a (n - a) list)
    ∙ take-take (e - a) (n - a) (drop a list) (omega arith)

-- A range among the first `n` bits has the same bits in these as in the list.
pub front-bits : (list : List Bool) (n a e : ℕ) → a ≤ e → e ≤ n → bits_in (front_bits list n) a e ≡ bits_in list a e
unfolding front_bits bits_in
front-bits list n a e order below = range-in_front list n a e order below

-- A range among the first `n` bits has the same number in these as in the list.
pub front-number : (big high : Bool) (b : ℕ) (list : List Bool) (n a e : ℕ) → a ≤ e → e ≤ n → number_in big high b (front_bits list n) a e ≡ number_in big high b list a e
unfolding front_bits number_in
front-number big high b list n a e order below = ap (loaded big high b a) (range-in_front list n a e order below)

-- ---- after an edit

module _ (list : List Bool) (n : ℕ) where
  -- A bit set at a place below `n` is set at this place of the first `n` bits.
  pub front-set_inside : (i : ℕ) (bit : Bool) → i < n → front_bits (slice_set list i bit) n ≡ slice_set (front_bits list n) i bit
  unfolding front_bits
  front-set_inside i bit below = take-set-lt n list i bit below

  -- A bit set behind the first `n` bits leaves these.
  pub front-set_behind : (i : ℕ) (bit : Bool) → n ≤ i → front_bits (slice_set list i bit) n ≡ front_bits list n
  unfolding front_bits
  front-set_behind i bit order = take-set-le n list i bit order

  -- After a bit was set at `i`, the first `i + 1` bits are the first `i` as before and this bit.
  pub front-set_next : (i : ℕ) (bit : Bool) → n ≡ i + 1 → i < length list → front_bits (slice_set list i bit) n ≡ front_bits list i ++ bit ∷ []
  unfolding front_bits
  front-set_next i bit is inside = take-set_at list i n bit is inside

  -- After a write from `s` on, the first bits up to its end are the first `s` as before and what was written.
  pub front-written : (s : ℕ) (new : List Bool) → n ≡ s + length new → s ≤ length list → front_bits (write_at list s new) n ≡ front_bits list s ++ new
  unfolding front_bits
  front-written s new is inside = take-written list s n new inside is

  -- A write that ends among the first `n` bits is the same write of these.
  pub front-written_inside : (s : ℕ) (new : List Bool) → s + length new ≤ n → n ≤ length list → front_bits (write_at list s new) n ≡ write_at (front_bits list n) s new
  unfolding front_bits
  front-written_inside s new room inside = take-written_inside list s n new room inside

  -- After a fill of `s..n`, the first `n` bits are the first `s` as before and `n - s` times the bit.
  pub front-filled : (s : ℕ) (bit : Bool) → s ≤ n → n ≤ length list → front_bits (filled list s n bit) n ≡ front_bits list s ++ replicate (n - s) bit
  unfolding filled
  front-filled s bit order inside =
      let long = length-replicate (n - s) bit in
      front-written s (replicate (n - s) bit) (omega arith) (omega arith)

  -- A write that begins behind the first `n` bits leaves these.
  pub front-written_behind : (s : ℕ) (new : List Bool) → n ≤ s → s + length new ≤ length list → front_bits (write_at list s new) n ≡ front_bits list n
  unfolding front_bits
  front-written_behind s new order room = take-written_behind list s n new order room

-- ---- of a memory

-- A range is its part before `m` and its part from `m` on, joined.
pub ranges-joined : {X : Type 0} (list : List X) (a m e : ℕ) → a ≤ m → m ≤ e → slice_range list a e ≡ slice_range list a m ++ slice_range list m e
ranges-joined list a m e low high =
    let long : e - a ≡ (m - a) + (e - m) = omega arith in
    let there : a + (m - a) ≡ m = omega arith in
    ap (λ (k : ℕ). take k (drop a list)) long
    ∙ take-add (m - a) (e - m) (drop a list)
    ∙ ap (λ (l : List _). take (m - a) (drop a list) ++ take (e - m) l) (drop-drop (m - a) a list ∙ ap (λ (k : ℕ). drop k list) there)

-- Elements added at the end leave the first `n` bits, where the elements before have `n` bits or more.
pub front-grown : (b : ℕ) (at : ℕ → ℕ → ℕ) (xs ys : List ℕ) (n : ℕ) → 0 < b → n ≤ b * length xs → front_bits (memory_bits b at (xs ++ ys)) n ≡ front_bits (memory_bits b at xs) n
unfolding front_bits
front-grown b at xs ys n some inside =
    let long = length-memory_bits b at xs in
    ap (take n) (memory-append b at xs ys some) ∙ take-append-le n (memory_bits b at xs) (memory_bits b at ys) (omega arith)

-- ---- with a bit more, and a bit fewer

module _ (list : List Bool) (len index : ℕ) where
  -- An insertion among the first `len` bits leaves the length of the list, which has room for it.
  pub length-inserted : (bit : Bool) → index ≤ len → len < length list → length (inserted list len index bit) ≡ length list
  unfolding inserted
  length-inserted bit order room =
      let front = length-take-le len list (omega arith) in
      let long = length-insert (take len list) index bit (omega arith) in
      length-write_at list 0 (insert (take len list) index bit) (omega arith)

  -- After `inserted`, the first `len + 1` bits are std's `insert` on the first `len` bits as before.
  pub front-inserted : (bit : Bool) (n : ℕ) → n ≡ len + 1 → index ≤ len → len < length list → front_bits (inserted list len index bit) n ≡ insert (front_bits list len) index bit
  unfolding front_bits inserted
  front-inserted bit n is order room =
      let front = length-take-le len list (omega arith) in
      let long = length-insert (take len list) index bit (omega arith) in
      take-written list 0 n (insert (take len list) index bit) (omega arith) (omega arith)

  -- An insertion among the first `len` bits leaves each bit behind place `len`.
  pub get-inserted_behind : (bit : Bool) (k : ℕ) (d : Bool) → index ≤ len → len < length list → len < k → slice_index_or (inserted list len index bit) k d ≡ slice_index_or list k d
  unfolding inserted
  get-inserted_behind bit k d order room behind =
      let front = length-take-le len list (omega arith) in
      let long = length-insert (take len list) index bit (omega arith) in
      get-write_at_above list 0 (insert (take len list) index bit) k d (omega arith) (omega arith)

  -- A removal among the first `len` bits leaves the length of the list.
  pub length-removed : index < len → len ≤ length list → length (removed list len index) ≡ length list
  unfolding removed
  length-removed below inside =
      let front = length-take-le len list inside in
      let long = length-remove (take len list) index (omega arith) in
      length-write_at list 0 (remove (take len list) index) (omega arith)

  -- After `removed`, the first `len - 1` bits are std's `remove` on the first `len` bits as before.
  pub front-removed : (n : ℕ) → n + 1 ≡ len → index < len → len ≤ length list → front_bits (removed list len index) n ≡ remove (front_bits list len) index
  unfolding front_bits removed
  front-removed n is below inside =
      let front = length-take-le len list inside in
      let long = length-remove (take len list) index (omega arith) in
      take-written list 0 n (remove (take len list) index) (omega arith) (omega arith)

  -- A removal among the first `len` bits leaves each bit from place `len - 1` on.
  pub get-removed_behind : (k : ℕ) (d : Bool) → index < len → len ≤ length list → len ≤ k + 1 → slice_index_or (removed list len index) k d ≡ slice_index_or list k d
  unfolding removed
  get-removed_behind k d below inside behind =
      let front = length-take-le len list inside in
      let long = length-remove (take len list) index (omega arith) in
      get-write_at_above list 0 (remove (take len list) index) k d (omega arith) (omega arith)

-- how they are made: the others are moved by one place

inserted-each : (list : List Bool) (len index : ℕ) (bit : Bool) → index ≤ len → len < length list → (k : ℕ) (d : Bool) → k < length list
    → slice_index_or (slice_set (copied_within index len (index + 1) list) index bit) k d ≡ slice_index_or (inserted list len index bit) k d
unfolding copied_within inserted write_at
inserted-each list len index bit order room k d below =
    ⊎_elim
    (λ (here : k ≡ index). grind (arith, places, get_or-set_at))
    (λ (other : k ≢ index). get_or-set_other (copied_within index len (index + 1) list) index k bit d other ∙ grind (arith, places))
    (cases_eq k index)

-- A copy of `index..len` to one place on, and then `bit` set at `index`, is `inserted`.
pub inserted-is : (list : List Bool) (len index : ℕ) (bit : Bool) → index ≤ len → len < length list → slice_set (copied_within index len (index + 1) list) index bit ≡ inserted list len index bit
unfolding copied_within inserted
inserted-is list len index bit order room =
    let front = length-take-le len list (omega arith) in
    let long = length-insert (take len list) index bit (omega arith) in
    let all = length-write_at list 0 (insert (take len list) index bit) (omega arith) in
    let range = length-slice_range list index len (omega arith) in
    let moved = length-write_at list (index + 1) (slice_range list index len) (omega arith) in
    let set = length-set (write_at list (index + 1) (slice_range list index len)) index bit in
    same_lists _ _ (omega arith) (λ k d below. inserted-each list len index bit order room k d (omega arith))

-- A copy of the bits behind `index`, up to `len`, to one place back is `removed`.
pub removed-is : (list : List Bool) (len index : ℕ) → index < len → len ≤ length list → copied_within (index + 1) len index list ≡ removed list len index
unfolding copied_within removed write_at
removed-is list len index below inside = same_lists _ _ (search (rules, places)) (λ k d h. grind (arith, places))
