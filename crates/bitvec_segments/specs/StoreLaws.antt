-- The lists that stores leave, a segment at a time; what a store leaves loads, and what loads is stored.
use Rattle.std.specs.Prelude.{◌≡◌, ℕ, ◌+◌, ◌-◌, ◌*◌, ◌/◌, ◌%◌, ◌^◌, ◌<◌, ◌≤◌, Bool, true, false, List, [], ◌∷◌, ◌++◌, length, take, drop, refl, zero, suc}
use Rattle.std.specs.List.{sum_by}
use Rattle.std.proofs.Common.{arith, sym, ◌∙◌, ap, length-append, length-drop}
use Rattle.std.proofs.lemmas.List.{length-take, take-append-drop}
use Rattle.std.proofs.lemmas.List.Sums.{sum_by-cons}
use Rattle.std.proofs.lemmas.Nat.{div-mul-add, mod-pow-add, pow-add, pow_pos}
use Rattle.std.proofs.Math.Nat.{mul-add-div_right, mul-add-mod_self_right}
use Rattle.std.proofs.Math.Seq.{take-append_seam, drop-append_seam}
use Rattle.bitvec_base.specs.MemoryLaws.{length-element_bits}
use Rattle.bitvec_segments.specs.LoadLaws.{loaded-below, loaded-first, loaded-none, lower_bits, segments-total}
use Rattle.bitvec_segments.specs.NumberLaws.{segment-number, segment-told, segment_bits-mod, segment_number-below}
use Rattle.bitvec_segments.specs.Segments.{bit_number, end_bits, loaded, loaded_be, loaded_le, segment_bits, segment_number, segments, stored, stored_be, stored_le}
use Rattle.bitvec_segments.specs.SegmentsLaws.{first-some, first_len, segments-first}

unmoved : (v : ℕ) → v / 2 ^ 0 ≡ v
unmoved v = omega arith

-- ---- a store's list is as long as the one before

-- The segment of `k` bits of a number has `k` bits.
pub length-segment_bits : (high : Bool) (k v : ℕ) → length (segment_bits high k v) ≡ k
length-segment_bits high k v = length-element_bits k (bit_number high) v

end_bits-first : (big high : Bool) (v : ℕ) (segment : List Bool) (rest : List (List Bool))
    → end_bits big high v (segment ∷ rest) ≡ segment_bits high (length segment) (v / 2 ^ lower_bits big 0 (sum_by length rest)) ++ end_bits big high (v / 2 ^ lower_bits big (length segment) 0) rest
unfolding end_bits
end_bits-first true high v segment rest = ap (λ (w : ℕ). segment_bits high (length segment) (v / 2 ^ sum_by length rest) ++ end_bits true high w rest) (sym (unmoved v))
end_bits-first false high v segment rest = ap (λ (w : ℕ). segment_bits high (length segment) w ++ end_bits false high (v / 2 ^ length segment) rest) (sym (unmoved v))

length-end_bits : (big high : Bool) (v : ℕ) (list : List (List Bool)) → length (end_bits big high v list) ≡ sum_by length list
unfolding end_bits
length-end_bits big high v [] = refl
length-end_bits big high v (segment ∷ rest) =
    let w : ℕ = v / 2 ^ lower_bits big 0 (sum_by length rest) in
    let u : ℕ = v / 2 ^ lower_bits big (length segment) 0 in
    let first = length-segment_bits high (length segment) w in
    let others = length-end_bits big high u rest in
    let both = length-append (segment_bits high (length segment) w) (end_bits big high u rest) in
    let total = sum_by-cons length segment rest in
    ap (λ (l : List Bool). length l) (end_bits-first big high v segment rest) ∙ omega arith

-- A store leaves as many bits as before.
pub length-stored : (big high : Bool) (b s v : ℕ) (list : List Bool) → length (stored big high b s v list) ≡ length list
unfolding stored
length-stored big high b s v list = length-end_bits big high v (segments b s list) ∙ segments-total b s list

-- ---- the first segment and the rest

-- A store in no bits leaves no bits.
pub stored-none : (big high : Bool) (b s v : ℕ) → stored big high b s v [] ≡ []
unfolding stored end_bits segments
stored-none big high b s v = refl

-- A store leaves in the first element the number's bits for it, and behind them what a store of the rest leaves.
pub stored-first : (big high : Bool) (b s v : ℕ) (list : List Bool) (k : ℕ) → 0 < b → 0 < length list → k ≡ first_len b s (length list)
    → stored big high b s v list ≡ segment_bits high k (v / 2 ^ lower_bits big 0 (length list - k)) ++ stored big high b (s + k) (v / 2 ^ lower_bits big k 0) (drop k list)
unfolding stored
stored-first big high b s v list k some more is =
    let rest : List (List Bool) = segments b (s + k) (drop k list) in
    let long : length (take k list) ≡ k = length-take k list ∙ omega arith in
    let left : sum_by length rest ≡ length list - k = segments-total b (s + k) (drop k list) ∙ length-drop k list in
    ap (end_bits big high v) (segments-first b s list k some more is)
    ∙ end_bits-first big high v (take k list) rest
    ∙ ap (λ (n : ℕ). segment_bits high n (v / 2 ^ lower_bits big 0 (sum_by length rest)) ++ end_bits big high (v / 2 ^ lower_bits big n 0) rest) long
    ∙ ap (λ (n : ℕ). segment_bits high k (v / 2 ^ lower_bits big 0 n) ++ end_bits big high (v / 2 ^ lower_bits big k 0) rest) left

-- ---- of a number with more bits than there are the others don't matter

segment_bits-more : (high : Bool) (k x v : ℕ) → segment_bits high k (x * 2 ^ k + v) ≡ segment_bits high k v
segment_bits-more high k x v =
    sym (segment_bits-mod high k (x * 2 ^ k + v)) ∙ ap (segment_bits high k) (mul-add-mod_self_right x (2 ^ k) v) ∙ segment_bits-mod high k v

end_bits-more : (high : Bool) (x v : ℕ) (list : List (List Bool)) → end_bits true high (x * 2 ^ sum_by length list + v) list ≡ end_bits true high v list
unfolding end_bits
end_bits-more high x v [] = refl
end_bits-more high x v (segment ∷ rest) =
    let k : ℕ = length segment in
    let m : ℕ = sum_by length rest in
    let total = sum_by-cons length segment rest in
    let power = pow-add 2 k m in
    let split : x * 2 ^ sum_by length (segment ∷ rest) + v ≡ (x * 2 ^ k) * 2 ^ m + v = rw (total, power) (omega arith) in
    ap (λ (n : ℕ). end_bits true high n (segment ∷ rest)) split
    ∙ ap (λ (l : List Bool). l ++ end_bits true high ((x * 2 ^ k) * 2 ^ m + v) rest)
    (ap (segment_bits high k) (mul-add-div_right (pow_pos m) (x * 2 ^ k) v) ∙ segment_bits-more high k x (v / 2 ^ m))
    ∙ ap (λ (l : List Bool). segment_bits high k (v / 2 ^ m) ++ l) (end_bits-more high (x * 2 ^ k) v rest)

stored-more : (high : Bool) (b s x v m : ℕ) (list : List Bool) → length list ≡ m → stored true high b s (x * 2 ^ m + v) list ≡ stored true high b s v list
unfolding stored
stored-more high b s x v m list long =
    let total = segments-total b s list ∙ long in
    rw (← total) (end_bits-more high x v (segments b s list))

-- ---- a number of k bits and one of m, the first of them at one end

-- the number and what remains of it
split_mod : (big : Bool) (v k m : ℕ) → (v / 2 ^ lower_bits big 0 m % 2 ^ k) * 2 ^ lower_bits big 0 m + (v / 2 ^ lower_bits big k 0 % 2 ^ m) * 2 ^ lower_bits big k 0 ≡ v % 2 ^ (k + m)
split_mod true v k m = let whole = mod-pow-add v k m in let same = ap (λ (n : ℕ). n % 2 ^ m) (unmoved v) in omega arith
split_mod false v k m =
    let whole = mod-pow-add v m k in
    let same = ap (λ (n : ℕ). n % 2 ^ k) (unmoved v) in
    let order = ap (λ (n : ℕ). v % 2 ^ n) (let e : k + m ≡ m + k = omega arith in e) in
    omega arith

-- the bits of the first
first_bits : (big high : Bool) (n r k m : ℕ) → r < 2 ^ m → segment_bits high k ((n * 2 ^ lower_bits big 0 m + r * 2 ^ lower_bits big k 0) / 2 ^ lower_bits big 0 m) ≡ segment_bits high k n
first_bits true high n r k m below = ap (segment_bits high k) (ap (λ (v : ℕ). v / 2 ^ m) (let e : n * 2 ^ m + r * 2 ^ 0 ≡ n * 2 ^ m + r = omega arith in e) ∙ div-mul-add n (2 ^ m) r below)
first_bits false high n r k m below = ap (segment_bits high k) (let e : (n * 2 ^ 0 + r * 2 ^ k) / 2 ^ 0 ≡ r * 2 ^ k + n = unmoved _ ∙ omega arith in e) ∙ segment_bits-more high k r n

-- a store of the second
rest_stored : (big high : Bool) (b s n r k m : ℕ) (list : List Bool) → n < 2 ^ k → length list ≡ m → stored big high b s ((n * 2 ^ lower_bits big 0 m + r * 2 ^ lower_bits big k 0) / 2 ^ lower_bits big k 0) list ≡ stored big high b s r list
rest_stored true high b s n r k m list below long =
    ap (λ (v : ℕ). stored true high b s v list) (let e : (n * 2 ^ m + r * 2 ^ 0) / 2 ^ 0 ≡ n * 2 ^ m + r = unmoved _ ∙ omega arith in e) ∙ stored-more high b s n r m list long
rest_stored false high b s n r k m list below long =
    ap (λ (v : ℕ). stored false high b s v list) (ap (λ (v : ℕ). v / 2 ^ k) (let e : n * 2 ^ 0 + r * 2 ^ k ≡ r * 2 ^ k + n = omega arith in e) ∙ div-mul-add r (2 ^ k) n below)

-- ---- what a store leaves is the number, as far as it fits

-- The first `k` bits of two joined lists, where the first list has `k` bits, are the first list.
pub front-taken : {first : List Bool} (rest : List Bool) {k : ℕ} → length first ≡ k → take k (first ++ rest) ≡ first
front-taken {first} rest long = rw (← long) (take-append_seam first rest)

-- Two joined lists without their first `k` bits, where the first list has `k` bits, are the second list.
pub front-dropped : (first : List Bool) {rest : List Bool} {k : ℕ} → length first ≡ k → drop k (first ++ rest) ≡ rest
front-dropped first {rest} long = rw (← long) (drop-append_seam first rest)

-- if the rest does, so does the whole
module _ (big high : Bool) (b s v : ℕ) (list : List Bool) (k : ℕ) (some : 0 < b) (more : 0 < length list) (is : k ≡ first_len b s (length list)) where
  loads-next : loaded big high b (s + k) (stored big high b (s + k) (v / 2 ^ lower_bits big k 0) (drop k list)) ≡ v / 2 ^ lower_bits big k 0 % 2 ^ length (drop k list) → loaded big high b s (stored big high b s v list) ≡ v % 2 ^ length list
  loads-next rest =
      let new : List Bool = stored big high b s v list in
      let long : length new ≡ length list = length-stored big high b s v list in
      let left : length (drop k list) ≡ length list - k = length-drop k list in
      let w : ℕ = v / 2 ^ lower_bits big 0 (length list - k) in
      let cut = stored-first big high b s v list k some more is in
      let taken = ap (take k) cut ∙ front-taken _ (length-segment_bits high k w) in
      let dropped = ap (drop k) cut ∙ front-dropped _ (length-segment_bits high k w) in
      let all : k + (length list - k) ≡ length list = omega arith in
      loaded-first big high b s new k some (rw long more) (rw long is)
      ∙ rw (taken, dropped, rest, segment-number high k w, long, left) (split_mod big v k (length list - k) ∙ ap (λ (n : ℕ). v % 2 ^ n) all)

-- likewise the other way round
module _ (big high : Bool) (b s : ℕ) (list : List Bool) (k : ℕ) (some : 0 < b) (more : 0 < length list) (is : k ≡ first_len b s (length list)) where
  stores-next : stored big high b (s + k) (loaded big high b (s + k) (drop k list)) (drop k list) ≡ drop k list → stored big high b s (loaded big high b s list) list ≡ list
  stores-next rest =
      let r : ℕ = loaded big high b (s + k) (drop k list) in
      let n : ℕ = segment_number high (take k list) in
      let m : ℕ = length list - k in
      let left : length (drop k list) ≡ m = length-drop k list in
      let long : length (take k list) ≡ k = length-take k list ∙ omega arith in
      let below = rw long at (segment_number-below high (take k list)) in
      let low = rw left at (loaded-below big high b (s + k) (drop k list)) in
      let told = rw long at (segment-told high (take k list)) in
      rw (loaded-first big high b s list k some more is)
      (stored-first big high b s (n * 2 ^ lower_bits big 0 m + r * 2 ^ lower_bits big k 0) list k some more is
      ∙ rw (first_bits big high n r k m low, told, rest_stored big high b (s + k) n r k m (drop k list) below left, rest) (take-append-drop k list))

none_mod : (v : ℕ) → 0 ≡ v % 2 ^ 0
none_mod v = omega arith

-- by the number of bits, at most n
loads-most : (n : ℕ) (big high : Bool) (b s v : ℕ) (list : List Bool) → 0 < b → length list ≤ n → loaded big high b s (stored big high b s v list) ≡ v % 2 ^ length list
loads-most n big high b s v [] some most = rw (stored-none big high b s v) (loaded-none big high b s ∙ none_mod v)
loads-most zero big high b s v (bit ∷ list) some most = absurd (omega arith)
loads-most (suc n) big high b s v (bit ∷ list) some most =
    let k : ℕ = first_len b s (length (bit ∷ list)) in
    let taken = first-some b s (length (bit ∷ list)) some (omega arith) in
    let left = length-drop k (bit ∷ list) in
    loads-next big high b s v (bit ∷ list) k some (omega arith) refl (loads-most n big high b (s + k) (v / 2 ^ lower_bits big k 0) (drop k (bit ∷ list)) some (omega arith))

stores-most : (n : ℕ) (big high : Bool) (b s : ℕ) (list : List Bool) → 0 < b → length list ≤ n → stored big high b s (loaded big high b s list) list ≡ list
stores-most n big high b s [] some most = stored-none big high b s (loaded big high b s [])
stores-most zero big high b s (bit ∷ list) some most = absurd (omega arith)
stores-most (suc n) big high b s (bit ∷ list) some most =
    let k : ℕ = first_len b s (length (bit ∷ list)) in
    let taken = first-some b s (length (bit ∷ list)) some (omega arith) in
    let left = length-drop k (bit ∷ list) in
    stores-next big high b s (bit ∷ list) k some (omega arith) refl (stores-most n big high b (s + k) (drop k (bit ∷ list)) some (omega arith))

-- ---- so a number below 2 ^ n is that of exactly one list of n bits

-- A load of what a store of `v` left gives `v` modulo `2^n`, where `n` is the number of bits.
pub stored-loads : (big high : Bool) (b s v : ℕ) (list : List Bool) → 0 < b → loaded big high b s (stored big high b s v list) ≡ v % 2 ^ length list
stored-loads big high b s v list some = loads-most (length list) big high b s v list some (omega arith)

-- A store of the number that a load of a list gives leaves the list.
pub loaded-stores : (big high : Bool) (b s : ℕ) (list : List Bool) → 0 < b → stored big high b s (loaded big high b s list) list ≡ list
loaded-stores big high b s list some = stores-most (length list) big high b s list some (omega arith)

-- ---- of the list that was there a store keeps the length alone

same-most : (n : ℕ) (big high : Bool) (b s v : ℕ) (x y : List Bool) → 0 < b → length x ≡ length y → length x ≤ n → stored big high b s v x ≡ stored big high b s v y
same-most n big high b s v [] [] some long most = refl
same-most n big high b s v [] (bit ∷ y) some long most = absurd (omega arith)
same-most n big high b s v (bit ∷ x) [] some long most = absurd (omega arith)
same-most zero big high b s v (bit ∷ x) (other ∷ y) some long most = absurd (omega arith)
same-most (suc n) big high b s v (bit ∷ x) (other ∷ y) some long most =
    let k : ℕ = first_len b s (length (bit ∷ x)) in
    let w : ℕ = v / 2 ^ lower_bits big k 0 in
    let taken = first-some b s (length (bit ∷ x)) some (omega arith) in
    let left = length-drop k (bit ∷ x) in
    let also = length-drop k (other ∷ y) in
    stored-first big high b s v (bit ∷ x) k some (omega arith) refl
    ∙ ap (λ (m : ℕ). segment_bits high k (v / 2 ^ lower_bits big 0 (m - k)) ++ stored big high b (s + k) w (drop k (bit ∷ x))) long
    ∙ ap (λ (l : List Bool). segment_bits high k (v / 2 ^ lower_bits big 0 (length (other ∷ y) - k)) ++ l) (same-most n big high b (s + k) w (drop k (bit ∷ x)) (drop k (other ∷ y)) some (omega arith) (omega arith))
    ∙ sym (stored-first big high b s v (other ∷ y) k some (omega arith) (ap (first_len b s) long))

-- Lists of one length from which the same number is loaded are equal.
pub loaded-determines : (big high : Bool) (b s : ℕ) (x y : List Bool) → 0 < b → length x ≡ length y → loaded big high b s x ≡ loaded big high b s y → x ≡ y
loaded-determines big high b s x y some long same =
    sym (loaded-stores big high b s x some)
    ∙ ap (λ (v : ℕ). stored big high b s v x) same
    ∙ same-most (length x) big high b s (loaded big high b s y) x y some long (omega arith)
    ∙ loaded-stores big high b s y some

-- ---- from either end

-- A little-endian store leaves as many bits as before.
pub length-stored_le : (high : Bool) (b s v : ℕ) (list : List Bool) → length (stored_le high b s v list) ≡ length list
length-stored_le = length-stored false

-- A big-endian store leaves as many bits as before.
pub length-stored_be : (high : Bool) (b s v : ℕ) (list : List Bool) → length (stored_be high b s v list) ≡ length list
length-stored_be = length-stored true

-- A little-endian load of what such a store of `v` left gives `v` modulo `2^n`, where `n` is the number of bits.
pub stored_le-loads : (high : Bool) (b s v : ℕ) (list : List Bool) → 0 < b → loaded_le high b s (stored_le high b s v list) ≡ v % 2 ^ length list
stored_le-loads = stored-loads false

-- A big-endian load of what such a store of `v` left gives `v` modulo `2^n`, where `n` is the number of bits.
pub stored_be-loads : (high : Bool) (b s v : ℕ) (list : List Bool) → 0 < b → loaded_be high b s (stored_be high b s v list) ≡ v % 2 ^ length list
stored_be-loads = stored-loads true

-- A little-endian store of the number that such a load of a list gives leaves the list.
pub loaded_le-stores : (high : Bool) (b s : ℕ) (list : List Bool) → 0 < b → stored_le high b s (loaded_le high b s list) list ≡ list
loaded_le-stores = loaded-stores false

-- A big-endian store of the number that such a load of a list gives leaves the list.
pub loaded_be-stores : (high : Bool) (b s : ℕ) (list : List Bool) → 0 < b → stored_be high b s (loaded_be high b s list) list ≡ list
loaded_be-stores = loaded-stores true

-- Lists of one length from which a little-endian load gives the same number are equal.
pub loaded_le-determines : (high : Bool) (b s : ℕ) (x y : List Bool) → 0 < b → length x ≡ length y → loaded_le high b s x ≡ loaded_le high b s y → x ≡ y
loaded_le-determines = loaded-determines false

-- Lists of one length from which a big-endian load gives the same number are equal.
pub loaded_be-determines : (high : Bool) (b s : ℕ) (x y : List Bool) → 0 < b → length x ≡ length y → loaded_be high b s x ≡ loaded_be high b s y → x ≡ y
loaded_be-determines = loaded-determines true
