-- Laws of slices of a list and of writes into it.
use Rattle.std.specs.Prelude.{◌≡◌, ℕ, ◌+◌, ◌-◌, ◌<◌, ◌≤◌, List, [], ◌∷◌, ◌++◌, length, take, drop, slice_range, slice_set, slice_index_or}
use Rattle.std.proofs.Common.{arith, rules, sym, ◌∙◌, ap, append_assoc, length-append, length-take, length-drop, get_or-take, get_or-drop, add-one}
use Rattle.std.proofs.Math.Seq.{drop-append-add, drop-append_seam}
use Rattle.std.proofs.lemmas.List.{length-take-le, same_lists, places, set_split, take_at}
use Rattle.bitvec_base.specs.Window.{write_at}

-- The range `a..e` of a list has `e - a` values.
pub length-slice_range : {X : Type 0} (list : List X) (a e : ℕ) → e ≤ length list → length (slice_range list a e) ≡ e - a
length-slice_range list a e h = omega (arith, length-take (e - a) (drop a list), length-drop a list)

-- Value `k` of the range `a..e` of a list is the list's value `a + k`.
pub get-slice_range : {X : Type 0} (list : List X) (a e k : ℕ) (d : X) → a + k < e → slice_index_or (slice_range list a e) k d ≡ slice_index_or list (a + k) d
get-slice_range list a e k d h =
    let short : k < e - a = omega arith in
    get_or-take (e - a) (drop a list) k d short ∙ get_or-drop a list k d

-- A list that was written into, where there is room, is as long as before.
pub length-write_at : {X : Type 0} (list : List X) (s : ℕ) (new : List X) → s + length new ≤ length list → length (write_at list s new) ≡ length list
unfolding write_at
length-write_at list s new h = search (rules, places)

-- A value before the place of a write is as before.
pub get-write_at_below : {X : Type 0} (list : List X) (s : ℕ) (new : List X) (k : ℕ) (d : X) → s ≤ length list → k < s → slice_index_or (write_at list s new) k d ≡ slice_index_or list k d
unfolding write_at
get-write_at_below list s new k d h below = grind (arith, places)

-- A value at a place of a write is the written value there.
pub get-write_at_inside : {X : Type 0} (list : List X) (s : ℕ) (new : List X) (k : ℕ) (d : X) → s ≤ length list → s ≤ k → k < s + length new → slice_index_or (write_at list s new) k d ≡ slice_index_or new (k - s) d
unfolding write_at
get-write_at_inside list s new k d h low high = grind (arith, places)

-- A value behind a write is as before.
pub get-write_at_above : {X : Type 0} (list : List X) (s : ℕ) (new : List X) (k : ℕ) (d : X) → s ≤ length list → s + length new ≤ k → slice_index_or (write_at list s new) k d ≡ slice_index_or list k d
unfolding write_at
get-write_at_above list s new k d h above = grind (arith, places)

-- Setting one value is writing a list of that one value.
pub set-is_write : {X : Type 0} (list : List X) (i : ℕ) (x : X) → i < length list → slice_set list i x ≡ write_at list i (x ∷ [])
unfolding write_at
set-is_write list i x h = set_split list i x h ∙ ap (λ (n : ℕ). take i list ++ (x ∷ drop n list)) (sym (add-one i))

-- The range of a list where `new` was written is `new`.
pub range-write_at : {X : Type 0} (list : List X) (s : ℕ) (new : List X) → s + length new ≤ length list → slice_range (write_at list s new) s (s + length new) ≡ new
unfolding write_at
range-write_at list s new h = same_lists _ _ (search (rules, places)) (λ k d inside. grind (arith, places))

-- A range that ends at or before the place of a write is as before.
pub range-write_at_before : {X : Type 0} (list : List X) (s : ℕ) (new : List X) (a e : ℕ) → s + length new ≤ length list → e ≤ s → slice_range (write_at list s new) a e ≡ slice_range list a e
range-write_at_before list s new a e h before =
    let kept = length-write_at list s new h in
    let old-length = length-slice_range list a e (omega arith) in
    let new-length = length-slice_range (write_at list s new) a e (omega arith) in
    same_lists _ _ (omega arith) (λ k d inside.
    let short : a + k < e = omega arith in
    get-slice_range (write_at list s new) a e k d short ∙ get-write_at_below list s new (a + k) d (omega arith) (omega arith) ∙ sym (get-slice_range list a e k d short))

-- A range that begins at or behind the end of a write is as before.
pub range-write_at_after : {X : Type 0} (list : List X) (s : ℕ) (new : List X) (a e : ℕ) → s + length new ≤ length list → s + length new ≤ a → e ≤ length list → slice_range (write_at list s new) a e ≡ slice_range list a e
range-write_at_after list s new a e h after within =
    let kept = length-write_at list s new h in
    let old-length = length-slice_range list a e within in
    let new-length = length-slice_range (write_at list s new) a e (omega arith) in
    same_lists _ _ (omega arith) (λ k d inside.
    let short : a + k < e = omega arith in
    get-slice_range (write_at list s new) a e k d short ∙ get-write_at_above list s new (a + k) d (omega arith) (omega arith) ∙ sym (get-slice_range list a e k d short))

-- The range `c..f` of the range `a..e` of a list is the range `a + c..a + f` of the list.
pub range-range : {X : Type 0} (list : List X) (a e c f : ℕ) → a + f ≤ e → e ≤ length list → slice_range (slice_range list a e) c f ≡ slice_range list (a + c) (a + f)
range-range list a e c f h within = same_lists _ _ (search (rules, places)) (λ k d inside. grind (arith, places))

-- Writing a range of a list to the place where it stands leaves the list.
pub write_at-same : {X : Type 0} (list : List X) (s e : ℕ) → s ≤ e → e ≤ length list → write_at list s (slice_range list s e) ≡ list
unfolding write_at
write_at-same list s e le h = same_lists _ _ (search (rules, places)) (λ k d inside. grind (arith, places))

-- Writing `x`, and `y` right behind it, is writing the two joined.
pub write_at-next : {X : Type 0} (list : List X) (s : ℕ) (x y : List X) → s + length x + length y ≤ length list → write_at (write_at list s x) (s + length x) y ≡ write_at list s (x ++ y)
unfolding write_at
write_at-next list s x y h = same_lists _ _ (search (rules, places)) (λ k d inside. grind (arith, places))

-- Of two lists of one length that are written to the same place, only the second stays.
pub write_at-over : {X : Type 0} (list : List X) (s : ℕ) (x y : List X) → length x ≡ length y → s + length y ≤ length list → write_at (write_at list s x) s y ≡ write_at list s y
unfolding write_at
write_at-over list s x y same h = same_lists _ _ (search (rules, places)) (λ k d inside. grind (arith, places))

-- A write into a range that is then written back is a write into the list.
pub write_at-inside : {X : Type 0} (list : List X) (s e t : ℕ) (new : List X) → s + t + length new ≤ e → e ≤ length list → write_at list s (write_at (slice_range list s e) t new) ≡ write_at list (s + t) new
unfolding write_at
write_at-inside list s e t new h within = same_lists _ _ (search (rules, places)) (λ k d inside. grind (arith, places))

-- Writing no value leaves the list.
pub write_at-nil : {X : Type 0} (list : List X) (s : ℕ) → s ≤ length list → write_at list s [] ≡ list
unfolding write_at
write_at-nil list s h = same_lists _ _ (search (rules, places)) (λ k d inside. grind (arith, places))

-- Writing as many values as a list has, from its start on, gives these values.
pub write_at-all : {X : Type 0} (list new : List X) → length new ≡ length list → write_at list 0 new ≡ new
unfolding write_at
write_at-all list new h = same_lists _ _ (search (rules, places)) (λ k d inside. grind (arith, places))

-- Writing a list, and one value right before it, is writing the two joined.
pub write_at-before : {X : Type 0} (list : List X) (s : ℕ) (x : X) (new : List X) → s + 1 + length new ≤ length list → write_at (write_at list (s + 1) new) s (x ∷ []) ≡ write_at list s (x ∷ new)
unfolding write_at
write_at-before list s x new fits = same_lists _ _ (search (rules, places)) (λ k d inside. grind (arith, places))

-- The values before the place of a write are as before.
pub take-write_at : {X : Type 0} (list : List X) (s : ℕ) (new : List X) → s ≤ length list → take s (write_at list s new) ≡ take s list
unfolding write_at
take-write_at list s new h =
    let long : length (take s list) ≡ s = omega (arith, length-take s list) in
    take_at (take s list) (new ++ drop (s + length new) list) s long

-- The values behind a write are as before.
pub drop-write_at : {X : Type 0} (list : List X) (s : ℕ) (new : List X) → s ≤ length list → drop (s + length new) (write_at list s new) ≡ drop (s + length new) list
unfolding write_at
drop-write_at list s new h =
    let rest = drop (s + length new) list in
    let long : length (take s list) ≡ s = omega (arith, length-take s list) in
    ap (λ (n : ℕ). drop (n + length new) (take s list ++ (new ++ rest))) (sym long)
    ∙ drop-append-add (take s list) (new ++ rest) (length new) ∙ drop-append_seam new rest

-- The values up to the end of a write are those before it, and then the written ones.
pub take-written : {X : Type 0} (list : List X) (s n : ℕ) (new : List X) → s ≤ length list → n ≡ s + length new → take n (write_at list s new) ≡ take s list ++ new
unfolding write_at
take-written list s n new inside is =
    let front = length-take-le s list inside in
    let long : length (take s list ++ new) ≡ n = length-append (take s list) new ∙ omega arith in
    rw (← append_assoc (take s list) new (drop (s + length new) list)) (take_at (take s list ++ new) (drop (s + length new) list) n long)
