-- Lists that grow at their end, and lists into which a value was put or from which some were taken: how long they are, each value, and what undoes what.
use Rattle.std.specs.Prelude.{◌≡◌, ◌≢◌, ℕ, ◌+◌, ◌-◌, ◌<◌, ◌≤◌, List, ◌∷◌, ◌++◌, drop, length, slice_index_or, slice_set, take, suc}
use Rattle.std.specs.List.{insert, remove, remove_range, swap_remove}
use Rattle.std.proofs.Common.{◌∙◌, add-one, ap, arith, sym}
use Rattle.std.proofs.lemmas.List.{drop_at, drop_more, get_or-set_other, get_or-take, get_or_default, length-set, length-take-le, places, same_lists, take-append-drop, take-append-le, take_all, take_at}
use Rattle.std.proofs.lemmas.Grind.{get_or-set_at}
use Rattle.std.proofs.lemmas.List.Edits.{get_or-insert_above, get_or-insert_at, get_or-insert_below, get_or-remove_above, get_or-remove_below, length-insert, length-remove}

-- ---- values added at the end: the first ones are as before

module _ {X : Type 0} (xs more front : List X) (n : ℕ) where
  -- A list with others behind it begins with itself.
  pub begins-own : n ≡ length xs → take n (xs ++ more) ≡ xs
  begins-own is = take-append-le n xs more (omega arith) ∙ take_all n xs (omega arith)

  -- A list to which values were added begins with what it began with.
  pub begins-more : n ≤ length xs → take n xs ≡ front → take n (xs ++ more) ≡ front
  begins-more inside is = take-append-le n xs more inside ∙ is

-- ---- a value put before the one at an index, or taken from there

module _ {X : Type 0} (xs : List X) (i : ℕ) where
  -- A list is one value longer after `insert`.
  pub length-inserted_one : (x : X) → i ≤ length xs → length (insert xs i x) ≡ length xs + 1
  length-inserted_one x inside = length-insert xs i x inside

  -- A value before the place of an `insert` stays there.
  pub get-insert_before : (x : X) (k : ℕ) (d : X) → k < i → i ≤ length xs → slice_index_or (insert xs i x) k d ≡ slice_index_or xs k d
  get-insert_before x k d before inside = get_or-insert_below xs i x d k before inside

  -- The value at the place of an `insert` is the inserted one.
  pub get-insert_at : (x : X) (k : ℕ) (d : X) → k ≡ i → i ≤ length xs → slice_index_or (insert xs i x) k d ≡ x
  get-insert_at x k d is inside = ap (λ (n : ℕ). slice_index_or (insert xs i x) n d) is ∙ get_or-insert_at xs i x d inside

  -- A value behind the place of an `insert` is the one that stood one place before.
  pub get-insert_behind : (x : X) (k : ℕ) (d : X) → i < k → i ≤ length xs → slice_index_or (insert xs i x) k d ≡ slice_index_or xs (k - 1) d
  get-insert_behind x k d behind inside =
      let place : k ≡ k - 1 + 1 = omega arith in
      ap (λ (n : ℕ). slice_index_or (insert xs i x) n d) place ∙ get_or-insert_above xs i x d (k - 1) (omega arith) inside

  -- A list is one value shorter after `remove`.
  pub length-removed_one : i < length xs → length (remove xs i) ≡ length xs - 1
  length-removed_one below = let long = length-remove xs i below in omega arith

  -- A value before the place of a `remove` stays there.
  pub get-remove_before : (k : ℕ) (d : X) → k < i → i < length xs → slice_index_or (remove xs i) k d ≡ slice_index_or xs k d
  get-remove_before k d before below = get_or-remove_below xs i d k before below

  -- A value from the place of a `remove` on is the one that stood one place behind.
  pub get-remove_behind : (k : ℕ) (d : X) → i ≤ k → i < length xs → slice_index_or (remove xs i) k d ≡ slice_index_or xs (k + 1) d
  get-remove_behind k d behind below = get_or-remove_above xs i d k behind below

  -- A `remove` at the place of an `insert` undoes it.
  pub remove-insert : (x : X) → i ≤ length xs → remove (insert xs i x) i ≡ xs
  remove-insert x inside =
      let more = length-inserted_one x inside in
      let fewer = length-remove (insert xs i x) i (omega arith) in
      same_lists _ _ (omega arith) (λ k d below. grind (arith, get_or-remove_below, get_or-remove_above, get-insert_before, get-insert_behind))

  -- An `insert` of the value that a `remove` took, at the same place, undoes it.
  pub insert-remove : (x d : X) → i < length xs → x ≡ slice_index_or xs i d → insert (remove xs i) i x ≡ xs
  insert-remove x d below is =
      let front : length (take i xs) ≡ i = length-take-le i xs (omega arith) in
      let next : drop (suc i) xs ≡ drop (i + 1) xs = ap (λ (n : ℕ). drop n xs) (sym (add-one i)) in
      ap (λ (l : List X). l ++ x ∷ drop i (remove xs i)) (take_at (take i xs) (drop (suc i) xs) i front)
      ∙ ap (λ (l : List X). take i xs ++ x ∷ l) (drop_at (take i xs) (drop (suc i) xs) i front ∙ next)
      ∙ ap (λ (y : X). take i xs ++ y ∷ drop (i + 1) xs) is
      ∙ ap (λ (l : List X). take i xs ++ l) (sym (drop_more xs i d below))
      ∙ take-append-drop i xs

-- ---- a value taken, and the last one put in its place

module _ {X : Type 0} (xs : List X) (i : ℕ) (x : X) where
  -- A list is one value shorter after `swap_remove`.
  pub length-swap_remove : i < length xs → length (swap_remove xs i x) ≡ length xs - 1
  length-swap_remove below =
      let kept = length-set xs i (slice_index_or xs (length xs - 1) x) in
      length-take-le (length xs - 1) (slice_set xs i (slice_index_or xs (length xs - 1) x)) (omega arith)

  -- After `swap_remove` the last value stands at the place of the one removed.
  pub get-swap_remove_at : (k : ℕ) (d : X) → k ≡ i → i < length xs - 1 → slice_index_or (swap_remove xs i x) k d ≡ slice_index_or xs (length xs - 1) d
  get-swap_remove_at k d is below =
      get_or-take (length xs - 1) (slice_set xs i (slice_index_or xs (length xs - 1) x)) k d (omega arith)
      ∙ get_or-set_at xs i k (slice_index_or xs (length xs - 1) x) d is (omega arith)
      ∙ get_or_default xs (length xs - 1) x d (omega arith)

  -- After `swap_remove` each other value stands where it did.
  pub get-swap_remove_other : (k : ℕ) (d : X) → k ≢ i → k < length xs - 1 → slice_index_or (swap_remove xs i x) k d ≡ slice_index_or xs k d
  get-swap_remove_other k d other below = get_or-take (length xs - 1) _ k d below ∙ get_or-set_other xs i k _ d other

-- ---- a range taken

module _ {X : Type 0} (xs : List X) (s e : ℕ) where
  -- A list is shorter by the length of the range after `remove_range`.
  pub length-remove_range : s ≤ e → e ≤ length xs → length (remove_range xs s e) ≡ length xs - (e - s)
  length-remove_range order inside = grind (arith, places)

  -- A value before a range that was removed stays there.
  pub get-remove_range_before : (k : ℕ) (d : X) → k < s → s ≤ e → e ≤ length xs → slice_index_or (remove_range xs s e) k d ≡ slice_index_or xs k d
  get-remove_range_before k d before order inside = grind (arith, places)

  -- A value from the start of a removed range on is the one that stood the range's length behind.
  pub get-remove_range_behind : (k : ℕ) (d : X) → s ≤ k → s ≤ e → e ≤ length xs → slice_index_or (remove_range xs s e) k d ≡ slice_index_or xs (k + (e - s)) d
  get-remove_range_behind k d behind order inside = grind (arith, places)
