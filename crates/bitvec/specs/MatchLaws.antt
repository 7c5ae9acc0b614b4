-- What a true answer of `starts_with`, `ends_with` and `contains` says of bits, and what a false one does.
use Rattle.std.specs.Prelude.{◌≡◌, ℕ, ◌+◌, ◌-◌, ◌<◌, ◌≤◌, Bool, true, false, List, [], ◌∷◌, ◌++◌, drop, length, slice_index_or, slice_range, take}
use Rattle.std.specs.List.{list_any, range_with_len}
use Rattle.std.proofs.Common.{arith, sym, ◌∙◌, ap, ⊎_elim, get_or-drop, get_or-take, length-take}
use Rattle.std.proofs.lemmas.Bool.{cases_Bool, cases_lt}
use Rattle.std.proofs.lemmas.List.{same_lists, take-append-drop}
pub use Rattle.bitvec_base.specs.NeedleLaws.{is_prefix-no_longer, is_suffix-no_longer}
use Rattle.bitvec_base.specs.SliceLaws.{range-from_start, range-to_end}
use Rattle.bitvec_base.specs.Lists.{is_prefix, is_suffix, stands_at, stands_in}
use Rattle.bitvec_base.specs.ListsLaws.{is_prefix-fits, is_suffix-fits, same_bits-decides, stands_at-fits, stands_at-long, stands_in-found}

-- ---- at the start

-- Where a list begins with a part, the first bits of the list, as many as the part has, are the part.
pub prefix-taken : (part list : List Bool) → is_prefix part list ≡ true → take (length part) list ≡ part
prefix-taken part list begins = (same_bits-decides _ _).0 (sym (is_prefix-fits part list (is_prefix-no_longer part list begins)) ∙ begins)

-- Where a list begins with a part, each bit of the part is the list's at the same index.
pub prefix-bit : (part list : List Bool) (k : ℕ) (d : Bool) → is_prefix part list ≡ true → k < length part → slice_index_or list k d ≡ slice_index_or part k d
prefix-bit part list k d begins inside = sym (get_or-take (length part) list k d inside) ∙ ap (λ (l : List Bool). slice_index_or l k d) (prefix-taken part list begins)

-- Where a list begins with a part, the part and what stands behind it, joined, are the list.
pub prefix-joined : (part list : List Bool) → is_prefix part list ≡ true → part ++ drop (length part) list ≡ list
prefix-joined part list begins = ap (λ (l : List Bool). l ++ drop (length part) list) (sym (prefix-taken part list begins)) ∙ take-append-drop (length part) list

-- Where a list begins with a part, the part and the range behind it, which `strip_prefix` gives, are the list, joined.
pub prefix-stripped : (part list : List Bool) (n e : ℕ) → n ≡ length part → e ≡ length list → is_prefix part list ≡ true → part ++ slice_range list n e ≡ list
prefix-stripped part list n e at all begins =
    ap (λ (l : List Bool). part ++ l) (range-to_end list n e (omega arith) ∙ ap (λ (k : ℕ). drop k list) at) ∙ prefix-joined part list begins

-- A list that has a part's bits at its first places begins with the part.
pub prefix-found : (part list : List Bool) → length part ≤ length list → ((k : ℕ) (d : Bool) → k < length part → slice_index_or list k d ≡ slice_index_or part k d) → is_prefix part list ≡ true
prefix-found part list fits each =
    let long = length-take (length part) list in
    is_prefix-fits part list fits
    ∙ (same_bits-decides _ _).1 (same_lists _ _ (omega arith) (λ k d inside. get_or-take (length part) list k d (omega arith) ∙ each k d (omega arith)))

-- ---- at the end

-- Where a list ends with a part, the last bits of the list, as many as the part has, are the part.
pub suffix-dropped : (part list : List Bool) → is_suffix part list ≡ true → drop (length list - length part) list ≡ part
suffix-dropped part list ends = (same_bits-decides _ _).0 (sym (is_suffix-fits part list (is_suffix-no_longer part list ends)) ∙ ends)

-- Where a list ends with a part, each bit of the part is the list's as far from the end.
pub suffix-bit : (part list : List Bool) (k : ℕ) (d : Bool) → is_suffix part list ≡ true → k < length part → slice_index_or list (length list - length part + k) d ≡ slice_index_or part k d
suffix-bit part list k d ends inside = sym (get_or-drop (length list - length part) list k d) ∙ ap (λ (l : List Bool). slice_index_or l k d) (suffix-dropped part list ends)

-- Where a list ends with a part, what stands before the part and the part, joined, are the list.
pub suffix-joined : (part list : List Bool) → is_suffix part list ≡ true → take (length list - length part) list ++ part ≡ list
suffix-joined part list ends =
    ap (λ (l : List Bool). take (length list - length part) list ++ l) (sym (suffix-dropped part list ends)) ∙ take-append-drop (length list - length part) list

-- Where a list ends with a part, the range before it, which `strip_suffix` gives, and the part are the list, joined.
pub suffix-stripped : (part list : List Bool) (n e : ℕ) → n ≡ length part → e ≡ length list → is_suffix part list ≡ true → slice_range list 0 (e - n) ++ part ≡ list
suffix-stripped part list n e at all ends =
    ap (λ (l : List Bool). l ++ part) (range-from_start list (length list - length part) (e - n) (omega arith)) ∙ suffix-joined part list ends

-- ---- at some place

passes : (p : ℕ → Bool) (xs : List ℕ) → list_any p xs ≡ true → (k : ℕ) × (p k ≡ true)
passes p [] found = absurd cc
passes p (x ∷ xs) found =
    ⊎_elim (λ (yes : p x ≡ true). (x, yes)) (λ (no : p x ≡ false). passes p xs (rw no at found)) (cases_Bool (p x))

stands-fits : (part list : List Bool) (k : ℕ) → stands_at part list k ≡ true → k + length part ≤ length list
stands-fits part list k stands =
    ⊎_elim (λ (long : length list < k + length part). let none = stands_at-long part list k long in absurd cc) (λ (fits : k + length part ≤ length list). fits) (cases_lt (length list) (k + length part))

-- A list that contains a part has the part's bits from some place on.
pub contained : (part list : List Bool) → stands_in part list ≡ true → (k : ℕ) × (k + length part ≤ length list) × (slice_range list k (k + length part) ≡ part)
unfolding stands_in
contained part list found =
    let place = passes (stands_at part list) (range_with_len 0 (length list + 1)) found in
    let fits = stands-fits part list place.0 place.1 in
    (place.0, fits, (same_bits-decides _ _).0 (sym (stands_at-fits part list place.0 fits) ∙ place.1))

-- A list that has a part's bits from some place on contains the part.
pub contains-found : (part list : List Bool) (k : ℕ) → k + length part ≤ length list → slice_range list k (k + length part) ≡ part → stands_in part list ≡ true
contains-found part list k fits there = stands_in-found part list k (omega arith) (stands_at-fits part list k fits ∙ (same_bits-decides _ _).1 there)

-- A list that does not contain a part has the part's bits from no place on.
pub contains-absent : (part list : List Bool) (k : ℕ) → stands_in part list ≡ false → k + length part ≤ length list → slice_range list k (k + length part) ≡ part → ⊥
contains-absent part list k absent fits there = let found = contains-found part list k fits there in cc
