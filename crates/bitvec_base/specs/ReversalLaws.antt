-- A list whose ends are exchanged, pair by pair, and a part of a list reversed.
use Rattle.std.specs.Prelude.{◌≡◌, ◌≢◌, ℕ, ◌+◌, ◌-◌, ◌<◌, ◌≤◌, ◌⊎◌, List, length, reverse, slice_range, slice_index_or}
use Rattle.std.specs.List.{swap}
use Rattle.std.proofs.Common.{arith, rules, sym, ◌∙◌, ap, ⊎_elim, inl, inr}
use Rattle.std.proofs.lemmas.Bool.{cases_lt, cases_eq}
use Rattle.std.proofs.lemmas.List.{same_lists, places, get_or-reverse, length-reverse, length-set, get_or-set_same, get_or-set_other}
use Rattle.std.proofs.lemmas.List.Edits.{swap_is, length-swap}
use Rattle.bitvec_base.specs.Window.{write_at}
use Rattle.bitvec_base.specs.WriteLaws.{length-write_at, length-slice_range, get-slice_range, get-write_at_below, get-write_at_inside, get-write_at_above}

-- ---- two places exchanged

-- After the values at `i` and `j` are exchanged, the value at `j` is the one that stood at `i`.
pub get-swap_second : {X : Type 0} (xs : List X) (i j : ℕ) (d : X) → i < length xs → j < length xs → slice_index_or (swap xs i j) j d ≡ slice_index_or xs i d
get-swap_second xs i j d first second =
    let long = length-set xs i (slice_index_or xs j d) in
    rw (← swap_is xs i j d first second) (get_or-set_same _ j _ d (omega arith))

-- After the values at `i` and `j`, two different places, are exchanged, the value at `i` is the one that stood at `j`.
pub get-swap_first : {X : Type 0} (xs : List X) (i j : ℕ) (d : X) → i < length xs → j < length xs → i ≢ j → slice_index_or (swap xs i j) i d ≡ slice_index_or xs j d
get-swap_first xs i j d first second apart =
    rw (← swap_is xs i j d first second) (get_or-set_other _ j i _ d apart ∙ get_or-set_same xs i _ d first)

-- An exchange of the values at `i` and `j` leaves the value at each other place.
pub get-swap_other : {X : Type 0} (xs : List X) (i j k : ℕ) (d : X) → i < length xs → j < length xs → k ≢ i → k ≢ j → slice_index_or (swap xs i j) k d ≡ slice_index_or xs k d
get-swap_other xs i j k d first second not-first not-second =
    rw (← swap_is xs i j d first second) (get_or-set_other _ j k _ d not-second ∙ get_or-set_other xs i k _ d not-first)

-- ---- a list reversed but for the places from `low` up to `high`

pub length-mirrored : {X : Type 0} (list : List X) (low high : ℕ) → low + high ≡ length list → low ≤ high → length (write_at (reverse list) low (slice_range list low high)) ≡ length list
length-mirrored list low high ends order =
    let mirrored = length-reverse list in
    let middle = length-slice_range list low high (omega arith) in
    length-write_at (reverse list) low (slice_range list low high) (omega arith) ∙ mirrored

mirrored-inside : {X : Type 0} (list : List X) (low high k : ℕ) (d : X) → low + high ≡ length list → low ≤ k → k < high → slice_index_or (write_at (reverse list) low (slice_range list low high)) k d ≡ slice_index_or list k d
mirrored-inside list low high k d ends above below =
    let mirrored = length-reverse list in
    let middle = length-slice_range list low high (omega arith) in
    get-write_at_inside (reverse list) low (slice_range list low high) k d (omega arith) above (omega arith)
    ∙ get-slice_range list low high (k - low) d (omega arith)
    ∙ ap (λ (n : ℕ). slice_index_or list n d) (let e : low + (k - low) ≡ k = omega arith in e)

mirrored-outside : {X : Type 0} (list : List X) (low high k : ℕ) (d : X) → low + high ≡ length list → low ≤ high → k < length list → (k < low) ⊎ (high ≤ k) → slice_index_or (write_at (reverse list) low (slice_range list low high)) k d ≡ slice_index_or list (length list - 1 - k) d
mirrored-outside list low high k d ends order inside side =
    let mirrored = length-reverse list in
    let middle = length-slice_range list low high (omega arith) in
    ⊎_elim
    (λ (below : k < low). get-write_at_below (reverse list) low (slice_range list low high) k d (omega arith) below)
    (λ (above : high ≤ k). get-write_at_above (reverse list) low (slice_range list low high) k d (omega arith) (omega arith))
    side
    ∙ get_or-reverse list k d inside

pub mirror-none : {X : Type 0} {list : List X} {high : ℕ} → high ≡ length list → write_at (reverse list) 0 (slice_range list 0 high) ≡ list
unfolding write_at
mirror-none all = same_lists _ _ (search (rules, places)) (λ k d inside. grind (arith, places))

-- one pair more is exchanged
mirror-first : {X : Type 0} (list : List X) (low high : ℕ) (d : X) → low + high ≡ length list → low + 1 < high → slice_index_or (swap (write_at (reverse list) low (slice_range list low high)) low (high - 1)) low d ≡ slice_index_or (write_at (reverse list) (low + 1) (slice_range list (low + 1) (high - 1))) low d
mirror-first list low high d ends some =
    let long = length-mirrored list low high ends (omega arith) in
    let other : length list - 1 - low ≡ high - 1 = omega arith in
    get-swap_first _ low (high - 1) d (omega arith) (omega arith) (λ e. omega arith)
    ∙ mirrored-inside list low high (high - 1) d ends (omega arith) (omega arith)
    ∙ sym (mirrored-outside list (low + 1) (high - 1) low d (omega arith) (omega arith) (omega arith) (inl (omega arith)) ∙ ap (λ (n : ℕ). slice_index_or list n d) other)

mirror-second : {X : Type 0} (list : List X) (low high : ℕ) (d : X) → low + high ≡ length list → low + 1 < high → slice_index_or (swap (write_at (reverse list) low (slice_range list low high)) low (high - 1)) (high - 1) d ≡ slice_index_or (write_at (reverse list) (low + 1) (slice_range list (low + 1) (high - 1))) (high - 1) d
mirror-second list low high d ends some =
    let long = length-mirrored list low high ends (omega arith) in
    let other : length list - 1 - (high - 1) ≡ low = omega arith in
    get-swap_second _ low (high - 1) d (omega arith) (omega arith)
    ∙ mirrored-inside list low high low d ends (omega arith) (omega arith)
    ∙ sym (mirrored-outside list (low + 1) (high - 1) (high - 1) d (omega arith) (omega arith) (omega arith) (inr (omega arith)) ∙ ap (λ (n : ℕ). slice_index_or list n d) other)

mirror-other : {X : Type 0} (list : List X) (low high k : ℕ) (d : X) → low + high ≡ length list → low + 1 < high → k < length list → k ≢ low → k ≢ high - 1 → slice_index_or (swap (write_at (reverse list) low (slice_range list low high)) low (high - 1)) k d ≡ slice_index_or (write_at (reverse list) (low + 1) (slice_range list (low + 1) (high - 1))) k d
mirror-other list low high k d ends some inside not-first not-second =
    let long = length-mirrored list low high ends (omega arith) in
    get-swap_other _ low (high - 1) k d (omega arith) (omega arith) not-first not-second
    ∙ ⊎_elim
    (λ (below : k < low).
    mirrored-outside list low high k d ends (omega arith) inside (inl below)
    ∙ sym (mirrored-outside list (low + 1) (high - 1) k d (omega arith) (omega arith) inside (inl (omega arith))))
    (λ (above : low ≤ k). ⊎_elim
    (λ (within : k < high).
    mirrored-inside list low high k d ends above within
    ∙ sym (mirrored-inside list (low + 1) (high - 1) k d (omega arith) (omega arith) (omega arith)))
    (λ (past : high ≤ k).
    mirrored-outside list low high k d ends (omega arith) inside (inr past)
    ∙ sym (mirrored-outside list (low + 1) (high - 1) k d (omega arith) (omega arith) inside (inr (omega arith))))
    (cases_lt k high))
    (cases_lt k low)

pub mirror-step : {X : Type 0} (list : List X) (low high : ℕ) → low + high ≡ length list → low + 1 < high → swap (write_at (reverse list) low (slice_range list low high)) low (high - 1) ≡ write_at (reverse list) (low + 1) (slice_range list (low + 1) (high - 1))
mirror-step list low high ends some =
    let old = length-swap (write_at (reverse list) low (slice_range list low high)) low (high - 1) ∙ length-mirrored list low high ends (omega arith) in
    let new = length-mirrored list (low + 1) (high - 1) (omega arith) (omega arith) in
    same_lists _ _ (old ∙ sym new) (λ k d inside. ⊎_elim
    (λ (first : k ≡ low). rw first (mirror-first list low high d ends some))
    (λ not-first. ⊎_elim
    (λ (second : k ≡ high - 1). rw second (mirror-second list low high d ends some))
    (λ not-second. mirror-other list low high k d ends some (omega arith) not-first not-second)
    (cases_eq k (high - 1)))
    (cases_eq k low))

-- no pair is left
pub mirror-all : {X : Type 0} (list : List X) (low high : ℕ) → low + high ≡ length list → low ≤ high → high ≤ low + 1 → write_at (reverse list) low (slice_range list low high) ≡ reverse list
unfolding write_at
mirror-all list low high ends order met = same_lists _ _ (search (rules, places, get_or-reverse, length-reverse)) (λ k d inside. grind (arith, places, get_or-reverse, length-reverse))

-- ---- a part reversed

pub get-reversed_part_inside : {X : Type 0} (list : List X) (from to k : ℕ) (d : X) → to ≤ length list → from ≤ k → k < to → slice_index_or (write_at list from (reverse (slice_range list from to))) k d ≡ slice_index_or list (from + (to - 1 - k)) d
get-reversed_part_inside list from to k d bound above below =
    let part = length-slice_range list from to bound in
    let mirrored = length-reverse (slice_range list from to) in
    let mirror : length (slice_range list from to) - 1 - (k - from) ≡ to - 1 - k = omega arith in
    get-write_at_inside list from (reverse (slice_range list from to)) k d (omega arith) above (omega arith)
    ∙ get_or-reverse (slice_range list from to) (k - from) d (omega arith)
    ∙ ap (λ (n : ℕ). slice_index_or (slice_range list from to) n d) mirror
    ∙ get-slice_range list from to (to - 1 - k) d (omega arith)

pub get-reversed_part_outside : {X : Type 0} (list : List X) (from to k : ℕ) (d : X) → from ≤ to → to ≤ length list → (k < from) ⊎ (to ≤ k) → slice_index_or (write_at list from (reverse (slice_range list from to))) k d ≡ slice_index_or list k d
get-reversed_part_outside list from to k d order bound side =
    let part = length-slice_range list from to bound in
    let mirrored = length-reverse (slice_range list from to) in
    ⊎_elim
    (λ (below : k < from). get-write_at_below list from (reverse (slice_range list from to)) k d (omega arith) below)
    (λ (above : to ≤ k). get-write_at_above list from (reverse (slice_range list from to)) k d (omega arith) (omega arith))
    side
