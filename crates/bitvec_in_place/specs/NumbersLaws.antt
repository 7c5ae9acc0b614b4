-- The number of a range: of one that a number was stored in, of one beside what was edited, and its bound.
use Rattle.std.specs.Prelude.{◌≡◌, ℕ, ◌+◌, ◌-◌, ◌%◌, ◌^◌, ◌<◌, ◌≤◌, ◌⊎◌, Bool, List, drop, length, slice_range, slice_set, take}
use Rattle.std.specs.List.{swap}
use Rattle.std.proofs.Common.{arith, sym, ◌∙◌, ap, ⊎_elim, length-drop}
use Rattle.std.proofs.lemmas.List.{same_lists, get_or-set_other, length-set, length-take}
use Rattle.std.proofs.lemmas.List.Edits.{length-swap}
use Rattle.bitvec_base.specs.Lists.{copied_within}
use Rattle.bitvec_base.specs.Window.{write_at}
use Rattle.bitvec_base.specs.WriteLaws.{get-slice_range, length-slice_range, range-write_at}
use Rattle.bitvec_segments.specs.LoadLaws.{loaded-below}
use Rattle.bitvec_segments.specs.Segments.{loaded, stored}
use Rattle.bitvec_segments.specs.StoreLaws.{length-stored, stored-loads}
use Rattle.bitvec_in_place.specs.MovedLaws.{get-swap_other}
use Rattle.bitvec_in_place.specs.RangesLaws.{number-put}
use Rattle.bitvec_in_place.specs.Ranges.{number_in, numbered}

-- ---- of lists

-- The `n` values of a list from place `a` on are `n`, where the list has as many.
pub length-part : {X : Type 0} (list : List X) (a n : ℕ) → a + n ≤ length list → length (take n (drop a list)) ≡ n
length-part list a n inside = omega (arith, length-take n (drop a list), length-drop a list)

-- A number `v` stored in `n` bits of a list is loaded from them as `v` modulo `2^n`.
pub number-stored : (big high : Bool) (b s v : ℕ) (list : List Bool) (from n : ℕ) → 0 < b → from + n ≤ length list
    → loaded big high b s (take n (drop from (write_at list from (stored big high b s v (take n (drop from list)))))) ≡ v % 2 ^ n
number-stored big high b s v list from n some inside =
    let old : List Bool = take n (drop from list) in
    let new : List Bool = stored big high b s v old in
    let was : length old ≡ n = length-part list from n inside in
    let long : length new ≡ n = length-stored big high b s v old ∙ was in
    let size : from + length new - from ≡ n = omega arith in
    let stands : take n (drop from (write_at list from new)) ≡ new = ap (λ (m : ℕ). take m (drop from (write_at list from new))) (sym size) ∙ range-write_at list from new (omega arith) in
    ap (loaded big high b s) stands ∙ stored-loads big high b s v old some ∙ ap (λ (m : ℕ). v % 2 ^ m) was

-- A number loaded from `n` bits of a list is below `2^n`.
pub loaded-part_below : (big high : Bool) (b s : ℕ) (list : List Bool) (from n : ℕ) → from + n ≤ length list → loaded big high b s (take n (drop from list)) < 2 ^ n
loaded-part_below big high b s list from n inside =
    let long = length-part list from n inside in
    rw long at (loaded-below big high b s (take n (drop from list)))

-- ---- of ranges of a memory's bits

-- The number of a range of `n` bits is below `2^n`.
pub number-below : (big high : Bool) (b : ℕ) (list : List Bool) (from to : ℕ) → to ≤ length list → number_in big high b list from to < 2 ^ (to - from)
unfolding number_in
number-below big high b list from to inside =
    let long = length-slice_range list from to inside in
    rw long at (loaded-below big high b from (slice_range list from to))

-- A range of `n` bits in which `v` was stored has the number `v` modulo `2^n`.
pub number-numbered : (big high : Bool) (b : ℕ) (list : List Bool) (from to v : ℕ) → 0 < b → from ≤ to → to ≤ length list → number_in big high b (numbered big high b list from to v) from to ≡ v % 2 ^ (to - from)
unfolding number_in numbered
number-numbered big high b list from to v some order inside = number-stored big high b from v list from (to - from) some (omega arith)

number-same : (big high : Bool) (b : ℕ) (old new : List Bool) (a e : ℕ) → slice_range new a e ≡ slice_range old a e → number_in big high b new a e ≡ number_in big high b old a e
unfolding number_in
number-same big high b old new a e same = ap (loaded big high b a) same

-- A bit that was set outside a range leaves the range's number.
pub number-set : (big high : Bool) (b : ℕ) (list : List Bool) (i : ℕ) (bit : Bool) (a e : ℕ) → e ≤ length list → (i < a) ⊎ (e ≤ i) → number_in big high b (slice_set list i bit) a e ≡ number_in big high b list a e
number-set big high b list i bit a e within apart =
    let kept = length-set list i bit in
    let old = length-slice_range list a e within in
    let new = length-slice_range (slice_set list i bit) a e (omega arith) in
    number-same big high b list (slice_set list i bit) a e (same_lists _ _ (omega arith) (λ k d inside.
    let short : a + k < e = omega arith in
    let other : a + k ≡ i → ⊥ = (λ (same : a + k ≡ i). ⊎_elim (λ (low : i < a). omega arith) (λ (above : e ≤ i). omega arith) apart) in
    get-slice_range (slice_set list i bit) a e k d short ∙ get_or-set_other list i (a + k) bit d other ∙ sym (get-slice_range list a e k d short)))

-- A swap of two bits outside a range leaves the range's number.
pub number-swap : (big high : Bool) (b : ℕ) (list : List Bool) (i j a e : ℕ) → i < length list → j < length list → e ≤ length list → (i < a) ⊎ (e ≤ i) → (j < a) ⊎ (e ≤ j) → number_in big high b (swap list i j) a e ≡ number_in big high b list a e
number-swap big high b list i j a e first second within apart beside =
    let kept = length-swap list i j in
    let old = length-slice_range list a e within in
    let new = length-slice_range (swap list i j) a e (omega arith) in
    number-same big high b list (swap list i j) a e (same_lists _ _ (omega arith) (λ k d inside.
    let short : a + k < e = omega arith in
    let one : a + k ≡ i → ⊥ = (λ (same : a + k ≡ i). ⊎_elim (λ (low : i < a). omega arith) (λ (above : e ≤ i). omega arith) apart) in
    let other : a + k ≡ j → ⊥ = (λ (same : a + k ≡ j). ⊎_elim (λ (low : j < a). omega arith) (λ (above : e ≤ j). omega arith) beside) in
    get-slice_range (swap list i j) a e k d short ∙ get-swap_other list i j (a + k) d one other first second ∙ sym (get-slice_range list a e k d short)))

-- A write beside a range leaves the range's number.
pub number-written : (big high : Bool) (b : ℕ) (list : List Bool) (from : ℕ) (new : List Bool) (a e : ℕ) → from + length new ≤ length list → a ≤ e → e ≤ length list → (e ≤ from) ⊎ (from + length new ≤ a) → number_in big high b (write_at list from new) a e ≡ number_in big high b list a e
number-written big high b list from new a e room some within apart = number-put list from (from + length new) new (omega arith) room (omega arith) big high b a e some within apart

-- A copy to bits beside a range leaves the range's number.
pub number-copied : (big high : Bool) (b from to dest : ℕ) (list : List Bool) (a e : ℕ) → from ≤ to → to ≤ length list → dest + (to - from) ≤ length list → a ≤ e → e ≤ length list → (e ≤ dest) ⊎ (dest + (to - from) ≤ a) → number_in big high b (copied_within from to dest list) a e ≡ number_in big high b list a e
unfolding copied_within
number-copied big high b from to dest list a e order source room some within apart =
    let long = length-slice_range list from to source in
    number-put list dest (dest + (to - from)) (slice_range list from to) (omega arith) room (omega arith) big high b a e some within apart
