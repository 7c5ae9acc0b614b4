-- A window reversed from both ends, a block at a time.
use Rattle.std.proofs.Common.{◌≡◌, ℕ, ◌+◌, ◌-◌, ◌*◌, ◌/◌, ◌%◌, ◌<◌, ◌≤◌, true, Bool, List, length, reverse, slice_range, refl, arith, rules, ap, ◌∙◌}
use Rattle.std.proofs.lemmas.List.{same_lists, places, get_or-reverse, length-reverse}
use Rattle.bitvec_base.specs.declared.window.Window.{Window}
use Rattle.bitvec_base.specs.Memory.{Edits, HasWindow, Writes, list_in}
use Rattle.bitvec_base.specs.Window.{window_range, write_at}
use Rattle.bitvec_base.specs.WritesLaws.{HasWindow-kept, Writes-is, Writes-next, Writes-range, length-list, list-range}
use Rattle.bitvec_store.specs.Width.{IsWidth}
use Rattle.bitvec_store.specs.WidthLaws.{at_each_width}
use Rattle.bitvec_cells.specs.Cost.{work_steps}
use Rattle.bitvec_passes.specs.Ends.{ends_exchanged}

-- at first all values are as they were
pub mirrored-none : {X : Type 0} {list : List X} {n : ℕ} → n ≡ length list → write_at (reverse list) 0 (slice_range list 0 (n - 0)) ≡ list
unfolding write_at
mirrored-none all = same_lists _ _ (search (rules, places, length-reverse)) (λ i d inside. grind (arith, places, get_or-reverse, length-reverse))

-- in the end at most one is left
pub mirrored-all : {X : Type 0} (list : List X) (low n : ℕ) → n ≡ length list → low ≤ n - low → n - low ≤ low + 1 → write_at (reverse list) low (slice_range list low (n - low)) ≡ reverse list
unfolding write_at
mirrored-all list low n all order met = same_lists _ _ (search (rules, places, length-reverse)) (λ i d inside. grind (arith, places, get_or-reverse, length-reverse))

-- the ends of what is left are exchanged
mirrored-next : {X : Type 0} (list : List X) (low high k : ℕ) → low + high ≡ length list → low + k + k ≤ high
    → ends_exchanged low high k (write_at (reverse list) low (slice_range list low high)) ≡ write_at (reverse list) (low + k) (slice_range list (low + k) (high - k))
unfolding ends_exchanged write_at
mirrored-next list low high k ends apart = same_lists _ _ (search (rules, places, length-reverse)) (λ i d inside. grind (arith, places, get_or-reverse, length-reverse))

-- k bits a side of a window are exchanged
pub Writes-ends : {b : ℕ} (at : ℕ → ℕ → ℕ) {old mid new : List ℕ} {window : Window} (low high k : ℕ) {front back : List Bool}
    → HasWindow b old window → low + k + k ≤ high → high ≤ window.len
    → Writes b at old mid (window_range window low (low + k)) front → front ≡ reverse (list_in b at old (window_range window (high - k) high))
    → Writes b at mid new (window_range window (high - k) high) back → back ≡ reverse (list_in b at old (window_range window low (low + k)))
    → Edits b at old new window (ends_exchanged low high k)
unfolding ends_exchanged
Writes-ends {b} at {old} {mid} {new} {window} low high k has apart bound before front_is after back_is =
    let list = list_in b at old window in
    let first = Writes-range low (low + k) has (omega arith) (omega arith)
    (Writes-is before (front_is ∙ ap reverse (list-range at (high - k) high has (omega arith) bound))) in
    let kept = HasWindow-kept mid has first.elements in
    let second = Writes-range (high - k) high kept (omega arith) bound
    (Writes-is after (back_is ∙ ap reverse (list-range at low (low + k) has (omega arith) (omega arith)))) in
    Writes-next (λ l. write_at l (high - k) (reverse (slice_range list low (low + k)))) has first second refl

-- so are those of what is left
pub Writes-mirrored : {b : ℕ} (at : ℕ → ℕ → ℕ) {old : List ℕ} (mid new : List ℕ) {window : Window} (low k : ℕ) → HasWindow b old window → low + k + (low + k) ≤ window.len
    → (let list = list_in b at old window in
    Writes b at old mid window (write_at (reverse list) low (slice_range list low (window.len - low)))
    → Edits b at mid new window (ends_exchanged low (window.len - low) k)
    → Writes b at old new window (write_at (reverse list) (low + k) (slice_range list (low + k) (window.len - (low + k)))))
Writes-mirrored {b} at {old} mid new {window} low k has apart before after =
    let list = list_in b at old window in
    let long = length-list at has in
    let end : window.len - (low + k) ≡ window.len - low - k = omega arith in
    Writes-next (ends_exchanged low (window.len - low) k) has before after (rw end (mirrored-next list low (window.len - low) k (omega arith) (omega arith)))

-- ---- steps

-- twice those of half the bits are at most one more
pub half-steps : (n : ℕ) → 2 * work_steps true (n / 2) ≤ work_steps true n + 1
unfolding work_steps
half-steps n = omega arith

pub work-some : (n : ℕ) → 0 < n → 0 < work_steps true n
unfolding work_steps
work-some n some = omega arith

-- three fewer than n elements have whole words
pub room-words : (b n : ℕ) → IsWidth b → (n - 3) % 8 ≡ 0 → (b * (n - 3)) % 64 ≡ 0
room-words b n width whole =
    at_each_width (λ (w : ℕ). (w * (n - 3)) % 64 ≡ 0) (omega arith) (omega arith) (omega arith) (omega arith) (omega arith) b width

-- one block more
pub block-words : (low k room : ℕ) → low % 64 ≡ 0 → room % 64 ≡ 0 → k ≡ room → (low + k) % 64 ≡ 0
block-words low k room words whole all = omega arith

pub block-next : (low k m : ℕ) → low % 64 ≡ 0 → 2 * work_steps true (low + k) * m ≡ 2 * work_steps true low * m + 2 * work_steps true k * m
unfolding work_steps
block-next low k m words = ap (λ (n : ℕ). 2 * n * m) (let e : work_steps true (low + k) ≡ work_steps true low + work_steps true k = omega arith in e) ∙ omega arith
