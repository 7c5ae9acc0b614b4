-- Edits of a list as the first bits of a word.
use Rattle.std.specs.Prelude.{◌≡◌, ℕ, ◌+◌, ◌-◌, ◌<◌, ◌≤◌, Bool, false, List, take, length, replicate, reverse, slice_index_or, slice_range}
use Rattle.std.proofs.Common.{arith, rules, sym, ◌∙◌, ap, ⊎_elim}
use Rattle.std.proofs.lemmas.Bool.{cases_lt}
use Rattle.std.proofs.lemmas.List.{length-take-le, places, same_lists}
use Rattle.bitvec_base.specs.LengthLaws.{length-copied_within, length-shifted_end}
use Rattle.bitvec_base.specs.WriteLaws.{get-slice_range, get-write_at_above, get-write_at_inside, length-slice_range, length-write_at, take-write_at}
use Rattle.bitvec_base.specs.Lists.{copied_within, shifted_end, shifted_start}
use Rattle.bitvec_base.specs.Memory.{Edits, HasWindow, Writes, list_in}
use Rattle.bitvec_base.specs.Window.{window_range, write_at}
use Rattle.bitvec_base.specs.WritesLaws.{HasWindow-kept, Writes-is, Writes-next, Writes-range, length-list, list-range}
use Rattle.bitvec_base.specs.declared.window.Window.{Window}
use Rattle.bitvec_words.specs.MovedLaws.{take-word}
use Rattle.bitvec_words.specs.ShortWindow.{padded}

-- the first n of b bits are shifted by k towards their start
pub shifted-start_word : (b : ℕ) (bits : List Bool) (n k : ℕ) → length bits ≡ b → k ≤ n → n ≤ b
    → write_at (replicate b false) 0 (slice_range bits k (k + (n - k))) ≡ padded b (shifted_start k (take n bits))
unfolding shifted_start padded write_at
shifted-start_word b bits n k long order bound = same_lists _ _ (search (rules, places)) (λ i e inside. grind (arith, places))

-- and towards their end
pub shifted-end_word : (b : ℕ) (bits : List Bool) (n k : ℕ) → length bits ≡ b → k ≤ n → n ≤ b
    → write_at (replicate b false) k (slice_range bits 0 (0 + (n - k))) ≡ padded b (shifted_end k (take n bits))
unfolding shifted_end padded write_at
shifted-end_word b bits n k long order bound = same_lists _ _ (search (rules, places)) (λ i e inside. grind (arith, places))

-- the first n of b bits in the opposite order are the last ones of all in that
pub reversed-word : {b : ℕ} (bits : List Bool) (n : ℕ) {m : ℕ} → length bits ≡ b → n ≤ b → m ≡ b - n
    → write_at (replicate b false) 0 (slice_range (reverse bits) m (m + n)) ≡ padded b (reverse (take n bits))
unfolding padded write_at
reversed-word bits n long bound behind = same_lists _ _ (search (rules, places)) (λ i e inside. grind (arith, places))

-- a window of at most 64 bits gets an edit of its list, as the first bits of a word
pub few-edited : {b : ℕ} {at : ℕ → ℕ → ℕ} {old new : List ℕ} {window : Window} (edit : List Bool → List Bool) {bits reordered : List Bool} → HasWindow b old window
    → bits ≡ padded 64 (list_in b at old window) → reordered ≡ padded 64 (edit (take window.len bits)) → length (edit (list_in b at old window)) ≡ window.len
    → Writes b at old new window (take window.len reordered) → Edits b at old new window edit
few-edited {b} {at} {old} {new} {window} edit {bits} {reordered} has word edited long writes =
    let list = list_in b at old window in
    let whole = length-list at has in
    let same = take-word 64 list word (sym whole) in
    Writes-is writes (take-word 64 (edit list) (edited ∙ ap (λ (l : List Bool). padded 64 (edit l)) same) (sym long))

-- all but the last 64 bits are copied from k places on, and the last 64 are shifted for themselves
pub copied-shifts_start : (k n : ℕ) (list : List Bool) → length list ≡ n → k < 64 → 64 < n
    → let now = copied_within k (k + (n - 64)) 0 list in write_at now (n - 64) (shifted_start k (slice_range now (n - 64) n)) ≡ shifted_start k list
unfolding copied_within shifted_start write_at
copied-shifts_start k n list long few more = same_lists _ _ (search (rules, places)) (λ i e inside. grind (arith, places))

-- a shift towards the end begins as that of its first values does, and goes on with the values
shifted-first : (k n i : ℕ) (list : List Bool) (e : Bool) → k ≤ n → n ≤ length list → i < n → slice_index_or (shifted_end k (take n list)) i e ≡ slice_index_or (shifted_end k list) i e
unfolding shifted_end
shifted-first k n i list e few fits inside = grind (arith, places)

shifted-later : (k i : ℕ) (list : List Bool) (e : Bool) → k ≤ i → i < length list → slice_index_or list (i - k) e ≡ slice_index_or (shifted_end k list) i e
unfolding shifted_end
shifted-later k i list e late inside = grind (arith, places)

-- and towards the end, the first 64
shifted-before : (k n : ℕ) (list : List Bool) → length list ≡ n → k < 64 → 64 < n
    → write_at (copied_within (64 - k) (n - k) 64 list) 0 (shifted_end k (take 64 list)) ≡ shifted_end k list
unfolding copied_within
shifted-before k n list long few more =
    let now : List Bool = copied_within (64 - k) (n - k) 64 list in
    let word : List Bool = shifted_end k (take 64 list) in
    let copied : List Bool = slice_range list (64 - k) (n - k) in
    let whole = length-copied_within (64 - k) (n - k) 64 list (omega arith) (omega arith) in
    let first = length-take-le 64 list (omega arith) in
    let shifted = length-shifted_end k (take 64 list) (omega arith) in
    let size = length-slice_range list (64 - k) (n - k) (omega arith) in
    let stays = length-write_at now 0 word (omega arith) in
    same_lists _ _ (stays ∙ whole ∙ sym (length-shifted_end k list (omega arith))) (λ i e inside. ⊎_elim
    (λ early.
    let here : i - 0 ≡ i = omega arith in
    get-write_at_inside now 0 word i e (omega arith) (omega arith) (omega arith) ∙ ap (λ (j : ℕ). slice_index_or word j e) here ∙ shifted-first k 64 i list e (omega arith) (omega arith) early)
    (λ late.
    let place : 64 - k + (i - 64) ≡ i - k = omega arith in
    get-write_at_above now 0 word i e (omega arith) (omega arith) ∙ get-write_at_inside list 64 copied i e (omega arith) late (omega arith) ∙ get-slice_range list (64 - k) (n - k) (i - 64) e (omega arith)
    ∙ ap (λ (j : ℕ). slice_index_or list j e) place ∙ shifted-later k i list e (omega arith) (omega arith))
    (cases_lt i 64))

pub copied-shifts_end : (k n : ℕ) (list : List Bool) → length list ≡ n → k < 64 → 64 < n
    → let now = copied_within (64 - k) (n - k) 64 list in write_at now 0 (shifted_end k (slice_range now 0 64)) ≡ shifted_end k list
unfolding copied_within
copied-shifts_end k n list long few more =
    let now : List Bool = copied_within (64 - k) (n - k) 64 list in
    ap (λ (l : List Bool). write_at now 0 (shifted_end k l)) (take-write_at list 64 (slice_range list (64 - k) (n - k)) (omega arith)) ∙ shifted-before k n list long few more

-- an edit of a window, and then one of a range of it
pub Edits-range : {b : ℕ} (at : ℕ → ℕ → ℕ) {old : List ℕ} (mid new : List ℕ) {window : Window} (first second edit : List Bool → List Bool) (from to : ℕ) → HasWindow b old window → from ≤ to → to ≤ window.len
    → Edits b at old mid window first → Edits b at mid new (window_range window from to) second
    → ((list : List Bool) → length list ≡ window.len → let now = first list in write_at now from (second (slice_range now from to)) ≡ edit list) → Edits b at old new window edit
Edits-range {b} at {old} mid new {window} first second edit from to has order bound edited ranged all =
    let now = HasWindow-kept mid has edited.elements in
    let part = rw (list-range at from to now order bound) at ranged in
    Writes-next (λ l. write_at l from (second (slice_range l from to))) has edited
    (Writes-range from to now order bound part) (all _ (length-list at has))
