-- Rotations by exchanges of blocks, and by values that are held aside.
use Rattle.std.specs.Prelude.{◌≡◌, ℕ, ◌+◌, ◌-◌, ◌≤◌, Bool, false, List, ◌++◌, bit_or, take, drop, length, replicate, slice_range}
use Rattle.std.proofs.Common.{arith, rules, ap, sym, ◌∙◌, length-take}
use Rattle.std.proofs.lemmas.List.{places, same_lists}
use Rattle.bitvec_base.specs.Lists.{copied_within, rotated_left}
use Rattle.bitvec_base.specs.MemoryLaws.{length-element_bits}
use Rattle.bitvec_base.specs.Memory.{Edits, HasWindow, Writes, element_bits, list_in}
use Rattle.bitvec_base.specs.Window.{window_after, window_range, write_at}
use Rattle.bitvec_base.specs.WriteLaws.{length-slice_range}
use Rattle.bitvec_base.specs.WritesLaws.{HasWindow-kept, Writes-holds, Writes-is, Writes-next, Writes-range, Writes-then, list-after, list-range}
use Rattle.bitvec_base.specs.declared.window.Window.{Window}
use Rattle.bitvec_words.specs.ShortWindow.{padded}
use Rattle.bitvec_words.specs.MovedLaws.{element-joined, written-padded}
use Rattle.bitvec_within.specs.Swaps.{swapped_within}
use Rattle.bitvec_within.proofs.Swapped.{swapped-by}

-- the list with what is behind its first d values rotated by k
unfoldable pub rotated_behind : {X : Type 0} → ℕ → ℕ → List X → List X
rotated_behind d k list = write_at list d (rotated_left k (drop d list))

-- of four lists joined, of which the first has d values and the next two k each, the last two change places
rotated-joined : {X : Type 0} (ahead next front rest : List X) (d k : ℕ) → length ahead ≡ d → length next ≡ k → length front ≡ k
    → rotated_behind (d + k) k (ahead ++ (next ++ (front ++ rest))) ≡ ahead ++ (next ++ (rest ++ front))
unfolding rotated_behind rotated_left write_at
rotated-joined ahead next front rest d k before same long = same_lists _ _ (search (rules, places)) (λ i e inside. grind (arith, places))

module _ {X : Type 0} (list : List X) where
  pub behind-none : (k : ℕ) → rotated_behind 0 k list ≡ rotated_left k list
  unfolding rotated_behind rotated_left write_at
  behind-none k = same_lists _ _ (search (rules, places)) (λ i e inside. grind (arith, places))

  pub rotated-none : rotated_left 0 list ≡ list
  unfolding rotated_left
  rotated-none = same_lists _ _ (search (rules, places)) (λ i e inside. grind (arith, places))

  pub rotated-all : (k : ℕ) → k ≡ length list → rotated_left k list ≡ list
  unfolding rotated_left
  rotated-all k all = same_lists _ _ (search (rules, places)) (λ i e inside. grind (arith, places))

  -- the first k values are exchanged with the next ones, which are then in their place
  exchanged-parts : (d k : ℕ) → d + k + k ≤ length list
      → write_at (write_at list d (slice_range list (d + k) (d + k + k))) (d + k) (slice_range list d (d + k))
      ≡ take d list ++ (slice_range list (d + k) (d + k + k) ++ (slice_range list d (d + k) ++ drop (d + k + k) list))
  unfolding write_at
  exchanged-parts d k fits = same_lists _ _ (search (rules, places)) (λ i e inside. grind (arith, places))

  rotated-parts : (d k : ℕ) → d + k + k ≤ length list
      → rotated_behind d k list ≡ take d list ++ (slice_range list (d + k) (d + k + k) ++ (drop (d + k + k) list ++ slice_range list d (d + k)))
  unfolding rotated_behind rotated_left write_at
  rotated-parts d k fits = same_lists _ _ (search (rules, places)) (λ i e inside. grind (arith, places))

  pub first-exchanged : (d k : ℕ) → d + k + k ≤ length list → rotated_behind (d + k) k (swapped_within d (d + k) (d + k) list) ≡ rotated_behind d k list
  first-exchanged d k fits =
      let front = length-slice_range list d (d + k) (omega arith) in
      let next = length-slice_range list (d + k) (d + k + k) (omega arith) in
      let ahead = length-take d list in
      ap (rotated_behind (d + k) k) (swapped-by list d (d + k) (d + k) k (omega arith) ∙ exchanged-parts d k fits)
      ∙ rotated-joined (take d list) (slice_range list (d + k) (d + k + k)) (slice_range list d (d + k)) (drop (d + k + k) list) d k (omega arith) (omega arith) (omega arith)
      ∙ sym (rotated-parts d k fits)

  -- the last c values are exchanged with the first ones, and are then in their place
  pub last-exchanged : (d k c : ℕ) → d + k + c ≡ length list → c ≤ k → rotated_behind (d + c) (k - c) (swapped_within d (d + c) (d + k) list) ≡ rotated_behind d k list
  unfolding rotated_behind rotated_left swapped_within write_at
  last-exchanged d k c all fits = same_lists _ _ (search (rules, places)) (λ i e inside. grind (arith, places))

  -- the first k values are held aside, and the last ones
  pub front-held : (k n : ℕ) → n ≡ length list → k ≤ n → write_at (copied_within k n 0 list) (n - k) (slice_range list 0 k) ≡ rotated_left k list
  unfolding copied_within rotated_left write_at
  front-held k n all fits = same_lists _ _ (search (rules, places)) (λ i e inside. grind (arith, places))

  pub back-held : (k n : ℕ) → n ≡ length list → k ≤ n → write_at (copied_within 0 k (n - k) list) 0 (slice_range list k n) ≡ rotated_left k list
  unfolding copied_within rotated_left write_at
  back-held k n all fits = same_lists _ _ (search (rules, places)) (λ i e inside. grind (arith, places))

-- a part of a window is held aside, and written to a place of it after another write
pub Writes-aside : {b : ℕ} {at : ℕ → ℕ → ℕ} {old mid new held kept : List ℕ} {window aside : Window} (from to place end : ℕ) {first list : List Bool} → HasWindow b old window → HasWindow b held aside
    → from ≤ to → to ≤ window.len → place ≤ end → end ≤ window.len
    → Writes b at held kept aside (list_in b at old (window_range window from to))
    → Writes b at old mid window first
    → Writes b at mid new (window_range window place end) (list_in b at kept aside)
    → write_at first place (slice_range (list_in b at old window) from to) ≡ list
    → Writes b at old new window list
Writes-aside {b} {at} {old} {mid} {new} {held} {kept} {window} {aside} from to place end has room order source ahead dest saved moved put same =
    let holds = Writes-holds room saved ∙ list-range at from to has order source in
    Writes-next (λ (l : List Bool). write_at l place (list_in b at kept aside)) has moved
    (Writes-range place end (HasWindow-kept mid has moved.elements) ahead dest put)
    (rw holds same)

-- what is behind the first d bits of a window is rotated, after another write
pub Writes-behind : (b : ℕ) (at : ℕ → ℕ → ℕ) (old mid new : List ℕ) (window : Window) (d k : ℕ) (list : List Bool) → HasWindow b old window → d ≤ window.len
    → Writes b at old mid window (list_in b at mid window)
    → Edits b at mid new (window_after d window) (rotated_left k)
    → rotated_behind d k (list_in b at mid window) ≡ list
    → Writes b at old new window list
unfolding rotated_behind
Writes-behind b at old mid new window d k list has inside before rotated same =
    let kept = HasWindow-kept mid has before.elements in
    let part = rw (list-after at d kept inside) at rotated in
    Writes-is (Writes-then has before (Writes-range d window.len kept inside (omega arith) part)) same

-- a word that has the first n bits of another from the k-th on, and one that has those before it behind as many, make one with these bits rotated
pub rotated-word : (at : ℕ → ℕ → ℕ) (word first last n k : ℕ) → k ≤ n → n ≤ 64
    → element_bits 64 at first ≡ write_at (replicate 64 false) 0 (slice_range (element_bits 64 at word) k (k + (n - k)))
    → element_bits 64 at last ≡ write_at (replicate 64 false) (n - k) (slice_range (element_bits 64 at word) 0 (0 + k))
    → element_bits 64 at (bit_or first last) ≡ padded 64 (rotated_left k (take n (element_bits 64 at word)))
unfolding rotated_left
rotated-word at word first last n k order bound begin end =
    let bits = element_bits 64 at word in
    let all = length-element_bits 64 at word in
    let front = length-slice_range bits k (k + (n - k)) (omega arith) in
    let back = length-slice_range bits 0 (0 + k) (omega arith) in
    element-joined 64 at first last (n - k) (slice_range bits k (k + (n - k))) (slice_range bits 0 (0 + k)) (omega arith) (omega arith)
    (begin ∙ written-padded 64 (slice_range bits k (k + (n - k))) (omega arith)) end
    ∙ ap (padded 64) (same_lists _ _ (search (rules, places)) (λ i e inside. grind (arith, places)))
