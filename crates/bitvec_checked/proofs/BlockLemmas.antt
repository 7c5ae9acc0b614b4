-- Every so many bits of a window, by blocks that have the places of the step.
use Rattle.std.specs.Prelude.{◌≡◌, ℕ, ◌+◌, ◌-◌, ◌*◌, ◌/◌, ◌%◌, ◌==◌, ◌<◌, ◌≤◌, min, Bool, true, false, not, ◌&&◌, ◌||◌, if◌then◌else◌, List, length, replicate, slice_index_or, slice_range, take, refl}
use Rattle.std.proofs.Common.{arith, sym, ◌∙◌, ap, subst, zero-add}
use Rattle.std.proofs.Math.Nat.{mod-add-mod, mul-mod_right}
use Rattle.std.proofs.lemmas.List.{get_or-replicate, length-replicate}
use Rattle.bitvec_base.specs.declared.window.Window.{Window}
use Rattle.bitvec_base.specs.Lists.{combined}
use Rattle.bitvec_base.specs.ListsLaws.{combined-is}
use Rattle.bitvec_base.specs.Memory.{HasWindow, Writes, list_in}
use Rattle.bitvec_base.specs.Window.{window_range}
use Rattle.bitvec_base.specs.WriteLaws.{get-slice_range, length-slice_range}
use Rattle.bitvec_base.specs.WritesLaws.{HasWindow-kept, Writes-holds, length-list, list-range}
use Rattle.bitvec_store.specs.Width.{IsWidth}
use Rattle.bitvec_store.specs.WidthLaws.{at_each_width}
use Rattle.bitvec_words.specs.Operator.{operator}
use Rattle.bitvec_words.specs.declared.operator.BitOp.{BitOp}
use Rattle.bitvec_words.specs.declared.operator.BitOp.TheVariants.{And, Or}
use Rattle.bitvec_elements.proofs.StoreLemmas.{stretch-next, stretch-old, until}
use Rattle.bitvec_checked.specs.Every.{with_every}
use Rattle.bitvec_checked.proofs.EveryLemmas.{get-with_every, length-with_every}

-- ---- the size of a block

-- as many bits as there are in whole steps
block-phase : (step m : ℕ) → 0 < step → (m - m % step) % step ≡ 0
block-phase step m some =
    let whole : m - m % step ≡ step * (m / step) = omega arith in
    ap (λ n. n % step) whole ∙ mul-mod_right step (m / step)

moved-phase : (from k step : ℕ) → from % step ≡ 0 → (from + k) % step ≡ k % step
moved-phase from k step zero = sym (mod-add-mod from step k) ∙ ap (λ r. (r + k) % step) zero ∙ ap (λ n. n % step) (zero-add k)

size-next : (from m size count n : ℕ) → size ≡ min m n → count ≡ min size (n - from) → from + count < n → count ≡ m
size-next from m size count n is part more = omega arith

-- the next block begins at such a place too
pub next-phase : (from size count n step m : ℕ) → 0 < step → from % step ≡ 0 → size ≡ min (m - m % step) n → count ≡ min size (n - from) → from + count < n → (from + count) % step ≡ 0
next-phase from size count n step m some zero is part more =
    moved-phase from count step zero ∙ ap (λ k. k % step) (size-next from (m - m % step) size count n is part more) ∙ block-phase step m some

-- ---- its bits

sets-beside : (t x : Bool) → (x || (if t then true else false)) ≡ (if t then true else x)
sets-beside true true = refl
sets-beside true false = refl
sets-beside false true = refl
sets-beside false false = refl

clears-beside : (t x : Bool) → (x && (if t then false else true)) ≡ (if t then false else x)
clears-beside true true = refl
clears-beside true false = refl
clears-beside false true = refl
clears-beside false false = refl

-- the bit is written, and the other bit leaves what there was
beside : (bit t x : Bool) (op : BitOp) → (bit ≡ true → op ≡ Or) → (bit ≡ false → op ≡ And) → operator op x (if t then bit else not bit) ≡ (if t then bit else x)
beside true t x op sets clears = let is = sets refl in rw is (sets-beside t x)
beside false t x op sets clears = let is = clears refl in rw is (clears-beside t x)

abbrev pub pattern : ℕ → Bool → ℕ → List Bool
pattern step bit size = with_every step (λ k. bit) (replicate size (not bit))

length-pattern : (step : ℕ) (bit : Bool) (size : ℕ) → length (pattern step bit size) ≡ size
length-pattern step bit size = length-with_every step (λ k. bit) (replicate size (not bit)) ∙ length-replicate size (not bit)

get-pattern : (step : ℕ) (bit : Bool) (size k : ℕ) → k < size → slice_index_or (pattern step bit size) k false ≡ (if k % step == 0 then bit else not bit)
get-pattern step bit size k inside =
    let long = length-replicate size (not bit) in
    get-with_every step (λ k. bit) (replicate size (not bit)) k false (omega (arith, long))
    ∙ ap (λ (b : Bool). if k % step == 0 then bit else b) (get_or-replicate size k (not bit) false inside)

-- a stretch of the list, combined with it
pattern-at : (step : ℕ) (bit : Bool) (op : BitOp) (list : List Bool) (from to size k : ℕ) → (bit ≡ true → op ≡ Or) → (bit ≡ false → op ≡ And) → from % step ≡ 0 → from ≤ to → to ≤ length list → to - from ≤ size → k < to - from
    → slice_index_or (slice_range (with_every step (λ k. bit) list) from to) k false ≡ operator op (slice_index_or (slice_range list from to) k false) (slice_index_or (slice_range (pattern step bit size) 0 (to - from)) k false)
pattern-at step bit op list from to size k sets clears zero order inside fits below =
    let place : 0 + k ≡ k = zero-add k in
    get-slice_range (with_every step (λ k. bit) list) from to k false (omega arith)
    ∙ get-with_every step (λ k. bit) list (from + k) false (omega arith)
    ∙ ap (λ r. if r == 0 then bit else slice_index_or list (from + k) false) (moved-phase from k step zero)
    ∙ sym (beside bit (k % step == 0) (slice_index_or list (from + k) false) op sets clears)
    ∙ ap (λ (b : Bool). operator op (slice_index_or list (from + k) false) b) (sym (get-slice_range (pattern step bit size) 0 (to - from) k false (omega arith) ∙ ap (λ i. slice_index_or (pattern step bit size) i false) place ∙ get-pattern step bit size k (omega arith)))
    ∙ ap (λ (b : Bool). operator op b (slice_index_or (slice_range (pattern step bit size) 0 (to - from)) k false)) (sym (get-slice_range list from to k false (omega arith)))

pattern-combined : (step : ℕ) (bit : Bool) (op : BitOp) (list : List Bool) (from to size : ℕ) → (bit ≡ true → op ≡ Or) → (bit ≡ false → op ≡ And) → from % step ≡ 0 → from ≤ to → to ≤ length list → to - from ≤ size
    → combined (operator op) (slice_range list from to) (slice_range (pattern step bit size) 0 (to - from)) ≡ slice_range (with_every step (λ k. bit) list) from to
pattern-combined step bit op list from to size sets clears zero order inside fits =
    let whole = length-with_every step (λ k. bit) list in
    let long = length-slice_range list from to inside in
    let made = length-slice_range (with_every step (λ k. bit) list) from to (omega (arith, whole)) in
    sym (combined-is (operator op) (slice_range list from to) (slice_range (pattern step bit size) 0 (to - from)) (slice_range (with_every step (λ k. bit) list) from to) (made ∙ sym long)
    (λ k below. pattern-at step bit op list from to size k sets clears zero order inside fits (omega (arith, long))))

-- ---- a block that has them

pub block-ready : (b : ℕ) (at : ℕ → ℕ → ℕ) (step : ℕ) (bit : Bool) (first second third : List ℕ) (room : Window) (size : ℕ) → IsWidth b → length first ≡ 513 → room.start < b → room.len ≡ size → size ≤ 512 * b
    → Writes b at first second room (replicate room.len (not bit)) → Writes b at second third room (with_every step (λ k. bit) (list_in b at second room))
    → HasWindow b third room × (list_in b at third room ≡ pattern step bit size)
block-ready b at step bit first second third room size width long start len most before after =
    let wide : b ≤ 128 = at_each_width (λ m. m ≤ 128) (omega arith) (omega arith) (omega arith) (omega arith) (omega arith) b width in
    let all : b * length first ≡ b * 513 = ap (λ (m : ℕ). b * m) long in
    let has : HasWindow b first room = record { fits = omega arith; within = record { start = omega arith; len = omega arith } } in
    let mid : HasWindow b second room = HasWindow-kept second has before.elements in (
      HasWindow-kept third mid after.elements,
      Writes-holds mid after
          ∙ ap (with_every step (λ k. bit)) (Writes-holds has before ∙ ap (λ n. replicate n (not bit)) len),
    )

-- ---- a block more

pub block-filled : (b : ℕ) (at : ℕ → ℕ → ℕ) (step : ℕ) (bit : Bool) (op : BitOp) (old mid new block : List ℕ) (window part room held : Window) (from next count size : ℕ) → (bit ≡ true → op ≡ Or) → (bit ≡ false → op ≡ And) → HasWindow b old window → HasWindow b block room → room.len ≡ size
    → from % step ≡ 0 → next ≡ from + count → next ≤ window.len → count ≤ size → part ≡ window_range window from next → held ≡ window_range room 0 count → list_in b at block room ≡ pattern step bit size
    → Writes b at old mid (until window from) (take from (with_every step (λ k. bit) (list_in b at old window))) → Writes b at mid new part (combined (operator op) (list_in b at mid part) (list_in b at block held))
    → Writes b at old new (until window next) (take next (with_every step (λ k. bit) (list_in b at old window)))
block-filled b at step bit op old mid new block window part room held from next count size sets clears has inside long zero end bound fits is held-is pattern-is before after =
    let list = list_in b at old window in
    let whole = length-list at has in
    let made = length-with_every step (λ k. bit) list in
    let left = stretch-old from next has (omega arith) bound before in
    let size-is : count ≡ next - from = omega arith in
    let other = ap (list_in b at block) held-is ∙ list-range at 0 count inside (omega arith) (omega arith) ∙ ap (λ (l : List Bool). slice_range l 0 count) pattern-is ∙ ap (λ n. slice_range (pattern step bit size) 0 n) size-is in
    let stored = ap (λ (l : List Bool). combined (operator op) l (list_in b at block held)) (ap (list_in b at mid) is ∙ left) ∙ ap (combined (operator op) (slice_range list from next)) other
    ∙ pattern-combined step bit op list from next size sets clears zero (omega arith) (omega (arith, whole)) (omega arith) in
    stretch-next new (with_every step (λ k. bit) list) from next has (omega arith) bound (made ∙ whole) stored before (subst (λ (p : Window). Writes b at mid new p (combined (operator op) (list_in b at mid part) (list_in b at block held))) is after)
