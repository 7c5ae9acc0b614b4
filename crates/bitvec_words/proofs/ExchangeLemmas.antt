-- How each exchange of blocks reverses an element further, and what it is when blocks of one bit are exchanged.
use Rattle.std.specs.Prelude.{◌≡◌, ℕ, ◌+◌, ◌-◌, ◌*◌, ◌/◌, ◌%◌, ◌^◌, ◌<◌, ◌≤◌, zero, suc, bit_and, Bool, reverse, refl}
use Rattle.std.specs.Int.{bit_at}
use Rattle.std.proofs.Common.{arith, sym, ◌∙◌, ap, subst}
use Rattle.std.proofs.Math.Nat.{pow-suc}
use Rattle.std.proofs.lemmas.List.{same_lists, get_or-reverse, length-reverse}
use Rattle.std.proofs.lemmas.Nat.{mul-add-lt, pow_pos}
use Rattle.std.proofs.lemmas.Nat.Bits.{bit_at_and, bit_at_or, bit_at_xor, bit_at-lt, bit_at_ones}
use Rattle.bitvec_base.specs.Memory.{element_bits}
use Rattle.bitvec_base.specs.MemoryLaws.{length-element_bits, get-element_bits}
use Rattle.bitvec_base.specs.ShiftLaws.{bit_at_shl, bit_at_shl_left, bit_at_shr}
use Rattle.bitvec_store.specs.Width.{IsWidth}
use Rattle.bitvec_store.specs.WidthLaws.{at_each_width}
use Rattle.bitvec_words.specs.OrderEnd.{RunsFrom}
use Rattle.bitvec_words.specs.Exchanged.{exchanged_bits, halved_blocks, HasLower, HasReversed, ReversesBlocks}

-- what holds of the even numbers and of the odd ones
by_parity : (P : ℕ → Type 0) → ((a : ℕ) → P (2 * a)) → ((a : ℕ) → P (2 * a + 1)) → (k : ℕ) → P k
by_parity P even odd k = grind (arith, even (k / 2), odd (k / 2))

-- a place in a block lies in the element
inside : (b half n k t : ℕ) → b ≡ n * (2 * half) → k < 2 * n → t < half → k * half + t < b
inside b half n k t whole h low = omega (arith, mul-add-lt k half t (2 * n) h low)

-- the same place, by the blocks that are twice as long
in_first : (a half t : ℕ) → 2 * a * half + t ≡ a * (2 * half) + t
in_first a half t = omega arith

in_second : (a half t : ℕ) → (2 * a + 1) * half + t ≡ a * (2 * half) + (half + t)
in_second a half t = omega arith

-- ---- the blocks that are exchanged with those above them

halved_low : (b half lower p : ℕ) → p < b → p < half → bit_at (halved_blocks b half lower) p ≡ bit_at lower p
unfolding halved_blocks
halved_low b half lower p h low = grind (arith, bit_at_xor, bit_at_shl_left b lower half p h low, bit_at-lt lower p)

halved_high : (b half lower i : ℕ) → i + half < b → bit_at (halved_blocks b half lower) (i + half) ≡ (bit_at lower (i + half) + bit_at lower i) % 2
unfolding halved_blocks
halved_high b half lower i h = grind (arith, bit_at_xor, bit_at_shl b lower half i h)

lower_even : (b half n lower : ℕ) → b ≡ n * (2 * half) → HasLower n (2 * half) lower → (t : ℕ) → t < half → (a : ℕ) → 2 * a < 2 * n → bit_at (halved_blocks b half lower) (2 * a * half + t) ≡ 1 - 2 * a % 2
lower_even b half n lower whole has t low zero h =
    let fits = inside b half n 0 t whole (omega arith) low in
    ap (bit_at (halved_blocks b half lower)) (let e : 2 * 0 * half + t ≡ 0 * (2 * half) + t = omega arith in e)
    ∙ halved_low b half lower (0 * (2 * half) + t) (omega arith) (omega arith) ∙ has 0 t (omega arith) (omega arith)
lower_even b half n lower whole has t low (suc a) h =
    let fits = inside b half n (2 * suc a) t whole h low in
    let i : ℕ = (2 * a + 1) * half + t in
    let next : 2 * suc a * half + t ≡ i + half = omega arith in
    let here : bit_at lower (i + half) ≡ 1 - suc a % 2 = ap (bit_at lower) (sym next ∙ in_first (suc a) half t) ∙ has (suc a) t (omega arith) (omega arith) in
    let before : bit_at lower i ≡ 1 - a % 2 = ap (bit_at lower) (in_second a half t) ∙ has a (half + t) (omega arith) (omega arith) in
    let bit = halved_high b half lower i (omega arith) in
    ap (bit_at (halved_blocks b half lower)) next ∙ bit ∙ omega arith

lower_odd : (b half n lower : ℕ) → b ≡ n * (2 * half) → HasLower n (2 * half) lower → (t : ℕ) → t < half → (a : ℕ) → 2 * a + 1 < 2 * n → bit_at (halved_blocks b half lower) ((2 * a + 1) * half + t) ≡ 1 - (2 * a + 1) % 2
lower_odd b half n lower whole has t low a h =
    let fits = inside b half n (2 * a + 1) t whole h low in
    grind (arith, halved_high b half lower (2 * a * half + t), has a (half + t), has a t)

lower_halved : (b half n lower : ℕ) → b ≡ n * (2 * half) → HasLower n (2 * half) lower → HasLower (2 * n) half (halved_blocks b half lower)
lower_halved b half n lower whole has k t h low =
    by_parity (λ (i : ℕ). i < 2 * n → bit_at (halved_blocks b half lower) (i * half + t) ≡ 1 - i % 2)
    (lower_even b half n lower whole has t low) (lower_odd b half n lower whole has t low) k h

-- ---- the exchange

exchanged_lower : (b half lower v p : ℕ) → p < b → bit_at lower p ≡ 1 → ((i : ℕ) → p ≡ i + half → bit_at lower i ≡ 0) → bit_at (exchanged_bits b half lower v) p ≡ bit_at v (p + half)
unfolding exchanged_bits
exchanged_lower b half lower v p h here below =
    grind (arith, bit_at_or, bit_at_and, bit_at_shr v half p, bit_at-lt v (p + half), bit_at_shl_left b (bit_and v lower) half p h, bit_at_shl b (bit_and v lower) half (p - half), below (p - half))

exchanged_upper : (b half lower v i : ℕ) → i + half < b → bit_at lower (i + half) ≡ 0 → bit_at lower i ≡ 1 → bit_at (exchanged_bits b half lower v) (i + half) ≡ bit_at v i
unfolding exchanged_bits
exchanged_upper b half lower v i h here below = grind (arith, bit_at_or, bit_at_and, bit_at_shl b (bit_and v lower) half i h, bit_at-lt v i)

-- no block stands below the first one, and none that is exchanged below another
none_below : (half n lower : ℕ) → HasLower (2 * n) half lower → (t : ℕ) → t < half → (a : ℕ) → 2 * a < 2 * n → (i : ℕ) → 2 * a * half + t ≡ i + half → bit_at lower i ≡ 0
none_below half n lower has t low a h i place = grind (arith, has (2 * a - 1) t)

reversed_even : (b half n lower now before : ℕ) → b ≡ n * (2 * half) → HasLower (2 * n) half lower → HasReversed n (2 * half) now before → (t : ℕ) → t < half → (a : ℕ) → 2 * a < 2 * n → bit_at (exchanged_bits b half lower now) (2 * a * half + t) ≡ bit_at before ((2 * n - 1 - 2 * a) * half + t)
reversed_even b half n lower now before whole has other_way t low a h =
    let above : 2 * a * half + t + half ≡ (2 * a + 1) * half + t = omega arith in
    let other : 2 * (n - 1 - a) + 1 ≡ 2 * n - 1 - 2 * a = omega arith in
    exchanged_lower b half lower now (2 * a * half + t) (inside b half n (2 * a) t whole h low) (has (2 * a) t h low ∙ omega arith) (none_below half n lower has t low a h)
    ∙ ap (bit_at now) (above ∙ in_second a half t)
    ∙ other_way a (half + t) (omega arith) (omega arith)
    ∙ ap (bit_at before) (sym (in_second (n - 1 - a) half t) ∙ ap (λ (m : ℕ). m * half + t) other)

reversed_odd : (b half n lower now before : ℕ) → b ≡ n * (2 * half) → HasLower (2 * n) half lower → HasReversed n (2 * half) now before → (t : ℕ) → t < half → (a : ℕ) → 2 * a + 1 < 2 * n → bit_at (exchanged_bits b half lower now) ((2 * a + 1) * half + t) ≡ bit_at before ((2 * n - 1 - (2 * a + 1)) * half + t)
reversed_odd b half n lower now before whole has other_way t low a h =
    let i : ℕ = 2 * a * half + t in
    let place : (2 * a + 1) * half + t ≡ i + half = omega arith in
    let fits = inside b half n (2 * a + 1) t whole h low in
    let other : 2 * (n - 1 - a) ≡ 2 * n - 1 - (2 * a + 1) = omega arith in
    ap (bit_at (exchanged_bits b half lower now)) place
    ∙ exchanged_upper b half lower now i (omega arith) (ap (bit_at lower) (sym place) ∙ has (2 * a + 1) t h low ∙ omega arith) (has (2 * a) t (omega arith) low ∙ omega arith)
    ∙ ap (bit_at now) (in_first a half t)
    ∙ other_way a t (omega arith) (omega arith)
    ∙ ap (bit_at before) (sym (in_first (n - 1 - a) half t) ∙ ap (λ (m : ℕ). m * half + t) other)

reversed_halved : (b half n lower now before : ℕ) → b ≡ n * (2 * half) → HasLower (2 * n) half lower → HasReversed n (2 * half) now before → HasReversed (2 * n) half (exchanged_bits b half lower now) before
reversed_halved b half n lower now before whole has other_way k t h low =
    by_parity (λ (i : ℕ). i < 2 * n → bit_at (exchanged_bits b half lower now) (i * half + t) ≡ bit_at before ((2 * n - 1 - i) * half + t))
    (reversed_even b half n lower now before whole has other_way t low) (reversed_odd b half n lower now before whole has other_way t low) k h

-- ---- the reversal

-- a width is a power of two
width_power : (b : ℕ) → IsWidth b → (j : ℕ) × (b ≡ 2 ^ j)
width_power b w = at_each_width (λ n. (j : ℕ) × (n ≡ 2 ^ j)) (3, refl) (4, refl) (5, refl) (6, refl) (7, refl) b w

-- one block is in the reverse order
pub ReversesBlocks-start : (b : ℕ) {v all : ℕ} → IsWidth b → all ≡ 2 ^ b - 1 → ReversesBlocks b b all v v
ReversesBlocks-start b {v} {all} w is =
    let power = width_power b w in
    record {
      halvings = power.0;
      power = power.1;
      fits = omega arith;
      blocks = 1;
      whole = omega arith;
      has_lower = λ a t h low.
          let first : a ≡ 0 = omega arith in
          let place : a * b + t ≡ t = rw first (omega arith) in
          ap (bit_at all) place ∙ ap (λ (n : ℕ). bit_at n t) is ∙ bit_at_ones b t low ∙ rw first refl;
      has_reversed = λ a t h low.
          let first : a ≡ 0 = omega arith in
          rw first refl;
    }

-- a power of two above 1 is twice another
halves : (size j : ℕ) → size ≡ 2 ^ j → 1 < size → (i : ℕ) × (size ≡ 2 * 2 ^ i)
halves size zero power some = absurd (omega arith)
halves size (suc i) power some = (i, power ∙ pow-suc 2 i ∙ omega arith)

next : (b half i n lower now before : ℕ) → half ≡ 2 ^ i → 2 * half ≤ b → b ≡ n * (2 * half) → HasLower n (2 * half) lower → HasReversed n (2 * half) now before
    → ReversesBlocks b half (halved_blocks b half lower) (exchanged_bits b half (halved_blocks b half lower) now) before
next b half i n lower now before power fits whole has other_way =
    let halved = lower_halved b half n lower whole has in
    record {
      halvings = i;
      power = power;
      fits = omega arith;
      blocks = 2 * n;
      whole = omega arith;
      has_lower = halved;
      has_reversed = reversed_halved b half n (halved_blocks b half lower) now before whole halved other_way;
    }

-- the halves of each block exchanged
pub ReversesBlocks-next : {b size : ℕ} (half : ℕ) {lower now before : ℕ} → ReversesBlocks b size lower now before → 1 < size → half ≡ size / 2
    → ReversesBlocks b half (halved_blocks b half lower) (exchanged_bits b half (halved_blocks b half lower) now) before
ReversesBlocks-next {b} {size} half {lower} {now} {before} exchange some is =
    let found = halves size exchange.halvings exchange.power some in
    let same : half ≡ 2 ^ found.0 = let e = found.1 in omega arith in
    let twice : size ≡ 2 * half = let e = found.1 in omega arith in
    let n = exchange.blocks in
    next b half found.0 n lower now before same (omega arith)
    (exchange.whole ∙ ap (λ (s : ℕ). n * s) twice)
    (subst (λ (s : ℕ). HasLower n s lower) twice exchange.has_lower)
    (subst (λ (s : ℕ). HasReversed n s now before) twice exchange.has_reversed)

-- blocks of one bit in the reverse order
reversed_bits : {b size lower now before : ℕ} → ReversesBlocks b size lower now before → size ≤ 1 → (p : ℕ) → p < b → bit_at now p ≡ bit_at before (b - 1 - p)
reversed_bits {b} {size} {lower} {now} {before} exchange last p h =
    let some = pow_pos exchange.halvings in
    let one : size ≡ 1 = omega arith in
    let n = exchange.blocks in
    let whole : b ≡ n = exchange.whole ∙ rw one (omega arith) in
    let other_way = subst (λ (s : ℕ). HasReversed n s now before) one exchange.has_reversed in
    ap (bit_at now) (let e : p ≡ p * 1 + 0 = omega arith in e) ∙ other_way p 0 (omega arith) (omega arith)
    ∙ ap (bit_at before) (let e : (n - 1 - p) * 1 + 0 ≡ b - 1 - p = omega arith in e)

-- an order that runs through the element: the index k from the end is the bit k from the other end
mirrored : (high : Bool) (b : ℕ) (at : ℕ → ℕ → ℕ) → RunsFrom high b at → (k : ℕ) → k < b → b - 1 - at b k ≡ at b (b - 1 - k)
mirrored high b at runs k h = grind (arith, runs k, runs (b - 1 - k))

in_element : (high : Bool) (b : ℕ) (at : ℕ → ℕ → ℕ) → RunsFrom high b at → (k : ℕ) → k < b → at b k < b
in_element high b at runs k h = grind (arith, runs k)

pub ReversesBlocks-end : (high : Bool) (b : ℕ) (at : ℕ → ℕ → ℕ) → RunsFrom high b at → (size lower now before : ℕ) → ReversesBlocks b size lower now before → size ≤ 1 → element_bits b at now ≡ reverse (element_bits b at before)
ReversesBlocks-end high b at runs size lower now before exchange last =
    same_lists _ _ (grind (arith, length-element_bits, length-reverse)) (λ k d inside. grind (arith, length-element_bits, get-element_bits, length-reverse, get_or-reverse, in_element high b at runs k, mirrored high b at runs k, reversed_bits exchange last (at b k)))
