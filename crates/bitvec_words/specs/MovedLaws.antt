-- Fields moved within and between elements, and joined.
use Rattle.std.proofs.Math.Bool.{or-false, false-or}
use Rattle.std.specs.Prelude.{◌≡◌, ℕ, ◌+◌, ◌-◌, ◌*◌, ◌/◌, ◌%◌, ◌^◌, ◌<◌, ◌≤◌, ◌⊎◌, ◌==◌, ◌||◌, if◌then◌else◌, Bool, true, false, List, [], ◌++◌, length, take, replicate, slice_range, bit_and, bit_or}
use Rattle.std.specs.Int.{bit_at}
use Rattle.std.proofs.Common.{arith, rules, sym, ◌∙◌, ap, ⊎_elim, inl, inr}
use Rattle.std.proofs.lemmas.List.{same_lists, places}
use Rattle.std.proofs.lemmas.Nat.{and_mask, mod_below, pow_pos, shl_whole, shr_split}
use Rattle.std.proofs.lemmas.Nat.Bits.{ones_shr, bit_at-zero, bit_at_above, bit_at_cat_low, bit_at_cat_high}
use Rattle.std.proofs.Math.Pow.{pow_mono}
use Rattle.bitvec_base.specs.Lists.{combined}
use Rattle.bitvec_base.specs.ListsLaws.{combined-is}
use Rattle.bitvec_base.specs.Memory.{element_bits}
use Rattle.bitvec_base.specs.MemoryLaws.{get-element_bits, length-element_bits, masked_write}
use Rattle.bitvec_base.specs.PartLaws.{element-none}
use Rattle.bitvec_base.specs.ShiftLaws.{bit_at_shr}
use Rattle.bitvec_base.specs.Window.{write_at}
use Rattle.bitvec_base.specs.WriteLaws.{get-slice_range, length-slice_range, range-write_at}
use Rattle.bitvec_words.specs.ElementLaws.{element-or}
use Rattle.bitvec_words.specs.ShortWindow.{lowest_bit, padded}
use Rattle.bitvec_words.specs.OrderEnd.{RunsFrom}

-- ---- numbers

-- the bits of a number's `len` bits from `down` on, moved to `up`
cut-inside : (v down len up p : ℕ) → up ≤ p → p < len + up → bit_at (v / 2 ^ down % 2 ^ len * 2 ^ up) p ≡ bit_at v (p - up + down)
cut-inside v down len up p low high =
    grind (arith, bit_at_cat_high (v / 2 ^ down % 2 ^ len) up 0 p, pow_pos up, bit_at_cat_low (v / 2 ^ down / 2 ^ len) len (v / 2 ^ down % 2 ^ len) (p - up), shr_split (v / 2 ^ down) len, bit_at_shr v down (p - up))

cut-outside : (v down len up p : ℕ) → (p < up) ⊎ (len + up ≤ p) → bit_at (v / 2 ^ down % 2 ^ len * 2 ^ up) p ≡ 0
cut-outside v down len up p out =
    grind (arith, bit_at_cat_low (v / 2 ^ down % 2 ^ len) up 0 p, bit_at_cat_high (v / 2 ^ down % 2 ^ len) up 0 p, pow_pos up, bit_at-zero p, bit_at_above (v / 2 ^ down % 2 ^ len) len (p - up), mod_below (v / 2 ^ down) (2 ^ len), pow_pos len)

masked_field : (t v len : ℕ) → len ≤ t → bit_and v ((2 ^ t - 1) / 2 ^ (t - len)) ≡ v % 2 ^ len
masked_field t v len narrow =
    let back : t - (t - len) ≡ len = omega arith in
    ap (bit_and v) (ones_shr t (t - len) (omega arith) ∙ ap (λ (k : ℕ). 2 ^ k - 1) back) ∙ and_mask v len

-- the same as elements of t and u bits give it
pub cut-masked : (t u v down len up : ℕ) → len ≤ t → len + up ≤ u → bit_and (v / 2 ^ down) ((2 ^ t - 1) / 2 ^ (t - len)) * 2 ^ up % 2 ^ u ≡ v / 2 ^ down % 2 ^ len * 2 ^ up
cut-masked t u v down len up narrow fits =
    ap (λ (n : ℕ). n * 2 ^ up % 2 ^ u) (masked_field t (v / 2 ^ down) len narrow)
    ∙ shl_whole (v / 2 ^ down % 2 ^ len) len up u (mod_below (v / 2 ^ down) (2 ^ len) (pow_pos len)) fits

pub cut-fits : (t u v down len : ℕ) → len ≤ t → len ≤ u → bit_and (v / 2 ^ down) ((2 ^ t - 1) / 2 ^ (t - len)) < 2 ^ u
cut-fits t u v down len narrow fits =
    let most : 2 ^ len ≤ 2 ^ u = pow_mono fits in
    rw (masked_field t (v / 2 ^ down) len narrow) (omega (arith, mod_below (v / 2 ^ down) (2 ^ len) (pow_pos len)))

-- no bits are 0
cut-none : (v down up : ℕ) → 0 ≡ v / 2 ^ down % 2 ^ 0 * 2 ^ up
cut-none v down up = let none : v / 2 ^ down % 2 ^ 0 ≡ 0 = omega arith in rw none (omega arith)

-- ---- indices

-- the number of the bit at an index of an element of b bits
abbrev end_bit : Bool → ℕ → ℕ → ℕ
end_bit high b i = if high then b - 1 - i else i

-- those of a word end within the element
pub lowest_bit-fits : (high : Bool) (b from len : ℕ) → from + len ≤ b → len + lowest_bit high b from len ≤ b
lowest_bit-fits true b from len fits = omega arith
lowest_bit-fits false b from len fits = omega arith

field_place : (high : Bool) (b c from len to i : ℕ) → from + len ≤ b → to + len ≤ c → to ≤ i → i < to + len
    → (lowest_bit high c to len ≤ end_bit high c i) × (end_bit high c i < len + lowest_bit high c to len) × (end_bit high c i - lowest_bit high c to len + lowest_bit high b from len ≡ end_bit high b (from + (i - to)))
field_place true b c from len to i source target low above = (omega arith, omega arith, omega arith)
field_place false b c from len to i source target low above = (omega arith, omega arith, omega arith)

outside_place : (high : Bool) (c len to i : ℕ) → to + len ≤ c → i < c → (i < to) ⊎ (to + len ≤ i) → (end_bit high c i < lowest_bit high c to len) ⊎ (len + lowest_bit high c to len ≤ end_bit high c i)
outside_place true c len to i target below out = ⊎_elim (λ before. inr (omega arith)) (λ after. inl (omega arith)) out
outside_place false c len to i target below out = ⊎_elim (λ before. inl (omega arith)) (λ after. inr (omega arith)) out

-- ---- elements

-- a word moved to another element
pub word-element : (high : Bool) (at : ℕ → ℕ → ℕ) → ((b : ℕ) → RunsFrom high b at) → (b c v from len to : ℕ) → from + len ≤ b → to + len ≤ c
    → element_bits c at (v / 2 ^ lowest_bit high b from len % 2 ^ len * 2 ^ lowest_bit high c to len) ≡ write_at (replicate c false) to (slice_range (element_bits b at v) from (from + len))
word-element high at ends b c v from len to source target =
    let down = lowest_bit high b from len in
    let up = lowest_bit high c to len in
    let cut = v / 2 ^ down % 2 ^ len * 2 ^ up in
    let new = slice_range (element_bits b at v) from (from + len) in
    let wide = length-element_bits b at v in
    let long = length-slice_range (element_bits b at v) from (from + len) (omega arith) in
    masked_write c at 0 cut to (to + len) new (omega arith) target (omega arith)
    (λ i low high-end d.
    let place = field_place high b c from len to i source target low high-end in
    ap (λ (n : ℕ). n == 1)
    (ap (bit_at cut) (ends c i (omega arith))
    ∙ cut-inside v down len up (end_bit high c i) place.0 place.1
    ∙ ap (bit_at v) (place.2 ∙ sym (ends b (from + (i - to)) (omega arith))))
    ∙ sym (get-slice_range (element_bits b at v) from (from + len) (i - to) d (omega arith) ∙ get-element_bits b at v (from + (i - to)) d (omega arith)))
    (λ i below out.
    ap (bit_at cut) (ends c i below)
    ∙ cut-outside v down len up (end_bit high c i) (outside_place high c len to i target below out)
    ∙ sym (bit_at-zero (at c i)))
    ∙ ap (λ l. write_at l to new) (element-none c at)

-- a word of no bits
pub word-none : (high : Bool) (at : ℕ → ℕ → ℕ) → ((b : ℕ) → RunsFrom high b at) → (b c v from len to : ℕ) → len ≡ 0 → from + len ≤ b → to + len ≤ c
    → element_bits c at 0 ≡ write_at (replicate c false) to (slice_range (element_bits b at v) from (from + len))
word-none high at ends b c v from len to none source target =
    rw none
    (ap (element_bits c at) (cut-none v (lowest_bit high b from 0) (lowest_bit high c to 0)) ∙ word-element high at ends b c v from 0 to (omega arith) (omega arith))

-- ---- lists with zeros behind them

pub padded-none : (b : ℕ) → replicate b false ≡ padded b []
unfolding padded
padded-none b = ap (λ (n : ℕ). replicate n false) (let none : b ≡ b - 0 = omega arith in none)

pub take-padded : (b n : ℕ) (list : List Bool) → n ≡ length list → take n (padded b list) ≡ list
unfolding padded
take-padded b n list long = same_lists _ _ (search (rules, places)) (λ k d inside. grind (arith, places))

-- what a word's first bits are
pub take-word : (b : ℕ) {n : ℕ} {bits : List Bool} (list : List Bool) → bits ≡ padded b list → n ≡ length list → take n bits ≡ list
take-word b {n} list word long = ap (take n) word ∙ take-padded b n list long

pub length-padded : (b : ℕ) (list : List Bool) → length list ≤ b → length (padded b list) ≡ b
unfolding padded
length-padded b list fits = search (rules, places)

-- a list moved to the start of zeros
pub written-padded : (b : ℕ) (list : List Bool) → length list ≤ b → write_at (replicate b false) 0 list ≡ padded b list
unfolding write_at padded
written-padded b list fits = same_lists _ _ (search (rules, places)) (λ k d inside. grind (arith, places))

-- zeros but for a list behind another, taken together with that
padded-joined : (b n : ℕ) (list part : List Bool) → n ≡ length list → n + length part ≤ b → combined ◌||◌ (padded b list) (write_at (replicate b false) n part) ≡ padded b (list ++ part)
unfolding padded write_at
padded-joined b n list part long fits =
    sym (combined-is ◌||◌ _ _ (padded b (list ++ part)) (search (rules, places)) (λ k inside. grind (arith, places, or-false, false-or)))

-- the bits of one element, and behind them those of another
pub element-joined : (b : ℕ) (at : ℕ → ℕ → ℕ) (v w n : ℕ) (list part : List Bool) → n ≡ length list → n + length part ≤ b
    → element_bits b at v ≡ padded b list → element_bits b at w ≡ write_at (replicate b false) n part → element_bits b at (bit_or v w) ≡ padded b (list ++ part)
element-joined b at v w n list part long fits left right =
    element-or b at v w
    ∙ ap (λ l. combined ◌||◌ l (element_bits b at w)) left
    ∙ ap (combined ◌||◌ (padded b list)) right
    ∙ padded-joined b n list part long fits

-- what was put into an element at a place stands there
pub word-there : {b : ℕ} (from to : ℕ) (old : List Bool) {new : List Bool} → length old ≡ b → to ≤ b → length new ≡ to - from → from ≤ to → slice_range (write_at old from new) from to ≡ new
word-there from to old {new} whole bound long order =
    ap (λ (e : ℕ). slice_range (write_at old from new) from e) (let end : to ≡ from + length new = omega arith in end) ∙ range-write_at old from new (omega arith)

-- the first n values, and those from there on
pub take-range : {X : Type 0} (list : List X) (n m e : ℕ) → n ≤ m → m ≤ length list → e ≡ m → take n list ++ slice_range list n m ≡ take e list
take-range list n m e order bound same = same_lists _ _ (search (rules, places)) (λ k d inside. grind (arith, places))
