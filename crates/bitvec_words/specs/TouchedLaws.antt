-- The elements that windows side by side touch.
use Rattle.std.proofs.Math.Nat.{add-mul-mod_self_right, add-mul, mul-add-div_right, mul-mod_left, mul-le-mul_left}
use Rattle.std.proofs.lemmas.Bool.Decides.{nat_tests}
use Rattle.std.specs.Prelude.{◌≡◌, ◌≢◌, ℕ, zero, suc, min, ◌+◌, ◌-◌, ◌*◌, ◌/◌, ◌%◌, ◌<◌, ◌≤◌, List, length, refl}
use Rattle.std.proofs.Common.{arith, ap}
use Rattle.std.proofs.lemmas.Nat.{div-mul-add, div-add-mod', mod_below, mod-mul-add}
use Rattle.bitvec_base.specs.declared.part.Part.{Part}
use Rattle.bitvec_cells.specs.Cost.{part_loads, touched_count}
use Rattle.bitvec_cells.specs.WalkLaws.{div-order, touched-none, touched-some}
use Rattle.bitvec_base.specs.Memory.{HasWindow}
use Rattle.bitvec_base.specs.declared.window.Window.{Window}
use Rattle.bitvec_store.specs.Width.{IsWidth}
use Rattle.bitvec_store.specs.WidthLaws.{at_each_width, width_some}
use Rattle.bitvec_words.specs.FieldLaws.{element_of}

-- a window touches an element
pub touched-first : (b s n : ℕ) → 0 < n → touched_count b s n ≡ 1 + (touched_count b s n - 1)
unfolding touched_count
touched-first b s n more = grind (arith, nat_tests)

pub part_loads-most : (b : ℕ) (part : Part) → part_loads b part ≤ 1
part_loads-most b part = grind (arith, nat_tests)

-- no places
pub touched-empty : (b s n : ℕ) → n ≡ 0 → touched_count b s n ≡ 0
unfolding touched_count
touched-empty b s n none = grind (arith, nat_tests)

-- the place before an edge, and a place of the element that has s
before_edge : (b m : ℕ) → 0 < b → m % b ≡ 0 → 0 < m → (m - 1) / b + 1 ≡ m / b
before_edge b m some edge more = grind arith

same_element : (b s m : ℕ) → 0 < b → s ≤ m → m + s % b < s + b → m / b ≡ s / b
same_element b s m some low high = grind arith

-- whole elements
whole_quotient : (b q : ℕ) → 0 < b → q * b / b ≡ q
whole_quotient b q some = grind (arith, div-mul-add q b 0)

-- a place behind two others, however the sum is put together
behind_place : (b s t n : ℕ) → (s + (t + n) - 1) / b ≡ (s + t + n - 1) / b
behind_place b s t n = ap (λ (m : ℕ). (m - 1) / b) (omega arith)

-- side by side at an edge of elements
pub touched-edge : (b s t n : ℕ) → 0 < b → (s + t) % b ≡ 0 → touched_count b s (t + n) ≡ touched_count b s t + touched_count b (s + t) n
unfolding touched_count
touched-edge b s t n some edge =
    grind (arith, nat_tests, before_edge b (s + t), div-order b s (s + t - 1), div-order b (s + t) (s + t + n - 1), behind_place b s t n)

-- the place before one inside an element
pub inside_element : (b s t : ℕ) → 0 < b → 0 < (s + t) % b → (s + t - 1) / b ≡ (s + t) / b
inside_element b s t some inside = grind arith

-- side by side within an element, which both touch
pub touched-inside : (b s t n : ℕ) → 0 < b → 0 < t → 0 < (s + t) % b → touched_count b s (t + n) ≡ touched_count b s t + (touched_count b (s + t) n - 1)
unfolding touched_count
touched-inside b s t n some more inside =
    grind (arith, nat_tests, inside_element b s t, div-order b s (s + t - 1), div-order b (s + t) (s + t + n - 1), behind_place b s t n)

-- within one element
pub touched-one : (b s n : ℕ) → 0 < b → 0 < n → s % b + n ≤ b → touched_count b s n ≡ 1
unfolding touched_count
touched-one b s n some more fits = grind (arith, nat_tests, same_element b s (s + n - 1))

-- of two elements
pub touched-two : (b s n : ℕ) → 0 < b → n ≤ b → b < s % b + n → touched_count b s n ≡ 2
unfolding touched_count
touched-two b s n some fits over = grind (arith, nat_tests)

-- whole elements, and as many bits from an index on
pub touched-whole : (b e count : ℕ) → 0 < b → touched_count b (e * b) (count * b) ≡ count
unfolding touched_count
touched-whole b e count some =
    grind (arith, nat_tests, add-mul e count b, before_edge b ((e + count) * b), mul-mod_left (e + count) b, whole_quotient b (e + count), whole_quotient b e, mul-le-mul_left {m = 1} {n = count} b)

pub touched-from : (b e skip count : ℕ) → 0 < skip → skip < b → touched_count b (e * b + skip) (count * b) - 1 ≡ count
unfolding touched_count
touched-from b e skip count some below =
    grind (arith, nat_tests, add-mul e count b, div-mul-add (e + count) b (skip - 1), div-mul-add e b skip, mul-le-mul_left {m = 1} {n = count} b)

-- ---- a window that begins where an element does, or doesn't, by its whole elements and what is left

pub touched-full : (b s n : ℕ) → 0 < b → s % b ≡ 0 → n % b ≡ 0 → touched_count b s n ≡ n / b
touched-full b s n some edge full = grind (arith, touched-whole b (s / b) (n / b), div-add-mod' s b, div-add-mod' n b)

pub touched-more : (b s n : ℕ) → 0 < b → s % b ≡ 0 → 0 < n % b → touched_count b s n ≡ n / b + 1
touched-more b s n some edge left =
    grind (arith, touched-edge b s (n / b * b) (n % b), touched-full b s (n / b * b), touched-one b (s + n / b * b) (n % b), add-mul-mod_self_right s (n / b) b, touched-whole b (s / b) (n / b), div-add-mod' s b, div-add-mod' n b, mod_below n b)

-- the elements of a word
-- how many elements a window touches, by the index of its first bit in the first of them
pub touched-last : (b s n : ℕ) → 0 < b → 0 < n → touched_count b s n ≡ (s % b + n - 1) / b + 1
touched-last b s zero some more = absurd (omega arith)
touched-last b s (suc n) some more =
    let place = div-add-mod' s b in
    let last : s / b * b + (s % b + suc n - 1) ≡ s + n = omega arith in
    let sum = ap (λ (m : ℕ). m / b) last in
    let parts = mul-add-div_right some (s / b) (s % b + suc n - 1) in
    let all = touched-some b s n in
    omega arith

pub touched-word : (b s : ℕ) → IsWidth b → b ≤ 64 → s % b ≡ 0 → touched_count b s 64 ≡ 64 / b
touched-word b s width narrow edge =
    touched-full b s 64 (width_some b width) edge
    (at_each_width (λ n. n ≤ 64 → 64 % n ≡ 0) (λ _. refl) (λ _. refl) (λ _. refl) (λ _. refl) (λ few. absurd (omega arith)) b width narrow)

pub touched-from_full : (b s n : ℕ) → 0 < b → 0 < s % b → n % b ≡ 0 → touched_count b s n - 1 ≡ n / b
touched-from_full b s n some inside full = grind (arith, touched-from b (s / b) (s % b) (n / b), div-add-mod' s b, div-add-mod' n b, mod_below s b)

-- a word that begins inside an element touches one element more
pub touched-word_across : (b s : ℕ) → IsWidth b → b ≤ 64 → 0 < s % b → touched_count b s 64 ≡ 64 / b + 1
touched-word_across b s width narrow inside =
    let some = width_some b width in
    let full = at_each_width (λ n. n ≤ 64 → 64 % n ≡ 0) (λ _. refl) (λ _. refl) (λ _. refl) (λ _. refl) (λ few. absurd (omega arith)) b width narrow in
    let rest = touched-from_full b s 64 some inside full in
    let one = touched-first b s 64 (omega arith) in
    omega arith

pub touched-from_more : (b s n : ℕ) → 0 < b → 0 < s % b → 0 < n % b → touched_count b s n - 1 ≡ n / b + (touched_count b (s + n / b * b) (n % b) - 1)
touched-from_more b s n some inside left =
    grind (arith, touched-inside b s (n / b * b) (n % b), touched-from b (s / b) (s % b) (n / b), touched-first b s (n / b * b), touched-none b s, add-mul-mod_self_right s (n / b) b, div-add-mod' s b, div-add-mod' n b, mod_below s b)

-- by some of its whole elements, and what is left
pub touched-after : (b s n count : ℕ) → 0 < b → s % b ≡ 0 → count * b ≤ n → touched_count b s n ≡ count + touched_count b (s + count * b) (n - count * b)
touched-after b s n count some edge fits =
    grind (arith, touched-edge b s (count * b) (n - count * b), touched-whole b (s / b) count, add-mul-mod_self_right s count b, div-add-mod' s b)

-- ---- a window by the part of its first element, of t places, and what is left

-- where something is left, the part ends where an element does
pub head_edge : (b s t n : ℕ) → 0 < b → t ≡ min n (b - s % b) → t ≢ n → (s + t) % b ≡ 0
head_edge b s t n some part left = grind arith

pub touched-head : (b s t n : ℕ) → 0 < b → 0 < n → t ≡ min n (b - s % b) → touched_count b s t ≡ 1
touched-head b s t n some more part =
    touched-one b s t some (omega arith) (omega arith)

pub touched-rest : (b s t n : ℕ) → 0 < b → 0 < n → t ≡ min n (b - s % b) → t ≢ n → touched_count b s n ≡ 1 + touched_count b (s + t) (n - t)
touched-rest b s t n some more part left = grind (arith, touched-edge b s t (n - t), head_edge b s t n, touched-head b s t n)

-- whether something is left or not
pub touched-parts : (b s t n : ℕ) → 0 < b → 0 < n → t ≡ min n (b - s % b) → touched_count b s n ≡ 1 + touched_count b (s + t) (n - t)
touched-parts b s t n some more part = grind (arith, touched-rest b s t n, touched-head b s t n, touched-none b (s + t))

-- a window that begins at another index doesn't reach an edge then
pub apart_edge : (b s other t n : ℕ) → 0 < b → t ≡ min n (b - s % b) → t ≢ n → s % b ≢ other % b → 0 < (other + t) % b
apart_edge b s other t n some part left apart =
    grind (arith, mod-mul-add (other / b + 1) b (other % b - s % b), mod-mul-add (other / b) b (other % b + t), div-add-mod' other b, add-mul (other / b) 1 b)

-- ---- the last element that a window touches: the first, or the next

pub last-first : (b s n : ℕ) → 0 < b → 0 < n → s % b + n ≤ b → (s + n - 1) / b ≡ s / b
last-first b s n some more fits = grind arith

pub last-next : (b s n : ℕ) → 0 < b → n ≤ b → b < s % b + n → (s + n - 1) / b ≡ s / b + 1
last-next b s n some fits over = grind arith

pub next-inside : (b : ℕ) (xs : List ℕ) (window : Window) → HasWindow b xs window → b < window.start % b + window.len → window.start / b + 1 < length xs
next-inside b xs window has over =
    let start = has.within.start in
    element_of b (window.start / b + 1) 0 (length xs) (omega arith)
