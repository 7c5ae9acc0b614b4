-- What goes bit by bit, or element by element, stays within the bounds on steps.
use Rattle.std.specs.Prelude.{◌≡◌, ℕ, ◌+◌, ◌-◌, ◌*◌, ◌/◌, ◌<◌, ◌≤◌, ◌==◌, if◌then◌else◌, Bool, true, false, zero, suc}
use Rattle.std.proofs.Common.{arith}
use Rattle.std.proofs.Math.Nat.{mul-le-mul_left, mul_assoc}
use Rattle.std.proofs.lemmas.Nat.{div-add-mod', div_below, mod_below}
use Rattle.bitvec_cells.specs.Cost.{touched_count, fill_loads, work_steps, step_span, read_loads, write_loads, write_stores, reverse_loads, reverse_stores}
use Rattle.bitvec_cells.specs.WalkLaws.{touched-none, touched-some}

-- ---- bit by bit

work_steps-one : (n : ℕ) → work_steps false n ≡ n
unfolding work_steps
work_steps-one n = omega arith

step_span-some : (b : ℕ) → 1 ≤ step_span b false
unfolding step_span
step_span-some b = omega arith

-- One load for each bit stays within `read_loads` of work that goes bit by bit.
pub read_enough : (b n : ℕ) → n ≤ read_loads b false n
unfolding read_loads
read_enough b n =
    let steps = work_steps-one n in
    let some = step_span-some b in
    rw steps (omega (arith, mul-le-mul_left n some))

-- Two loads for each bit stay within `write_loads` of work that goes bit by bit.
pub write_enough : (b n : ℕ) → 2 * n ≤ write_loads b false n
unfolding write_loads
write_enough b n = let steps = work_steps-one n in rw steps (omega arith)

-- One store for each bit stays within `write_stores` of work that goes bit by bit.
pub store_enough : (b n : ℕ) → n ≤ write_stores b false n
unfolding write_stores
store_enough b n =
    let steps = work_steps-one n in
    let some = step_span-some b in
    rw steps (omega (arith, mul-le-mul_left n some))

-- Two loads for each bit stay within `reverse_loads` of work that goes bit by bit.
pub reverse_enough : (b n : ℕ) → 2 * n ≤ reverse_loads b false n
unfolding reverse_loads
reverse_enough b n = omega arith

-- One store for each bit stays within `reverse_stores` of work that goes bit by bit.
pub reverse_store_enough : (b n : ℕ) → n ≤ reverse_stores b false n
unfolding reverse_stores
reverse_store_enough b n = omega arith

-- The laws by which work that goes bit by bit stays within its bounds, for `using`.
pub ruleset enough = (read_enough, write_enough, store_enough, reverse_enough, reverse_store_enough)

-- ---- each touched element once

-- the quotient of a sum
pub div-sum : (b m n : ℕ) → 0 < b → (m + n) / b ≤ m / b + (n + b - 1) / b
div-sum b m n some =
    let first = div-add-mod' m b in
    let first-rest = mod_below m b some in
    let second = div-add-mod' (n + b - 1) b in
    let second-rest = mod_below (n + b - 1) b some in
    let below = div_below (m + n) b (m / b + (n + b - 1) / b + 1) some (omega arith) in
    omega arith

-- q steps of 64 bits begin in at most so many elements, beside the first
begun : (b q m : ℕ) → 0 < b → m < 64 * q → (m + b - 1) / b ≤ q * ((64 + b - 1) / b)
begun b q m some below =
    let c : ℕ = (64 + b - 1) / b in
    let place = div-add-mod' (64 + b - 1) b in
    let rest = mod_below (64 + b - 1) b some in
    let step : 64 ≤ c * b = omega arith in
    let steps : q * 64 ≤ q * (c * b) = mul-le-mul_left q step in
    let same : q * c * b ≡ q * (c * b) = mul_assoc q c b in
    let under = div_below (m + b - 1) b (q * c + 1) some (omega arith) in
    omega arith

in_words : (b s n : ℕ) → 0 < b → touched_count b s n ≤ work_steps true n * step_span b true
unfolding work_steps step_span
in_words b s zero some = let none = touched-none b s in omega arith
in_words b s (suc m) some =
    let q : ℕ = (suc m + 63) / 64 in
    let more = touched-some b s m in
    let sum = div-sum b s m some in
    let begin = begun b q m some (omega arith) in
    let each : q * ((64 + b - 1) / b + 1) ≡ q * ((64 + b - 1) / b) + q = omega arith in
    omega arith

-- no more elements than bits
pub touched_bits : (b s n : ℕ) → 0 < b → touched_count b s n ≤ n
touched_bits b s zero some = let none = touched-none b s in omega arith
touched_bits b s (suc m) some =
    let more = touched-some b s m in
    let sum = div-sum b s m some in
    let wide : m * 1 ≤ m * b = mul-le-mul_left m some in
    let most = div_below (m + b - 1) b (m + 1) some (omega arith) in
    omega arith

pub touched_enough : (b : ℕ) (words : Bool) (s n : ℕ) → 0 < b → touched_count b s n ≤ work_steps words n * step_span b words
touched_enough b true s n some = in_words b s n some
touched_enough b false s n some =
    let steps = work_steps-one n in
    let wide = step_span-some b in
    let bits = touched_bits b s n some in
    rw steps (omega (arith, mul-le-mul_left n wide))

-- so what loads and stores each touched element once, and the edges of what it writes once more, keeps the bounds
pub touched_read : (b : ℕ) (words : Bool) (s n : ℕ) → 0 < b → touched_count b s n ≤ read_loads b words n
unfolding read_loads
touched_read b words s n some = touched_enough b words s n some

pub touched_stored : (b : ℕ) (words : Bool) (s n : ℕ) → 0 < b → touched_count b s n ≤ write_stores b words n
unfolding write_stores
touched_stored b words s n some = touched_enough b words s n some

at_most_two : (none : Bool) → (if none then 0 else 2) ≤ 2
at_most_two true = omega arith
at_most_two false = omega arith

some_steps : (words : Bool) (m : ℕ) → 1 ≤ work_steps words (suc m)
unfolding work_steps
some_steps true m = omega arith
some_steps false m = omega arith

pub edges_loaded : (b : ℕ) (words : Bool) (n : ℕ) → fill_loads n ≤ write_loads b words n
unfolding write_loads
edges_loaded b words zero = omega arith
edges_loaded b words (suc n) =
    let some = some_steps words n in
    let most = at_most_two (suc n == 0) in
    let within : (if suc n == 0 then 0 else 2) ≤ work_steps words (suc n) * 2 = omega arith in
    within

-- The laws by which work that goes element by element stays within its bounds, for `using`.
pub ruleset in_steps = (touched_read, touched_stored, edges_loaded)
