-- How windows and the bits beside them are cut in two.
use Rattle.std.specs.Prelude.{◌≡◌, ◌≢◌, ℕ, ◌+◌, ◌-◌, ◌*◌, ◌/◌, ◌%◌, ◌<◌, ◌≤◌, min, Bool, false, List, ◌++◌, length, replicate, slice_range}
use Rattle.std.proofs.Common.{arith, rules, sym, ◌∙◌, ap, ⊎_elim, append_assoc, length-append}
use Rattle.std.proofs.lemmas.Bool.{cases_lt}
use Rattle.std.proofs.lemmas.Nat.{div-add-mod', mod-mul-add, mod_below}
use Rattle.std.proofs.lemmas.List.{same_lists, places}
use Rattle.std.proofs.Math.Nat.{mul-le-mul_left}
use Rattle.bitvec_base.specs.declared.window.Window.{Window}
use Rattle.bitvec_base.specs.Window.{window_after, write_at}
use Rattle.bitvec_base.specs.WritesLaws.{HasWindow-kept}
use Rattle.bitvec_words.specs.ShortWindow.{padded}
use Rattle.bitvec_words.specs.TouchedLaws.{head_edge}
use Rattle.bitvec_words.specs.WholeLaws.{HasWindow-part}
use Rattle.bitvec_combine.specs.Acts.{HasMet}

-- The part of a zero element into which some first bits of a list's range were written is these bits, padded with zeros.
pub padded-part : {b to len : ℕ} (from : ℕ) (list : List Bool) → to ≤ b → len ≤ to - from → length list ≡ b
    → slice_range (write_at (replicate b false) from (slice_range list from (from + len))) from to ≡ padded (to - from) (slice_range list from (from + len))
unfolding padded write_at
padded-part {b} {to} {len} from list inside bound long = same_lists _ _ (search (rules, places)) (λ k d below. grind (arith, places))

-- Zeros behind the second of two lists are zeros behind the two joined.
pub padded-join : {k n : ℕ} (m : ℕ) (first second : List Bool) → k ≡ n + m → length first ≡ n → first ++ padded m second ≡ padded k (first ++ second)
unfolding padded
padded-join {k} m first second sum long =
    let count : m - length second ≡ k - length (first ++ second) = rw length-append (omega arith) in
    sym (append_assoc first second (replicate (m - length second) false)) ∙ ap (λ (z : ℕ). (first ++ second) ++ replicate z false) count

-- ---- whole elements

-- The span at the index `i` of `n` spans of `k` elements ends within as many elements as hold all spans.
pub span-fits : {i n count : ℕ} (k : ℕ) → i < n → n * k ≤ count → i * k + k ≤ count
span-fits k more fits = let order = mul-le-mul_left k more in omega arith

-- ---- two windows, the second of which may end before the first

-- Two windows that met still meet after the bits that the first one has in its first element, where more bits follow.
pub met-rest : {b : ℕ} {xs now ys : List ℕ} {left right : Window} {t : ℕ} → 0 < b → HasMet b xs ys left right → length now ≡ length xs → t ≡ min left.len (b - left.start % b) → t ≢ left.len
    → HasMet b now ys (window_after t left) (window_after t right)
met-rest {b} {xs} {now} {ys} {left} {right} {t} some met kept part more =
    let place = div-add-mod' left.start b in
    let head = mod_below left.start b some in
    let behind : t < right.len =
    ⊎_elim (λ (further : t < right.len). further)
    (λ (few : right.len ≤ t).
    let inside = met.inside (omega arith) in
    ⊎_elim
    (λ (less : right.len < t).
    let end : left.start + right.len ≡ left.start / b * b + (left.start % b + right.len) = omega arith in
    let index : (left.start + right.len) % b ≡ left.start % b + right.len = ap (λ (n : ℕ). n % b) end ∙ mod-mul-add (left.start / b) b (left.start % b + right.len) (omega arith) in
    absurd (omega arith))
    (λ (all : t ≤ right.len).
    let same : right.len ≡ t = omega arith in
    let edge = head_edge b left.start t left.len some part more in
    absurd (let last = rw same at inside in omega arith))
    (cases_lt right.len t))
    (cases_lt t right.len) in
    let end : left.start + t + (right.len - t) ≡ left.start + right.len = omega arith in
    record {
      window = HasWindow-part (window_after t left) (HasWindow-kept now met.window kept) (omega arith) (omega arith);
      beside = HasWindow-part (window_after t right) met.beside (omega arith) (omega arith);
      some = omega arith;
      lengths = omega arith;
      inside = λ less. rw end (met.inside (omega arith));
      reach = rw end (omega arith);
    }
