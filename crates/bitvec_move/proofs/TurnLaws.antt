-- Whole elements that move in turns: some behind k others, from the first one on or `later` from the last one back.
use Rattle.std.specs.Prelude.{◌≡◌, ℕ, ◌+◌, ◌-◌, ◌*◌, ◌≤◌, Bool, true, false, if◌then◌else◌, List, length, refl}
use Rattle.std.proofs.Common.{arith, ap}
use Rattle.std.proofs.Math.Nat.{le_refl, mul-le-mul_right}
use Rattle.bitvec_base.specs.Memory.{list_in}
use Rattle.bitvec_base.specs.Spans.{HasSpan}
use Rattle.bitvec_base.specs.WritesLaws.{HasWindow-kept, list-behind}
use Rattle.bitvec_words.specs.Elements.{elements_window, elements_window_from}
use Rattle.bitvec_words.specs.WholeLaws.{HasWindow-part}
use Rattle.bitvec_words.specs.Moves.{CopiesElements, CopiesSome, IsToward}
use Rattle.bitvec_move.proofs.WithinLaws.{CopiesSome-part, list-ahead}

-- where w elements begin that are moved behind k others of n
abbrev pub turn_place : Bool → ℕ → ℕ → ℕ → ℕ
turn_place later k w n = if later then n - (k + w) else k

turn-fits : (later : Bool) (k w n : ℕ) → k + w ≤ n → turn_place later k w n + w ≤ n
turn-fits false k w n fits = fits
turn-fits true k w n fits = omega arith

pub turn-toward : (later : Bool) (first source p : ℕ) → IsToward later first source → IsToward later (first + p) (source + p)
turn-toward false first source p towards = omega arith
turn-toward true first source p towards = omega arith

-- their windows, where the memory may have changed
pub turn-span : (later : Bool) (b : ℕ) (old now : List ℕ) (first source count k w : ℕ) → HasSpan b old old (elements_window b first count) (elements_window_from b source 0 count) → length now ≡ length old → k + w ≤ count
    → HasSpan b now now (elements_window b (first + turn_place later k w count) w) (elements_window_from b (source + turn_place later k w count) 0 w)
turn-span later b old now first source count k w has kept fits =
    let order = mul-le-mul_right b (turn-fits later k w count fits) in
    record {
      window = HasWindow-kept now (HasWindow-part _ has.window (omega arith) (omega arith)) kept;
      beside = HasWindow-kept now (HasWindow-part _ has.beside (omega arith) (omega arith)) kept;
      lengths = refl;
    }

-- what they are read from is as it was
turn-left : (later : Bool) (b : ℕ) (at : ℕ → ℕ → ℕ) (old now : List ℕ) (first source count k w : ℕ) → HasSpan b old old (elements_window b first count) (elements_window_from b source 0 count) → IsToward later first source → k + w ≤ count
    → CopiesSome later b at old now first source 0 count k
    → list_in b at now (elements_window_from b (source + turn_place later k w count) 0 w) ≡ list_in b at old (elements_window_from b (source + turn_place later k w count) 0 w)
turn-left false b at old now first source count k w has towards fits moved =
    let inside : (k + w) * b ≤ count * b = mul-le-mul_right b fits in
    let order : (first + k) * b ≤ (source + k) * b = mul-le-mul_right b (omega arith) in
    list-behind
    (HasWindow-part _ has.window (omega arith) (omega arith))
    (HasWindow-part _ has.beside (omega arith) (omega arith))
    (omega arith) moved
turn-left true b at old now first source count k w has towards fits moved =
    let order : source * b ≤ first * b = mul-le-mul_right b towards in
    let inside : (count - k + k) * b ≡ count * b = ap (λ (n : ℕ). n * b) (omega arith) in
    let next : (count - k) * b ≡ (count - (k + w) + w) * b = ap (λ (n : ℕ). n * b) (omega arith) in
    list-ahead (elements_window_from b (source + (count - (k + w))) 0 w)
    (HasWindow-part _ has.window (omega arith) (omega arith))
    (omega arith) moved

-- then k + w are moved
pub CopiesSome-turn : (later : Bool) {b : ℕ} {at : ℕ → ℕ → ℕ} {old now new : List ℕ} (first source count k w : ℕ) → HasSpan b old old (elements_window b first count) (elements_window_from b source 0 count) → IsToward later first source → k + w ≤ count
    → CopiesSome later b at old now first source 0 count k → CopiesElements b at now new now (first + turn_place later k w count) (source + turn_place later k w count) 0 w
    → CopiesSome later b at old new first source 0 count (k + w)
CopiesSome-turn false {b} {at} {old} {now} {new} first source count k w has towards fits before after =
    let place : k + w - w ≡ k = omega arith in
    CopiesSome-part false {at = at} {mid = now} {new = new} first source 0 count k (k + w) w {list = list_in b at now (elements_window_from b (source + k) 0 w)} has (omega arith) (le_refl (k + w)) (omega arith) fits before
    (rw place after) (rw place (turn-left false b at old now first source count k w has towards fits before))
CopiesSome-turn true {b} {at} {old} {now} {new} first source count k w has towards fits before after =
    CopiesSome-part true {at = at} {mid = now} {new = new} first source 0 count k (k + w) w {list = list_in b at now (elements_window_from b (source + (count - (k + w))) 0 w)} has (omega arith) (le_refl (k + w)) (omega arith) fits before
    after (turn-left true b at old now first source count k w has towards fits before)

-- in the end all are
pub CopiesSome-whole : (later : Bool) (b : ℕ) (at : ℕ → ℕ → ℕ) (old new : List ℕ) (first source count n : ℕ) → n ≡ count → CopiesSome later b at old new first source 0 count n → CopiesElements b at old new old first source 0 count
CopiesSome-whole false b at old new first source count n all moved =
    let to : first + 0 ≡ first = omega arith in
    let from : source + 0 ≡ source = omega arith in
    rw (all, to, from) at moved
CopiesSome-whole true b at old new first source count n all moved =
    let none : count - n ≡ 0 = omega arith in
    let to : first + 0 ≡ first = omega arith in
    let from : source + 0 ≡ source = omega arith in
    rw (none, all, to, from) at moved
