-- Reversals of a part of a window, of which a rotation is three.
use Rattle.std.specs.Prelude.{◌≡◌, ℕ, ◌≤◌, List, length, reverse, slice_range}
use Rattle.std.proofs.Common.{arith, rules, sym, ◌∙◌, ap}
use Rattle.std.proofs.lemmas.List.{same_lists, places}
use Rattle.bitvec_base.specs.declared.window.Window.{Window}
use Rattle.bitvec_base.specs.Lists.{rotated_left}
use Rattle.bitvec_base.specs.LengthLaws.{length-reversed_part}
use Rattle.bitvec_base.specs.Memory.{HasWindow, Writes, list_in}
use Rattle.bitvec_base.specs.RotationLaws.{reversals-rotate}
use Rattle.bitvec_base.specs.Window.{window_range, write_at}
use Rattle.bitvec_base.specs.WritesLaws.{Writes-is, Writes-range, list-range}

-- a reversal of the values from one place up to another
pub reversed_part : {X : Type 0} → ℕ → ℕ → List X → List X
reversed_part from to list = write_at list from (reverse (slice_range list from to))

pub Writes-reversed : {b : ℕ} {at : ℕ → ℕ → ℕ} {xs ys : List ℕ} {window : Window} (from to : ℕ) → HasWindow b xs window → from ≤ to → to ≤ window.len → Writes b at xs ys (window_range window from to) (reverse (list_in b at xs (window_range window from to)))
    → Writes b at xs ys window (reversed_part from to (list_in b at xs window))
unfolding reversed_part
Writes-reversed {b} {at} {xs} {ys} {window} from to has order bound writes =
    Writes-range from to has order bound (Writes-is writes (ap reverse (list-range at from to has order bound)))

pub parts-rotate : {X : Type 0} (k n : ℕ) (list : List X) → n ≡ length list → k ≤ n → reverse (reversed_part k n (reversed_part 0 k list)) ≡ rotated_left k list
unfolding reversed_part write_at
parts-rotate {X} k n list all fits =
    let both : List X = reversed_part k n (reversed_part 0 k list) in
    let first-long = length-reversed_part list 0 k (omega arith) (omega arith) in
    let both-long : length both ≡ n = length-reversed_part (reversed_part 0 k list) k n (omega arith) (omega arith) ∙ first-long ∙ sym all in
    same_lists _ _ (search (rules, places)) (λ i d inside. grind (arith, places)) ∙ reversals-rotate k n list all fits
