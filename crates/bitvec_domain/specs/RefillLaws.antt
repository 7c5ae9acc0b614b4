-- A list of which a range was lent keeps the others.
use Rattle.std.specs.Prelude.{◌≡◌, ℕ, ◌-◌, ◌≤◌, List, ◌++◌, drop, length, slice_range, take, refl}
use Rattle.std.specs.List.{refill, length_refill}
use Rattle.std.proofs.Common.{arith, rules, sym, subst, ◌∙◌, length-drop, length-take}
use Rattle.std.proofs.lemmas.List.{places, same_lists, take_at}
use Rattle.bitvec_domain.specs.Kept.{KeepsOutside}
use Rattle.bitvec_domain.specs.Refill.{with_range}

put-keeps : {X : Type 0} (xs mid : List X) (start end : ℕ) → start ≤ end → end ≤ length xs → length mid ≡ end - start → KeepsOutside start end xs (take start xs ++ (mid ++ drop end xs))
put-keeps xs mid start end order bound long = record {
  length = grind (arith, places);
  before = same_lists _ _ (search (rules, places)) (λ k d inside. grind (arith, places));
  behind = same_lists _ _ (search (rules, places)) (λ k d inside. grind (arith, places));
}

-- A list in which a range was replaced keeps its length and the values outside the range.
pub with_range-keeps : {X : Type 0} (xs ws : List X) (start end : ℕ) → start ≤ end → end ≤ length xs → KeepsOutside start end xs (with_range xs start end ws)
with_range-keeps xs ws start end order bound =
    let mid = slice_range xs start end in
    put-keeps xs (refill (length mid) mid ws) start end order bound (sym (length_refill (length mid) mid ws refl) ∙ omega (arith, length-take (end - start) (drop start xs), length-drop start xs))

-- A slice that ends as such a list keeps its length and its values outside the range.
pub refilled-keeps : {X : Type 0} (xs ws : List X) {start end : ℕ} → start ≤ end → end ≤ length xs → KeepsOutside start end xs (refill (length xs) xs (with_range xs start end ws))
refilled-keeps {X} xs ws {start} {end} order bound =
    let kept = with_range-keeps xs ws start end order bound in
    subst (λ (ys : List X). KeepsOutside start end xs ys) (sym (take_at (with_range xs start end ws) (drop (length (with_range xs start end ws)) xs) (length xs) kept.length)) kept
