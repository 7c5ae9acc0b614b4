-- Lists of bits that are moved toward their start or end, and two of them side by side.
use Rattle.std.specs.Prelude.{◌≡◌, ℕ, ◌+◌, ◌-◌, ◌<◌, ◌≤◌, Bool, true, false, ◌||◌, List, ◌++◌, length, take, drop, refl}
use Rattle.std.proofs.Common.{arith, rules, sym, ◌∙◌, ap}
use Rattle.std.proofs.Math.Bool.{or-false}
use Rattle.std.proofs.lemmas.List.{same_lists, places}
use Rattle.bitvec_base.specs.Lists.{combined, differs, shifted_start, shifted_end}
use Rattle.bitvec_base.specs.ListsLaws.{combined-is}

-- toward the end twice
pub shifted_end-twice : (j k : ℕ) (list : List Bool) → j + k ≤ length list → shifted_end k (shifted_end j list) ≡ shifted_end (j + k) list
unfolding shifted_end
shifted_end-twice j k list h = same_lists _ _ (search (rules, places)) (λ i d inside. grind (arith, places))

-- the first list moved out and the second one moved in behind it, put together by what keeps the one beside a 0
pub shifted-across : (f : Bool → Bool → Bool) → ((x : Bool) → f x false ≡ x) → ((x : Bool) → f false x ≡ x) → (k : ℕ) (first second : List Bool) → length second ≡ length first → k ≤ length first → combined f (shifted_start k first) (shifted_end (length first - k) second) ≡ drop k first ++ take k second
unfolding shifted_start shifted_end
shifted-across f left_kept right_kept k first second long fits =
    sym (combined-is f _ _ (drop k first ++ take k second) (search (rules, places)) (λ i inside. grind (arith, places, left_kept, right_kept)))

differs-false : (x : Bool) → differs x false ≡ x
differs-false true = refl
differs-false false = refl

false-differs : (x : Bool) → differs false x ≡ x
false-differs true = refl
false-differs false = refl

pub shifted-joined : {b bits : ℕ} (k : ℕ) (first second : List Bool) → length first ≡ b → length second ≡ b → bits ≡ b → k < b → combined differs (shifted_start k first) (shifted_end (bits - k) second) ≡ drop k first ++ take k second
shifted-joined {b} {bits} k first second long other same h =
    let sum : bits - k ≡ length first - k = omega arith in
    ap (λ (n : ℕ). combined differs (shifted_start k first) (shifted_end n second)) sum
    ∙ shifted-across differs differs-false false-differs k first second (omega arith) (omega arith)

-- the same by `or`, where the second list is moved by one place first
pub shifted-joined_twice : (b k : ℕ) (first second : List Bool) → length first ≡ b → length second ≡ b → k < b → combined ◌||◌ (shifted_start k first) (shifted_end (b - 1 - k) (shifted_end 1 second)) ≡ drop k first ++ take k second
shifted-joined_twice b k first second long other h =
    let sum : 1 + (b - 1 - k) ≡ length first - k = omega arith in
    ap (λ (l : List Bool). combined ◌||◌ (shifted_start k first) l) (shifted_end-twice 1 (b - 1 - k) second (omega arith) ∙ ap (λ (n : ℕ). shifted_end n second) sum)
    ∙ shifted-across ◌||◌ or-false (λ x. refl) k first second (omega arith) (omega arith)
