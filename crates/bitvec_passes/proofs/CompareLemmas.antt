-- Lists of bits are the same where they compare as equal; what an equality may load.
use Rattle.std.specs.Prelude.{◌≡◌, ℕ, ◌==◌, ◌≤◌, Bool, false, true, if◌then◌else◌, List, []}
use Rattle.std.specs.Cmp.Lexicographic.{slice_cmp}
use Rattle.std.specs.Ordering.{bool_cmp, is_eq}
use Rattle.std.proofs.Common.{arith, refl, ◌∷◌}
use Rattle.std.proofs.lemmas.Bool.{eq-eqb}
use Rattle.std.proofs.lemmas.Bool.Decides.{nat_tests}
use Rattle.bitvec_base.specs.Lists.{same_bits}
use Rattle.bitvec_cells.specs.Cost.{equal_loads, read_loads}
use Rattle.bitvec_cells.specs.CostLaws.{read_enough}

pub same-ordered : (a b : List Bool) → is_eq (slice_cmp bool_cmp a b) ≡ same_bits a b
same-ordered [] [] = refl
same-ordered [] (y ∷ b) = refl
same-ordered (x ∷ a) [] = refl
same-ordered (false ∷ a) (false ∷ b) = same-ordered a b
same-ordered (false ∷ a) (true ∷ b) = refl
same-ordered (true ∷ a) (false ∷ b) = refl
same-ordered (true ∷ a) (true ∷ b) = same-ordered a b

-- what an equality may load is no less than bit by bit, and as much as reading where the windows are as long
pub cost-equal : (b m r : ℕ) → (if m == r then m else 0) ≤ equal_loads b false m r
cost-equal b m r = let most = read_enough b m in grind (arith, nat_tests)

pub cost-same : (b m r : ℕ) → m ≡ r → equal_loads b false m r ≡ read_loads b false m
cost-same b m r same = rw (eq-eqb m r same) refl
