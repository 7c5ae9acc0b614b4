-- What a search of the rest loads, and what the rest behind it still touches.
use Rattle.std.specs.Prelude.{◌≡◌, ℕ, ◌+◌, ◌-◌, ◌<◌, ◌≤◌, zero, suc}
use Rattle.std.proofs.Common.{arith}
use Rattle.bitvec_cells.specs.Cost.{touched_count}
use Rattle.bitvec_cells.specs.WalkLaws.{div-order, touched-none, touched-some}

-- two parts that meet have at most one element in common
touched-cut : (b s m n : ℕ) → 0 < b → touched_count b s m + touched_count b (s + m) n ≤ touched_count b s (m + n) + 1
touched-cut b s zero n some =
    let none = touched-none b s in
    let start : s + zero ≡ s = omega arith in
    let all : zero + n ≡ n = omega arith in
    rw (start, all) (omega arith)
touched-cut b s (suc m) zero some =
    let none = touched-none b (s + suc m) in
    let all : suc m + zero ≡ suc m = omega arith in
    rw all (omega arith)
touched-cut b s (suc m) (suc n) some =
    let first = touched-some b s m in
    let second = touched-some b (s + suc m) n in
    let all : suc m + suc n ≡ suc (suc m + n) = omega arith in
    let whole = touched-some b s (suc m + n) in
    let same : s + (suc m + n) ≡ s + suc m + n = omega arith in
    let whole' = rw same at whole in
    let low = div-order b s (s + m) some (omega arith) in
    let mid = div-order b (s + m) (s + suc m) some (omega arith) in
    let high = div-order b (s + suc m) (s + suc m + n) some (omega arith) in
    rw all (omega arith)

-- up to the place i of the f..e, and behind it
pub touched-passed : (b s f e i : ℕ) → 0 < b → i < e - f → touched_count b (s + f) (i + 1) + touched_count b (s + (f + i + 1)) (e - (f + i + 1)) ≤ touched_count b (s + f) (e - f) + 1
touched-passed b s f e i some below =
    let cut = touched-cut b (s + f) (i + 1) (e - (f + i + 1)) some in
    let start : s + f + (i + 1) ≡ s + (f + i + 1) = omega arith in
    let all : i + 1 + (e - (f + i + 1)) ≡ e - f = omega arith in
    rw (start, all) at cut

-- from the place i on, and before it
pub touched-passed_back : (b s f e i : ℕ) → 0 < b → i < e - f → touched_count b (s + f + i) (e - f - i) + touched_count b (s + f) (f + i - f) ≤ touched_count b (s + f) (e - f) + 1
touched-passed_back b s f e i some below =
    let cut = touched-cut b (s + f) i (e - f - i) some in
    let all : i + (e - f - i) ≡ e - f = omega arith in
    let len : f + i - f ≡ i = omega arith in
    let cut' = rw all at cut in
    rw len (omega arith)
