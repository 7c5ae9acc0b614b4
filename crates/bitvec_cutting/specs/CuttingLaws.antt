-- The pieces of a list lie in it, and there are no more of them than values.
use Rattle.std.specs.Prelude.{ℕ, ◌+◌, ◌*◌, ◌<◌, ◌≤◌}
use Rattle.std.proofs.Common.{arith}
use Rattle.std.proofs.Math.Nat.{add-mul, div-le_self, div-mul-le_self, lt_of_mul-lt-mul_right, mul-le-mul_left, mul-le-mul_right}
use Rattle.std.proofs.lemmas.Grind.{div_ceil_times}
use Rattle.bitvec_cutting.specs.Cutting.{LiesIn, back_chunk, chunk, chunk_count, left_before, left_behind, whole_chunk, whole_count, window, window_count}

module _ (size len : ℕ) (some : 0 < size) where
  -- A list has at most as many windows as values.
  pub few_windows : window_count size len ≤ len
  few_windows = omega arith

  -- A list has at most as many chunks as values.
  pub few_chunks : chunk_count size len ≤ len
  few_chunks =
      let end = div_ceil_times len size some in
      let next = add-mul len 1 size in
      let long = mul-le-mul_left {m = 1} {n = size} len some in
      let below : chunk_count size len < len + 1 = lt_of_mul-lt-mul_right size (omega arith) in
      omega arith

  -- A list has at most as many whole chunks as values.
  pub few_whole : whole_count size len ≤ len
  few_whole = div-le_self len size

  module _ (number : ℕ) where
    -- Each window of a list lies in it.
    pub window_inside : number < window_count size len → LiesIn len (window size len number)
    window_inside below = omega arith

    -- Each chunk of a list begins in it.
    pub begins : number < chunk_count size len → number * size < len
    begins below =
        let end = div_ceil_times len size some in
        let up = mul-le-mul_right {m = number + 1} {n = chunk_count size len} size (omega arith) in
        let next = add-mul number 1 size in
        omega arith

    -- Each chunk of a list lies in it.
    pub chunk_inside : number < chunk_count size len → LiesIn len (chunk size len number)
    chunk_inside below =
        let start = begins below in
        let next = add-mul number 1 size in
        omega arith

    -- Each whole chunk of a list ends in it.
    pub ends : number < whole_count size len → (number + 1) * size ≤ len
    ends below =
        let end = div-mul-le_self len size in
        let up = mul-le-mul_right {m = number + 1} {n = whole_count size len} size (omega arith) in
        omega arith

    -- Each whole chunk of a list lies in it.
    pub whole_inside : number < whole_count size len → LiesIn len (whole_chunk size len number)
    whole_inside below =
        let end = ends below in
        let next = add-mul number 1 size in
        omega arith

    -- Each chunk from a list's end lies in it.
    pub back_inside : LiesIn len (back_chunk size len number)
    back_inside =
        let next = add-mul number 1 size in
        omega arith

  -- What the whole chunks from the start leave lies in the list.
  pub behind_inside : LiesIn len (left_behind size len)
  behind_inside = omega arith

  -- What the whole chunks from the end leave lies in the list.
  pub before_inside : LiesIn len (left_before size len)
  before_inside = omega arith
