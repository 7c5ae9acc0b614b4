-- The text of rows, printed one after the other.
use Rattle.std.specs.Prelude.{◌≡◌, ℕ, ◌+◌, Bool, List, ◌++◌, None, Option, Some}
use Rattle.std.specs.Io.KnownBytes.{Appends}
use Rattle.std.proofs.Common.{arith}
use Rattle.std.proofs.lemmas.Grind.{common_steps, flat_map-append}
use Rattle.std.proofs.lemmas.List.FromFn.{map-range_with_len_more}
use Rattle.bitmatrix.specs.Matrix.{row_of}
use Rattle.bitmatrix.specs.Texts.{row_text, rows_below}

-- a row more
rows_below-next : (k n : ℕ) (bits : List Bool) → rows_below (k + 1) n bits ≡ rows_below k n bits ++ row_text (row_of n bits k)
unfolding rows_below
rows_below-next k n bits =
    let more = map-range_with_len_more (row_of n bits) 0 k k (omega arith) in
    grind (arith, common_steps, more, flat_map-append)

pub printed-none : (n : ℕ) (bits : List Bool) (before : Option (List ℕ)) → Appends before before (rows_below 0 n bits)
unfolding rows_below
printed-none n bits None = tt
printed-none n bits (Some xs) = grind (arith, common_steps)

pub printed-next : (k n : ℕ) (bits row : List Bool) (before now after : Option (List ℕ)) → Appends before now (rows_below k n bits)
    → row ≡ row_of n bits k → Appends now after (row_text row) → Appends before after (rows_below (k + 1) n bits)
printed-next k n bits row None now after rows same next = tt
printed-next k n bits row (Some xs) None after rows same next = absurd rows
printed-next k n bits row (Some xs) (Some ys) None rows same next = absurd next
printed-next k n bits row (Some xs) (Some ys) (Some zs) rows same next = grind (arith, common_steps, rows_below-next k n bits)

-- for `using`
pub ruleset texts = (printed-none, printed-next)
