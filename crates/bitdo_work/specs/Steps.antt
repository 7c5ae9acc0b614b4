-- The lines of the input, each a step.
use Rattle.std.specs.Prelude.{ℕ, Bool, ◌+◌, ◌&&◌, nat_lt, if◌then◌else◌, List, ◌∷◌, length, position, Option, Some, None, is_none}
use Rattle.std.specs.List.{filter_map, list_any}
use Rattle.std.specs.Option.{option_map}
use Rattle.std.specs.Str.Lines.{lines}
use Rattle.bitvec_run.specs.declared.step.Step.{Step}
use Rattle.bitdo_work.specs.Ops.{op_of}
use Rattle.bitdo_work.specs.Words.{◌>>=◌, number_of, words_of}

-- FROM, TO, the command and its arguments
unfoldable pub step_of_words : List (List ℕ) → Option Step
step_of_words (from ∷ to ∷ word ∷ arguments) = do
  first ← number_of from
  end ← number_of to
  op ← op_of word arguments
  Some (record { from = first; to = end; op = op })
step_of_words _ = None

unfoldable pub step_of : List ℕ → Option Step
step_of line = step_of_words (words_of line)

-- a line that is neither empty nor a step
unfoldable pub is_bad_line : List ℕ → Bool
is_bad_line line = nat_lt 0 (length line) && is_none (step_of line)

-- the steps of a text, one a line, where no line is bad
unfoldable pub steps_of : List ℕ → Option (List Step)
steps_of text = if list_any is_bad_line (lines text) then None else Some (filter_map step_of (lines text))

-- the first bad line of a text, counted from 1
unfoldable pub bad_line_of : List ℕ → Option ℕ
bad_line_of text = option_map (λ index. index + 1) (position is_bad_line (lines text))
