-- Brackets in a text: ( and ) round a group, { and } round a block. A bracket that is open is a mark, true for a block.
use Rattle.std.specs.Prelude.{◌≡◌, ◌≢◌, ℕ, ◌≤◌, ◌==◌, ◌||◌, if◌then◌else◌, Bool, true, false, not, Option, Some, None, List, [], ◌∷◌, filter, length, take}
use Rattle.std.specs.List.{fold}

-- the byte that closes a group, and the one that closes a block
abbrev pub closer : Bool → ℕ
closer false = 41
closer true = 125

-- what stays open where the innermost bracket, the first of the list, is closed; it has to be of this kind
abbrev pub closed : Bool → List Bool → Option (List Bool)
closed false (false ∷ marks) = Some marks
closed true (true ∷ marks) = Some marks
closed kind marks = None

-- what is open behind one more byte; none where it closes no bracket
unfoldable pub next : Option (List Bool) → ℕ → Option (List Bool)
next None byte = None
next (Some marks) byte =
    if byte == 40 then Some (false ∷ marks)
    else if byte == 123 then Some (true ∷ marks)
    else if byte == 41 then closed false marks
    else if byte == 125 then closed true marks
    else Some marks

-- what is open behind a text, the innermost first; none where a bracket in it closes another one, or none
unfoldable pub open_after : List ℕ → Option (List Bool)
open_after text = fold next (Some []) text

-- what stays open where the innermost block is closed, and the groups in it with it; none where no block is open
abbrev pub backed_up : List Bool → Option (List Bool)
backed_up [] = None
backed_up (true ∷ marks) = Some marks
backed_up (false ∷ marks) = backed_up marks

-- what is open behind one more byte, where a } also closes the groups that are open in its block
unfoldable pub next_mended : Option (List Bool) → ℕ → Option (List Bool)
next_mended None byte = None
next_mended (Some marks) byte = if byte == 125 then backed_up marks else next (Some marks) byte

-- what is open behind a text that is read so, the innermost first; none where a bracket in it closes another one, or none
unfoldable pub open_mended : List ℕ → Option (List Bool)
open_mended text = fold next_mended (Some []) text

-- each bracket closes the innermost that is open, and none stays open
abbrev pub IsNested : List ℕ → Type 0
IsNested text = open_after text ≡ Some []

-- one text begins as the other does, as far as each bracket there closes the innermost
pub record KeepsFront (text mended : List ℕ) : Type 0 where
  pub front : (n : ℕ) → n ≤ length text → open_after (take n text) ≢ None → take n mended ≡ take n text

-- the text without the brackets that close
abbrev pub without_closers : List ℕ → List ℕ
without_closers text = filter (λ byte. not (byte == 41 || byte == 125)) text
