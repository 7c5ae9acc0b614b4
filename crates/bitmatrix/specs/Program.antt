-- What the program does.
use Rattle.std.specs.Prelude.{◌≡◌, ◌⊎◌, ℕ, Bool, IfSome, List, None, Option, Some, count_by}
use Rattle.std.specs.Fmt.{decimal}
use Rattle.std.specs.Io.KnownBytes.{Appends}
use Rattle.bitmatrix.specs.Arguments.{Asked, rows, pairs, chain}
use Rattle.bitmatrix.specs.Matrix.{Closes, IsChain}
use Rattle.bitmatrix.specs.Texts.{line_of, rows_text}
use Rattle.bitmatrix.specs.declared.fault.Fault.{Fault}
use Rattle.bitmatrix.specs.declared.fault.Fault.TheVariants as fault

-- the text is the rows of a matrix, and those of its closure were printed
pub record ClosesText (text : List ℕ) (before after : Option (List ℕ)) : Type 0 where
  pub n : ℕ
  pub old : List Bool
  pub new : List Bool
  pub text_is : text ≡ rows_text n old
  pub closes : Closes n old new
  pub printed : Appends before after (rows_text n new)

-- what was read is such a text, where its bytes are known
abbrev pub ClosesInput : Option (List ℕ) → Option (List ℕ) → Option (List ℕ) → Type 0
ClosesInput read before after = IfSome read (λ text. ClosesText text before after)

-- the rows of a matrix's closure were printed
pub record PrintsClosed (n : ℕ) (old : List Bool) (before after : Option (List ℕ)) : Type 0 where
  pub new : List Bool
  pub closes : Closes n old new
  pub printed : Appends before after (rows_text n new)

-- how many ones the closure of the chain of n places has was printed
pub record CountsChain (n : ℕ) (before after : Option (List ℕ)) : Type 0 where
  pub old : List Bool
  pub new : List Bool
  pub chain : IsChain n old
  pub closes : Closes n old new
  pub printed : Appends before after (line_of (decimal (count_by (λ bit. bit) new)))

-- the answer to what the words ask for was printed; words that ask for nothing have none
abbrev pub Answers : Option Asked → Option (List ℕ) → Option (List ℕ) → Option (List ℕ) → Type 0
Answers None read before after = ⊥
Answers (Some rows) read before after = ClosesInput read before after
Answers (Some (pairs bits)) read before after = PrintsClosed 16 bits before after
Answers (Some (chain count)) read before after = CountsChain count before after

-- why there is no answer: only words that ask for nothing are refused, and only what is read can be no square
abbrev pub Fails : Option Asked → Fault → Type 0
Fails None why = why ≡ fault.Arguments
Fails (Some rows) why = (why ≡ fault.Input) ⊎ (why ≡ fault.Memory) ⊎ (why ≡ fault.Output)
Fails (Some (pairs bits)) why = why ≡ fault.Output
Fails (Some (chain count)) why = (why ≡ fault.Memory) ⊎ (why ≡ fault.Output)
