-- What was written to a formatter in two calls, or is the same text in other words.
use Rattle.std.specs.Prelude.{◌≡◌, ℕ, List, ◌++◌}
use Rattle.std.specs.Fmt.{HasWritten}
use Rattle.std.specs.declared.fmt.Formatter.{Formatter}
use Rattle.std.proofs.Output.{has_written_append, has_written_of_eq}

module _ {W : Type 0} {took : W → List ℕ → W → Type 0} {f g : Formatter W} {a b : List ℕ} where
  pub written-as : a ≡ b → HasWritten took f a g → HasWritten took f b g
  written-as = has_written_of_eq took f a b g

  pub written-then : {h : Formatter W} → HasWritten took f a g → HasWritten took g b h → HasWritten took f (a ++ b) h
  written-then {h} = has_written_append took f a g b h
