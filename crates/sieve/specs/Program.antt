-- What the program does.
use Rattle.std.specs.Prelude.{◌≡◌, ℕ, ◌≤◌, IsNone, IsSome, IsSomeAnd, List, Option, codes}
use Rattle.std.specs.Io.KnownBytes.{Appends}
use Rattle.sieve.specs.Texts.{line_of, text_of}
use Rattle.sieve.specs.declared.request.Request.{Request}

-- the work on a request: with status 0 its text was written, with 2 and 3 the line that says why there is none, and with 1 the output failed
pub record Works (request : Option Request) (before after : Option (List ℕ)) (status : ℕ) : Type 0 where
  pub known : status ≤ 3
  pub done : status ≡ 0 → IsSomeAnd request (λ given. Appends before after (text_of given))
  pub bad_arguments : status ≡ 2 → IsNone request × Appends before after (line_of (codes "bad arguments"))
  pub no_memory : status ≡ 3 → IsSome request × Appends before after (line_of (codes "out of memory"))
