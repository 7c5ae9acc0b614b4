-- What is printed where a part is made.
use Rattle.std.proofs.Common.{ℕ, List, Option, Some, None, arith}
use Rattle.std.specs.Prelude.{IsSomeAnd}
use Rattle.device.specs.Parts.{Asked, Makes}
use Rattle.device.specs.Program.{PrintsAsked, PrintsPart, Works}
use Rattle.device.specs.declared.part.Part.{Part}

prints : (asked : Option Asked) (part : Part) (before after : Option (List ℕ)) → Makes asked (Some part) → PrintsPart part before after → IsSomeAnd asked (λ it. PrintsAsked it before after)
prints None part before after makes printed = absurd (grind (arith, makes))
prints (Some it) part before after makes printed = record { made = part; is = makes; prints = printed }

pub works : (asked : Option Asked) (part : Part) (before after : Option (List ℕ)) → Makes asked (Some part) → PrintsPart part before after → Works asked before after 0
works asked part before after makes printed = record {
  known = omega arith;
  done = λ _. prints asked part before after makes printed;
  bad_arguments = λ two. absurd (omega (arith, two));
}
