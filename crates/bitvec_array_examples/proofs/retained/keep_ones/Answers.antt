use Rattle.std.proofs.Common.{rules}
use Rattle.bitvec.specs.RetainedLaws.{retained_filter}
use Rattle.bitvec_array_examples.proofs.retained.keep_ones.Goals as goal

pub returns : goal.returns
returns g c = retained_filter _ (λ bit. bit) _ (λ index bit answer next asks. search rules) _ _ c.retain.ensures.bits
