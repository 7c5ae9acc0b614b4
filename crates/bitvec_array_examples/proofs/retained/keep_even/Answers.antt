use Rattle.std.proofs.Common.{◌%◌, nat_eq, rules}
use Rattle.bitvec.specs.RetainedLaws.{retained_by}
use Rattle.bitvec_array_examples.proofs.retained.keep_even.Goals as goal

pub returns : goal.returns
returns g c = retained_by _ (λ index bit. nat_eq (index % 2) 0) _ (λ index bit answer next asks. search rules) _ _ c.retain.ensures.bits
