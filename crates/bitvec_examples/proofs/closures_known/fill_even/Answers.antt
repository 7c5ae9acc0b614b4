use Rattle.std.proofs.Common.{ℕ, ◌%◌, ◌∙◌, ap, map, nat_eq, rules}
use Rattle.std.specs.List.{range_with_len}
use Rattle.bitvec.specs.AskedLaws.{answers-by}
use Rattle.bitvec_examples.proofs.closures_known.fill_even.Goals as goal

pub returns : goal.returns
returns g c =
    answers-by _ _ _ (λ index. nat_eq (index % 2) 0) _ (λ index bit next called. search rules) c.fill_with.ensures.answers
    ∙ ap (λ (n : ℕ). map (λ index. nat_eq (index % 2) 0) (range_with_len 0 n)) c.fill_with.ensures.len
