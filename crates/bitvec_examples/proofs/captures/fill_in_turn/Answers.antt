use Rattle.std.proofs.Common.{◌≡◌, arith, refl, rules}
use Rattle.std.specs.Prelude.{◌%◌}
use Rattle.bitvec.specs.LeftLaws.{may_edit_kept, piece_kept}
use Rattle.bitvec_examples.specs.contracts.captures.fn.fill_in_turn.for_each_chunk_exact_mut as closure
use Rattle.bitvec_examples.proofs.captures.fill_in_turn.Goals as goal

pub for_each_chunk_exact_mut-requires-clause-edit : goal.for_each_chunk_exact_mut-requires-clause-edit
for_each_chunk_exact_mut-requires-clause-edit c = may_edit_kept (λ k f. (closure.captures f).calls ≡ k % 2) refl (search (rules, arith)) (search (rules, arith))

pub returns : goal.returns
returns c = λ k below. piece_kept (λ k f. (closure.captures f).calls ≡ k % 2) k _ c.for_each_chunk_exact_mut.ensures below refl (search (rules, arith)) (search (rules, arith))
