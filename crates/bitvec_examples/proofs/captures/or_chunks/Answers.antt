use Rattle.std.proofs.Common.{rules}
use Rattle.bitvec.specs.LeftLaws.{piece_same}
use Rattle.bitvec_examples.proofs.captures.or_chunks.Goals as goal

pub returns : goal.returns
returns g c = λ k below. piece_same k _ c.for_each_chunk_exact_mut.ensures below (search rules) (search rules)
