use Rattle.std.proofs.Common.{rules}
use Rattle.bitvec.specs.LeftLaws.{chunk_left}
use Rattle.bitvec_examples.proofs.closures.invert_chunks.Goals as goal

pub returns : goal.returns
returns g c = λ k begins. chunk_left k _ c.requires c.for_each_chunk_mut.ensures begins (search rules)
