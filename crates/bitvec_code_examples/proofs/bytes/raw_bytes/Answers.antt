use Rattle.bitvec.specs.HeldLaws.{held-memory}
use Rattle.bitvec.specs.Owned.{owned}
use Rattle.bitvec_code_examples.proofs.bytes.raw_bytes.Goals as goal

pub returns : goal.returns
returns c = λ list holds. rw c.as_raw_slice.ensures (held-memory 8 list (owned c.args.bits.now) holds)
