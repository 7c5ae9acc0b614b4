use Rattle.std.proofs.Common.{◌≡◌, ℕ, ◌+◌, ◌*◌, length}
use Rattle.bitvec.specs.Cursors.{elements_of, lender_of, limit_of, writing}
use Rattle.bitvec.specs.Ranges.{ChangesOnly}
use Rattle.canframe.specs.Frames.{HasBytes, HasHeader}
use Rattle.canframe.proofs.codec.put_bytes.Given as goal

abbrev pub invariant-loop-byte : goal.invariant-loop-byte
invariant-loop-byte l = record {
  header : (id count : ℕ) → HasHeader (writing l.initial.writer).bits id count → HasHeader (writing l.writer).bits id count;
  bytes : HasBytes (writing l.writer).bits l.byte-index l.bytes;
  position : (writing l.writer).position ≡ 19 + 8 * l.byte-index;
  outside : ChangesOnly 19 (writing l.writer).position (writing l.initial.writer).bits (writing l.writer).bits;
  len : length (elements_of l.writer) ≡ length (elements_of l.initial.writer);
  name : lender_of l.writer ≡ lender_of l.initial.writer;
  limit : limit_of l.writer ≡ limit_of l.initial.writer;
}
