use Rattle.std.proofs.Common.{◌≡◌, length}
use Rattle.bitvec.specs.Arrays.{msb0_bits}
use Rattle.canframe.specs.Frames.{HasBytes}
use Rattle.canframe.proofs.codec.take_bytes.Given as goal

abbrev pub invariant-loop-place : goal.invariant-loop-place
invariant-loop-place l = record {
  bytes : HasBytes (msb0_bits 8 l.frame) l.place l.bytes.items;
  many : length l.bytes.items ≡ l.place;
}
