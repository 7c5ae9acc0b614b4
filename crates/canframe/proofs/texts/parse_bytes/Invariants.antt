use Rattle.std.proofs.Common.{◌≡◌, Global, length, map, string_bytes, take}
use Rattle.canframe.specs.Program.{AreBytes}
use Rattle.canframe.proofs.texts.parse_bytes.Given as goal

abbrev pub invariant-loop-word : goal.invariant-loop-word
invariant-loop-word l = record {
  bytes : AreBytes (take l.word-index (map (string_bytes {Z = Global}) l.words)) l.bytes.items;
  many : length l.bytes.items ≡ l.word-index;
}
