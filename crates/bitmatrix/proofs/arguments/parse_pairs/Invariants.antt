use Rattle.std.proofs.Common.{◌≡◌, Some, map, string_bytes, take, Global}
use Rattle.bitmatrix.specs.Arguments.{bits_in, bits_of}
use Rattle.bitmatrix.proofs.arguments.parse_pairs.Given as goal

abbrev pub invariant-loop-word : goal.invariant-loop-word
invariant-loop-word l = Some (bits_of l.graph) ≡ bits_in (map (string_bytes {Z = Global}) (take l.word-index l.words))
