use Rattle.std.proofs.Common.{map, string_bytes, take, Global}
use Rattle.std.specs.Prelude.{IsSomeAnd}
use Rattle.device.specs.Numbers.{numbers_of}
use Rattle.device.specs.Parts.{IsFilter}
use Rattle.device.proofs.part.parse_filter.Given as goal

abbrev pub invariant-loop-word : goal.invariant-loop-word
invariant-loop-word l = IsSomeAnd (numbers_of (map (string_bytes {Z = Global}) (take l.word-index l.words))) (λ keys. IsFilter keys l.filter)
