use Rattle.std.proofs.Common.{take}
use Rattle.packet.specs.Digits.{AreDigits}
use Rattle.packet.proofs.digits.parse_digits.Given as goal

abbrev pub invariant-loop-byte : goal.invariant-loop-byte
invariant-loop-byte g l = AreDigits (take l.byte-index l.text) l.digits.items
