use Rattle.std.proofs.Common.{◌≡◌, ◌*◌, length, take}
use Rattle.packet.specs.Digits.{bytes_of}
use Rattle.packet.proofs.digits.join_digits.Given as goal

abbrev pub invariant-loop-number : goal.invariant-loop-number
invariant-loop-number g l = (l.bytes.items ≡ bytes_of (take (2 * l.number) l.digits)) × (length l.bytes.items ≡ l.number)
