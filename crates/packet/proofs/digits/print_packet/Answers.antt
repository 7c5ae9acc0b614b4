use Rattle.std.proofs.Common.{ℕ, List, arith}
use Rattle.std.proofs.KnownBytes.{Appends-trans}
use Rattle.std.proofs.lemmas.List.{take_all}
use Rattle.std.specs.List.{flat_map}
use Rattle.packet.specs.Digits.{byte_text}
use Rattle.packet.proofs.TextLaws.{printed-flushed, printed-more}
use Rattle.packet.proofs.digits.print_packet.Goals as goal

pub loop-byte-preserved : goal.loop-byte-preserved
loop-byte-preserved g c =
    printed-more byte_text c.args.bytes.now c.loop-byte.byte-index 0 _ _ _ c.loop-byte-test.true c.loop-byte.invariant
    (rw (c.digit_of.ensures, c.digit_of-in-loop-byte.ensures) at c.in_ok-write_all.ensures.bytes)

pub returns : goal.returns
returns g c =
    let bytes : List ℕ = c.args.bytes.now in
    let all = rw (take_all c.loop-byte.byte-index bytes (omega arith)) at c.loop-byte.invariant in
    printed-flushed c.flush.result _ _ _ _ (Appends-trans _ _ _ (flat_map byte_text bytes) _ all c.in_ok-writeln.ensures.bytes) c.flush.ensures.bytes
