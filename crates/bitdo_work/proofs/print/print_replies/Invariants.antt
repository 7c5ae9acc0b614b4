use Rattle.std.proofs.Common.{take}
use Rattle.std.specs.Io.KnownBytes.{Appends}
use Rattle.std.specs.List.{flat_map}
use Rattle.bitdo_work.specs.Texts.{reply_text}
use Rattle.bitdo_work.proofs.print.print_replies.Given as goal

abbrev pub invariant-loop-reply : goal.invariant-loop-reply
invariant-loop-reply g l =
    Appends (g.W.Write.contents l.initial.output) (g.W.Write.contents l.output) (flat_map reply_text (take l.reply-index l.replies))
