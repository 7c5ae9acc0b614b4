use Rattle.std.proofs.Common.{List, ℕ, OnOk, ap, subst, ◌∙◌}
use Rattle.std.specs.Io.KnownBytes.{Appends}
use Rattle.packet.specs.Packets.{places_of}
use Rattle.packet.proofs.HeaderLaws.{text-of}
use Rattle.packet.proofs.print.print_fields.Goals as goal

pub returns : goal.returns
returns g c =
    subst (λ (text : List ℕ). OnOk c.print_all.result (Appends (g.W.Write.contents c.args.output.now) (g.W.Write.contents c.print_all.new.output) text))
    (text-of c.args.bytes.now (places_of c.as_slice.result.now) c.packet_sum-sum.result (ap places_of c.as_slice.ensures.value ∙ c.requires.header.fields) c.packet_sum-sum.ensures) c.print_all.ensures
