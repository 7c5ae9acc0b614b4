use Rattle.std.proofs.Common.{◌≡◌, ℕ, ◌<◌, List, [], length, ap, subst, ◌∙◌, arith}
use Rattle.std.specs.Io.KnownBytes.{Appends}
use Rattle.std.proofs.lemmas.List.{length-map, take_all}
use Rattle.bitrecord.specs.Layouts.{field_at}
use Rattle.bitvec.specs.Types.{Window}
use Rattle.packet.specs.Packets.{Place, number_at, place, places_of, windows_of}
use Rattle.packet.specs.Texts.{field_text}
use Rattle.packet.specs.declared.field.Field.{Field}
use Rattle.packet.proofs.HeaderLaws.{line-of}
use Rattle.packet.proofs.TextLaws.{printed-more}
use Rattle.packet.proofs.print.print_lines.Goals as goal

pub loop-number-preserved : goal.loop-number-preserved
loop-number-preserved g c =
    let fields : List Field = c.args.fields.now in
    let bytes : List ℕ = c.args.bytes.now in
    let n : ℕ = c.loop-number.number in
    let none : Field = record { name = record { ref_ptr = (0, 0); now = [] }; window = record { start = 0; len = 0 } } in
    let low : n < length fields = omega arith in
    let many = length-map fields place in
    let read : c.read_field-value.result ≡ number_at bytes (field_at (windows_of (places_of fields)) n) =
    c.read_field-value.ensures.number ∙ ap (λ (l : List Window). number_at bytes (field_at l n)) c.requires.fields in
    printed-more (field_text bytes) (places_of fields) n (place none) _ _ _ (omega arith) c.loop-number.invariant
    (subst (λ (text : List ℕ). Appends (g.W.Write.contents c.loop-number.output) (g.W.Write.contents c.print_field.new.output) text)
    (line-of bytes fields n c.read_field-value.result none low read) c.in_ok-print_field.ensures)

pub read_field-value-requires-clause-field : goal.read_field-value-requires-clause-field
read_field-value-requires-clause-field g c =
    let many = length-map c.args.fields.now place in
    let more = length-map (places_of c.args.fields.now) (λ (field : Place). field.window) in
    rw c.requires.fields (omega arith)

pub returns : goal.returns
returns g c =
    let many = length-map c.args.fields.now place in
    rw (take_all c.loop-number.number (places_of c.args.fields.now) (omega arith)) at c.loop-number.invariant
