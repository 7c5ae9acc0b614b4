use Rattle.std.proofs.Common.{◌≡◌, ℕ, ◌*◌, List, length, sym, ap, subst, ◌∙◌}
use Rattle.std.proofs.lemmas.Result.{err_from_is_err_and}
use Rattle.bitrecord.specs.Layouts.{IsLayout}
use Rattle.packet.specs.Packets.{Place, fields_by, packet_fields, places_of, windows_of}
use Rattle.packet.proofs.HeaderLaws.{header-fault}
use Rattle.packet.proofs.header.read_header.Goals as goal

pub returns-in_err-layout-clause-fault : goal.returns-in_err-layout-clause-fault
returns-in_err-layout-clause-fault g c =
    let fault = err_from_is_err_and c.from_residual-in_err-layout.result c.from_residual-in_err-layout.ensures.1 in
    let shape = c.in_ok-length.ensures.shape in
    let same : places_of c.as_slice.result.now ≡ packet_fields c.args.bytes.now =
    ap places_of c.as_slice.ensures.value ∙ c.in_ok-fields.ensures.fields ∙ ap (λ (n : ℕ). fields_by n c.in_ok-length.protocol) shape.length_is ∙ ap (fields_by _) shape.protocol_is in
    rw (fault.1, fault.2) (header-fault c.args.bytes.now (windows_of (places_of c.as_slice.result.now)) _
    (λ has. subst (λ (l : List Place). IsLayout (8 * length c.args.bytes.now) (windows_of l)) (sym same) has.fields) c.in_err-layout.ensures.fault)
