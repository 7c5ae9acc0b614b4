use Rattle.std.proofs.Common.{◌≡◌, ℕ, ◌*◌, ◌^◌, ◌<◌, List, arith, length, sym, ap, subst, ◌∙◌}
use Rattle.std.proofs.lemmas.Result.{err_from_is_err_and}
use Rattle.bitrecord.specs.Layouts.{IsLayout, field_at}
use Rattle.bitvec.specs.Types.{Window}
use Rattle.packet.specs.Packets.{Place, internet_fields, number_at, places_of, windows_of}
use Rattle.packet.specs.declared.field.Field.{Field}
use Rattle.packet.specs.declared.field.TheConstants.{HEADER_LENGTH, PROTOCOL, VERSION}
use Rattle.packet.proofs.HeaderLaws.{header-fault}
use Rattle.packet.proofs.header.read_shape.Goals as goal

pub returns-in_err-layout-clause-fault : goal.returns-in_err-layout-clause-fault
returns-in_err-layout-clause-fault g c =
    let fault = err_from_is_err_and c.from_residual-in_err-layout.result c.from_residual-in_err-layout.ensures.1 in
    let same : places_of c.as_slice.result.now ≡ internet_fields = ap places_of c.as_slice.ensures.value ∙ c.in_ok-fields.ensures.fields in
    rw (fault.1, fault.2) (header-fault c.args.bytes.now (windows_of (places_of c.as_slice.result.now)) _
    (λ has. subst (λ (l : List Place). IsLayout (8 * length c.args.bytes.now) (windows_of l)) (sym same) has.internet) c.in_err-layout.ensures.fault)

pub returns-then-length-lt5-clause-fault : goal.returns-then-length-lt5-clause-fault
returns-then-length-lt5-clause-fault g c =
    let same = c.in_ok-layout.ensures.layout.fields ∙ ap (λ (l : List Field). windows_of (places_of l)) c.as_slice.ensures.value ∙ ap windows_of c.in_ok-fields.ensures.fields in
    let read = c.read_field-length.ensures.number ∙ ap (λ (l : List Window). number_at c.args.bytes.now (field_at l HEADER_LENGTH)) same in
    subst (λ (n : ℕ). n < 5) read c.if-length-lt5.true

pub returns-clause-shape : goal.returns-clause-shape
returns-clause-shape g c =
    let bytes : List ℕ = c.args.bytes.now in
    let same = c.in_ok-layout.ensures.layout.fields ∙ ap (λ (l : List Field). windows_of (places_of l)) c.as_slice.ensures.value ∙ ap windows_of c.in_ok-fields.ensures.fields in
    let below : c.read_field-length.result < 16 = subst (λ (l : List Window). c.read_field-length.result < 2 ^ (field_at l HEADER_LENGTH).len) same c.read_field-length.ensures.below in
    record {
      version = sym (c.read_field.ensures.number ∙ ap (λ (l : List Window). number_at bytes (field_at l VERSION)) same) ∙ c.if-read_field-ne4.false;
      length_is = c.read_field-length.ensures.number ∙ ap (λ (l : List Window). number_at bytes (field_at l HEADER_LENGTH)) same;
      protocol_is = c.read_field-2.ensures.number ∙ ap (λ (l : List Window). number_at bytes (field_at l PROTOCOL)) same;
      least = c.if-length-lt5.false;
      most = omega arith;
    }
