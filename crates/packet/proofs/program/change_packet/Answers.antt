use Rattle.std.proofs.Common.{◌≡◌, List, map, rules, sym, ap, subst, ◌∙◌}
use Rattle.std.specs.Prelude.{All}
use Rattle.std.proofs.lemmas.Result.{err_from_is_err_and}
use Rattle.bitvec.specs.Types.{Window}
use Rattle.packet.specs.Arguments.{named}
use Rattle.packet.specs.Changes.{CanChange}
use Rattle.packet.specs.Packets.{AreWords, packet_fields, places_of, windows_of}
use Rattle.packet.proofs.EndLaws.{changes-fault}
use Rattle.packet.proofs.HeaderLaws.{header-words}
use Rattle.packet.proofs.PlaceLaws.{all-can}
use Rattle.packet.proofs.program.change_packet.Goals as goal

pub returns-in_err-changes-clause-fault : goal.returns-in_err-changes-clause-fault
returns-in_err-changes-clause-fault g c =
    let fault = err_from_is_err_and c.from_residual-in_err-changes.result c.from_residual-in_err-changes.ensures.1 in
    let is = c.in_ok-bytes.ensures.packet in
    let same : places_of c.as_slice.result.now ≡ packet_fields c.in_ok-bytes.field-0.bytes.items = ap places_of c.as_slice.ensures.value ∙ is.header.fields in
    rw (fault.1, fault.2) (changes-fault (map named c.args.assignments.now) _ _ _ c.in_ok-bytes.field-0.bytes.items (places_of c.as_slice.result.now) is.input same c.in_err-changes.ensures.fault)

pub set_fields-requires-clause-layouts : goal.set_fields-requires-clause-layouts
set_fields-requires-clause-layouts g c =
    let is = c.in_ok-bytes.ensures.packet in
    let words = subst (λ (l : List Window). AreWords l) (sym is.header.words.fields) (header-words c.in_ok-bytes.field-0.bytes.items c.in_ok-bytes.field-0.header is.header) in
    record { field_bits_are = search rules; word_bits_are = search rules; are_fields = search rules; are_words = words }

pub set_fields-requires-clause-changes : goal.set_fields-requires-clause-changes
set_fields-requires-clause-changes g c =
    let is = c.in_ok-bytes.ensures.packet in
    let places = places_of c.as_slice.result.now in
    let same : places ≡ packet_fields c.in_ok-bytes.field-0.bytes.items = ap places_of c.as_slice.ensures.value ∙ is.header.fields in
    let can = all-can places (map named c.args.assignments.now) c.in_ok-changes.changes.items c.in_ok-changes.ensures.changes in
    let here : All (CanChange (windows_of places)) c.as_slice-2.result.now = subst (All (CanChange (windows_of places))) (sym c.as_slice-2.ensures.value) can in
    subst (λ (l : List Window). All (CanChange l) c.as_slice-2.result.now) (ap windows_of same ∙ sym is.header.layout.fields) here
