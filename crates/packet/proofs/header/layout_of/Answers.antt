use Rattle.std.proofs.Common.{◌≡◌, ◌*◌, ◌⊎◌, List, length, IfErr, IfOk, sym, subst, ◌∙◌}
use Rattle.bitrecord.specs.Layouts.{IsLayout}
use Rattle.bitvec.specs.Types.{Window}
use Rattle.packet.specs.Packets.{IsLayoutOf, places_of, windows_of}
use Rattle.packet.specs.declared.fault.Fault.{Fault}
use Rattle.packet.specs.declared.fault.Fault.TheVariants.{Memory, Truncated}
use Rattle.packet.proofs.PlaceLaws.{windows-of}
use Rattle.packet.proofs.header.layout_of.Goals as goal

pub returns-clause-layout : goal.returns-clause-layout
returns-clause-layout g c =
    let same : c.as_slice.result.now ≡ windows_of (places_of c.args.fields.now) = c.as_slice.ensures.value ∙ c.in_ok-windows.ensures.windows ∙ sym (windows-of c.args.fields.now) in
    subst (λ (l : List Window). IfOk c.make_layout.result (IsLayoutOf c.args.bytes.now l)) same c.make_layout.ensures.layout

pub returns-clause-fault : goal.returns-clause-fault
returns-clause-fault g c =
    let same : c.as_slice.result.now ≡ windows_of (places_of c.args.fields.now) = c.as_slice.ensures.value ∙ c.in_ok-windows.ensures.windows ∙ sym (windows-of c.args.fields.now) in
    subst (λ (l : List Window). IfErr c.make_layout.result (λ (fault : Fault). (fault ≡ Memory) ⊎ ((fault ≡ Truncated) × (IsLayout (8 * length c.args.bytes.now) l → ⊥)))) same c.make_layout.ensures.fault
