use Rattle.std.proofs.Common.{ap, sym, ◌∙◌}
use Rattle.bitrecord.specs.Records.{record_in}
use Rattle.bitrecord.specs.RecordLaws.{is-layout, record-determines}
use Rattle.bitrecord.specs.Views.{fields_of}
use Rattle.bitvec.specs.Types.{Window}
use Rattle.bitvec.specs.ShowingLaws.{length-seen}
use Rattle.bitvec.specs.Views.{seen}
use Rattle.bitvec.specs.WidthLaws.{width_some}
use Rattle.bitrecord_tests.proofs.laws.read_both.Goals as goal

pub returns : goal.returns
returns g c =
    let b = g.T.BitStore.BITS in
    let fields = fields_of c.args.layout.now in
    let x = seen c.args.view in
    let y = seen c.args.other in
    let long = length-seen c.args.view in
    let also = length-seen c.args.other in
    λ same. record-determines c.args.endian g.O.WordOrder.HIGH b x.window.start fields x.bits y.bits (width_some _ g.met.T.BitStore.width_law)
    (long ∙ sym (ap (λ (w : Window). w.len) c.requires.window) ∙ sym also)
    (λ k low. rw (long ∙ c.requires.bits) ((is-layout c.args.layout.now).inside k low))
    (sym c.decode.ensures.numbers ∙ same ∙ c.decode-2.ensures.numbers ∙ ap (λ (w : Window). record_in c.args.endian g.O.WordOrder.HIGH b w.start y.bits fields) c.requires.window)
    c.requires.outside
