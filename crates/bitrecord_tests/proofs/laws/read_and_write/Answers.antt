use Rattle.std.proofs.Common.{◌∙◌}
use Rattle.bitrecord.specs.RecordLaws.{encodable-accepted, encodable-back, encoded-back, is-layout, seen-record}
use Rattle.bitrecord.specs.Views.{fields_of}
use Rattle.bitvec.specs.Views.{seen, seen_mut}
use Rattle.bitvec.specs.WidthLaws.{width_some}
use Rattle.bitrecord_tests.proofs.laws.read_and_write.Goals as goal

pub returns-clause-accepted : goal.returns-clause-accepted
returns-clause-accepted g c =
    let fields = fields_of c.args.layout.now in
    encodable-accepted fields c.decode.new.out c.encode.result
    (encodable-back c.args.endian g.O.WordOrder.HIGH fields c.decode.new.out c.args.view.now (λ k low. rw c.requires.bits ((is-layout c.args.layout.now).inside k low))
    (c.decode.ensures.numbers ∙ seen-record c.args.endian g.O.WordOrder.HIGH g.T.BitStore.BITS fields (seen c.as_ref.result) (seen_mut c.args.view.now) c.as_ref.ensures))
    c.encode.ensures.refused

pub returns-clause-written : goal.returns-clause-written
returns-clause-written g c =
    let fields = fields_of c.args.layout.now in
    encoded-back c.args.endian g.O.WordOrder.HIGH fields c.decode.new.out c.args.view.now c.encode.new.out c.encode.result (width_some _ g.met.T.BitStore.width_law)
    (λ k low. rw c.requires.bits ((is-layout c.args.layout.now).inside k low))
    (c.decode.ensures.numbers ∙ seen-record c.args.endian g.O.WordOrder.HIGH g.T.BitStore.BITS fields (seen c.as_ref.result) (seen_mut c.args.view.now) c.as_ref.ensures)
    c.encode.ensures.refused c.encode.ensures.encoded
