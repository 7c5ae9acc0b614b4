use Rattle.std.proofs.lemmas.List.Sorted.{IsPermutation-sym}
use Rattle.bitrecord.specs.RecordLaws.{is-layout, on-ok-both, order-free, writes-determine}
use Rattle.bitrecord.specs.Views.{fields_of}
use Rattle.bitvec.specs.WidthLaws.{width_some}
use Rattle.bitrecord_tests.proofs.laws.write_in_orders.Goals as goal

pub returns : goal.returns
returns g c =
    let high = g.O.WordOrder.HIGH in
    let fields = fields_of c.args.layout.now in
    let reordered = fields_of c.args.reordered.now in
    on-ok-both c.encode-2.result c.encode-2.ensures.accepted c.encode-2.ensures.encoded (λ able wrote.
    writes-determine c.args.endian high fields c.args.values.now c.args.view.now c.encode.new.out c.args.twin.now c.encode-2.new.out (width_some _ g.met.T.BitStore.width_law)
    (λ k low. rw c.requires.bits ((is-layout c.args.layout.now).inside k low)) c.requires.window c.requires.outside c.in_ok-encode.ensures.encoded
    (order-free c.args.endian high reordered c.args.others.now fields c.args.values.now c.args.twin.now c.encode-2.new.out able.count c.in_ok-encode.ensures.accepted.count
    (IsPermutation-sym _ _ c.requires.order) wrote))
