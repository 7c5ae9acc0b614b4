use Rattle.std.proofs.Common.{◌≡◌, ℕ, OnOk, lit<, slice_set, subst, true}
use Rattle.bitvec.specs.Views.{seen_mut}
use Rattle.bitrecord.specs.FieldLaws.{record-set_ok}
use Rattle.bitrecord.specs.Records.{record_in}
use Rattle.bitrecord.specs.declared.endian.Endian.TheVariants.{Big}
use Rattle.bitrecord_tests.specs.declared.laws.TheConstants.{PLACES}
use Rattle.bitrecord_tests.proofs.laws.set_len.Goals as goal

pub returns : goal.returns
returns g c =
    let before = c.args.view.now in
    let after = c.encode_one.new.out in
    subst (λ (n : ℕ). OnOk c.encode_one.result (record_in Big true 8 (seen_mut after).window.start (seen_mut after).bits PLACES
    ≡ slice_set (record_in Big true 8 (seen_mut before).window.start (seen_mut before).bits PLACES) 1 n)) c.from.ensures
    (record-set_ok Big true c.args.layout.now 1 c.from.result PLACES before after c.encode_one.result c.requires.places c.requires.bits (lit< tt) c.encode_one.ensures.encoded)
