use Rattle.std.proofs.Common.{ℕ, ap, subst, ◌∙◌, true}
use Rattle.bitrecord.specs.Layouts.{IsLayout}
use Rattle.bitrecord.specs.RecordLaws.{is-layout, seen-record}
use Rattle.bitrecord.specs.Views.{bits_of, fields_of}
use Rattle.bitrecord.specs.declared.endian.Endian.TheVariants.{Big}
use Rattle.packet.specs.Checksums.{sum_words}
use Rattle.packet.proofs.ChangeLaws.{done, made-right}
use Rattle.packet.proofs.checksum.make_right.Goals as goal

pub returns : goal.returns
returns g c =
    let layout = c.args.layout.now in
    let words = c.args.words.now in
    made-right (bits_of layout) c.header_sum-sum.result (fields_of layout) (fields_of words) c.args.view.now c.encode_one.new.out c.encode_one-2.new.out (is-layout layout)
    (subst (λ (b : ℕ). IsLayout b (fields_of words)) c.requires.word_bits (is-layout words)) c.requires.bits c.requires.fields c.requires.words
    (done c.encode_one.result _ c.unwrap.ensures c.encode_one.ensures.encoded)
    (c.header_sum-sum.ensures.sum ∙ ap sum_words (seen-record Big true 8 (fields_of words) _ _ c.as_ref.ensures))
    (done c.encode_one-2.result _ c.unwrap-2.ensures c.encode_one-2.ensures.encoded)
