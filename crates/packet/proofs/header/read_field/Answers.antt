use Rattle.std.proofs.Common.{ℕ, ◌^◌, ◌<◌, sym, subst, ◌∙◌, true}
use Rattle.bitvec.specs.ShowingLaws.{length-seen}
use Rattle.bitvec.specs.Views.{seen}
use Rattle.bitrecord.specs.Layouts.{field_at}
use Rattle.bitrecord.specs.RecordLaws.{is-layout}
use Rattle.bitrecord.specs.Views.{bits_of, fields_of}
use Rattle.bitrecord.specs.declared.endian.Endian.TheVariants.{Big}
use Rattle.bitrecord.specs.FieldLaws.{number-below}
use Rattle.packet.proofs.header.read_field.Goals as goal

pub returns-clause-below : goal.returns-clause-below
returns-clause-below g c =
    let layout = c.args.layout.now in
    let view = c.from_slice-view.result in
    subst (λ (n : ℕ). n < 2 ^ (field_at (fields_of layout) c.args.number).len) (sym c.decode_one.ensures.value)
    (number-below Big true 8 (seen view).window.start (bits_of layout) c.args.number (fields_of layout) (seen view).bits (is-layout layout)
    (length-seen view ∙ c.from_slice-view.ensures.len ∙ sym c.requires.bits) c.requires.field)
