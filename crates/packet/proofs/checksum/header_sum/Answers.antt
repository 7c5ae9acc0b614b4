use Rattle.std.proofs.Common.{◌<◌, sym, subst, ◌∙◌}
use Rattle.std.specs.Prelude.{All}
use Rattle.bitvec.specs.ShowingLaws.{length-seen}
use Rattle.bitvec.specs.Views.{seen}
use Rattle.bitrecord.specs.RecordLaws.{is-layout}
use Rattle.bitrecord.specs.Views.{bits_of, fields_of}
use Rattle.packet.proofs.ChangeLaws.{words-below}
use Rattle.packet.proofs.checksum.header_sum.Goals as goal

pub add_up-requires : goal.add_up-requires
add_up-requires g c =
    let words = c.args.words.now in
    let view = c.args.view in
    subst (All (λ word. word < 65536)) (sym c.decode.ensures.numbers)
    (words-below (bits_of words) 8 (seen view).window.start (fields_of words) (seen view).bits (is-layout words) (length-seen view ∙ c.requires.bits) c.requires.words)
