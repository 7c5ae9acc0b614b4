use Rattle.std.proofs.Common.{arith, ◌∙◌}
use Rattle.bitrecord.proofs.Numbers.{word-before}
use Rattle.bitrecord.proofs.decoding.take_alone.Goals as goal

pub overflow_cast-word : goal.overflow_cast-word
overflow_cast-word g c =
    let wide = c.if-end-lt64.false in
    let narrow = c.if-field-ge64.false in
    record { fits = (word-before g.O.WordOrder.HIGH c.args.view c.args.endian c.args.field c.take-word.result c.requires.seamless c.requires.inside (omega arith) (omega arith) c.take-word.ensures).0 }

pub returns : goal.returns
returns g c =
    let wide = c.if-end-lt64.false in
    let narrow = c.if-field-ge64.false in
    c.from.ensures ∙ c.last_of.ensures
    ∙ (word-before g.O.WordOrder.HIGH c.args.view c.args.endian c.args.field c.take-word.result c.requires.seamless c.requires.inside (omega arith) (omega arith) c.take-word.ensures).1
