use Rattle.std.proofs.Common.{◌∙◌, ap, lit<, sym}
use Rattle.std.specs.Prelude.{drop, if◌then◌else◌}
use Rattle.packet.proofs.WordLaws.{number_of-parse}
use Rattle.packet.proofs.arguments.parse_number.Goals as goal

pub returns : goal.returns
returns c =
    let plus = c.starts_with.ensures.byte (lit< tt) (lit< tt) (λ text found h. h) in
    let plain = ap (λ sign. drop (if sign then 1 else 0) c.args.word.now) (sym plus ∙ c.if-starts_with.false) in
    c.ok.ensures.value ∙ number_of-parse c.args.radix c.args.word.now c.from_str_radix.result (rw plain at c.from_str_radix.ensures.value)
