use Rattle.std.proofs.Common.{◌∙◌}
use Rattle.numerals.proofs.NumberLaws.{number_of-parse}
use Rattle.numerals.proofs.parse_u64.Goals as goal

pub returns : goal.returns
returns c = c.ok.ensures.value ∙ number_of-parse 64 c.args.word.now c.parse.result c.parse.ensures.value.0
