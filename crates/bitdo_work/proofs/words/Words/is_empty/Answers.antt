use Rattle.std.proofs.Common.{arith}
use Rattle.std.proofs.lemmas.Grind.{common_steps}
use Rattle.bitdo_work.proofs.WordLaws.{no_argument-words_in}
use Rattle.bitdo_work.proofs.words.Words.is_empty.Goals as goal

pub returns : goal.returns
returns c = let empty = no_argument-words_in c.args.self.now.rest in grind (arith, common_steps)
