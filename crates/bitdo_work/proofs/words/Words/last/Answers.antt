use Rattle.std.proofs.Common.{ap, ◌∙◌, ◌∷◌}
use Rattle.bitdo_work.specs.Words.{words_in, one_word}
use Rattle.bitdo_work.proofs.WordLaws.{one_word-words_of}
use Rattle.bitdo_work.proofs.words.Words.last.Goals as goal

pub returns-in-Some-clause-other : goal.returns-in-Some-clause-other
returns-in-Some-clause-other c =
    ap one_word c.in_ok-word.ensures.word ∙ ap (λ rest. one_word (c.in_ok-word.word.now ∷ words_in rest)) c.in-Some.is
    ∙ one_word-words_of c.in_ok-word.word.now c.in-Some.field-0.now
