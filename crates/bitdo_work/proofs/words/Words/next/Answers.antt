use Rattle.std.proofs.Common.{ap, ◌∙◌, lit<}
use Rattle.bitdo_work.specs.Words.{words_in}
use Rattle.bitdo_work.proofs.WordLaws.{words_of-cut, words_of-last}
use Rattle.bitdo_work.proofs.words.Words.next.Goals as goal

pub returns-in-Some-clause-word : goal.returns-in-Some-clause-word
returns-in-Some-clause-word c =
    let cut = c.in-Some.ensures.byte (lit< tt) (λ text found h. h) in
    ap words_in c.in_ok-text.was ∙ words_of-cut c.in_ok-text.text.now c.in-Some.word.now c.in-Some.rest.now cut.0 cut.1 cut.2

pub returns-in-None-clause-word : goal.returns-in-None-clause-word
returns-in-None-clause-word c =
    let whole = c.in-None.ensures.byte (lit< tt) (λ text found h. h) in
    ap words_in c.in_ok-text.was ∙ words_of-last c.in_ok-text.text.now whole
