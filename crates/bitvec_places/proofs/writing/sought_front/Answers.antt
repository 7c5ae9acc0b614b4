use Rattle.bitvec_places.proofs.KeptLemmas.{front-ones, front-zeros}
use Rattle.bitvec_places.proofs.writing.sought_front.Goals as goal

pub returns-then-want-clause-places : goal.returns-then-want-clause-places
returns-then-want-clause-places g c =
    let front = rw (c.new-cells.ensures.numbers, c.range-left.ensures) at c.load_front-word.ensures.value in
    rw c.if-want.true (front-ones c.args.rest c.requires.window c.requires.some c.requires.bound front)

pub returns-clause-places : goal.returns-clause-places
returns-clause-places g c =
    let front = rw (c.new-cells.ensures.numbers, c.range-left.ensures) at c.load_front-word.ensures.value in
    rw c.if-want.false (front-zeros c.args.rest c.requires.window c.requires.some c.requires.bound front _ c.sought.ensures)
