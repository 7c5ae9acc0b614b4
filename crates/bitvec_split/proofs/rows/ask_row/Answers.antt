use Rattle.bitvec_split.proofs.rows.ask_row.Goals as goal

pub returns-then-back-clause-asked : goal.returns-then-back-clause-asked
returns-then-back-clause-asked g c = rw c.if-back.true (rw (c.asked_behind.ensures, c.len.ensures.window) at c.ask_down.ensures.asked)

pub returns-then-back-clause-inside : goal.returns-then-back-clause-inside
returns-then-back-clause-inside g c = rw c.if-back.true (rw (c.asked_behind.ensures, c.len.ensures.window) at c.ask_down.ensures.inside)

pub returns-else-back-clause-asked : goal.returns-else-back-clause-asked
returns-else-back-clause-asked g c = rw c.if-back.false c.ask_up.ensures.asked

pub returns-else-back-clause-inside : goal.returns-else-back-clause-inside
returns-else-back-clause-inside g c = rw c.if-back.false c.ask_up.ensures.inside
