use Rattle.std.proofs.Common.{arith, ◌∙◌}
use Rattle.bitvec_cells.proofs.FindLemmas.{last-sought, last-sought_from, last-sought_none}
use Rattle.bitvec_cells.proofs.find.last_in_element.Goals as goal

pub returns-in_err-found : goal.returns-in_err-found
returns-in_err-found g c =
    c.from_residual.ensures ∙ last-sought_none c.requires.bound c.sought.ensures c.in_err-found.ensures

pub overflow_sub-result : goal.overflow_sub-result
overflow_sub-result g c =
    let from = last-sought_from c.requires.bound c.sought.ensures c.in_ok-found.ensures in
    omega arith

pub returns : goal.returns
returns g c = last-sought c.requires.bound c.sought.ensures c.in_ok-found.ensures
