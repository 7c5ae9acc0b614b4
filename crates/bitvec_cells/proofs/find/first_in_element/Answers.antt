use Rattle.std.proofs.Common.{arith, ◌∙◌}
use Rattle.bitvec_cells.proofs.FindLemmas.{first-sought, first-sought_from, first-sought_none}
use Rattle.bitvec_cells.proofs.find.first_in_element.Goals as goal

pub returns-in_err-found : goal.returns-in_err-found
returns-in_err-found g c =
    c.from_residual.ensures ∙ first-sought_none c.requires.bound c.sought.ensures c.in_err-found.ensures

pub overflow_sub-result : goal.overflow_sub-result
overflow_sub-result g c =
    let from = first-sought_from c.requires.bound c.sought.ensures c.in_ok-found.ensures in
    omega arith

pub returns : goal.returns
returns g c = first-sought c.requires.bound c.sought.ensures c.in_ok-found.ensures
