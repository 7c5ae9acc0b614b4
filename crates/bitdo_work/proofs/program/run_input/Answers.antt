use Rattle.std.proofs.Common.{◌≡◌, ◌++◌, length, take, drop, refl, arith}
use Rattle.std.proofs.lemmas.Grind.{common_steps}
use Rattle.std.proofs.lemmas.Result.{err_from_is_err_and}
use Rattle.bitdo_work.proofs.RequestLaws.{HasFault-input}
use Rattle.bitdo_work.proofs.program.run_input.Goals as goal

pub returns-in_err-steps-clause-fault : goal.returns-in_err-steps-clause-fault
returns-in_err-steps-clause-fault g c =
    let fault = err_from_is_err_and c.from_residual.result c.from_residual.ensures.1 in
    rw (fault.1, fault.2) (HasFault-input _ _ _ _ refl c.in_err-steps.ensures.fault)

pub returns-in_err-replies-clause-fault : goal.returns-in_err-replies-clause-fault
returns-in_err-replies-clause-fault g c =
    let fault = err_from_is_err_and c.from_residual-in_err-replies.result c.from_residual-in_err-replies.ensures.1 in
    let why = rw (c.as_mut_slice.ensures.value, c.as_slice.ensures.value) at c.in_err-replies.ensures.error in
    rw (fault.1, fault.2) (record { given = _; given_is = refl; steps = _; input = c.in_ok-steps.ensures.steps; fails = why })

pub returns-clause-run : goal.returns-clause-run
returns-clause-run g c =
    let run = rw (c.as_mut_slice.ensures.value, c.as_slice.ensures.value) at c.in_ok-replies.ensures.run in
    let left : take c.args.memory.len (c.run_elements.new.memory ++ drop (length c.run_elements.new.memory) c.args.memory.items) ≡ c.run_elements.new.memory =
    grind (arith, common_steps) in
    rw left (record { given = _; given_is = refl; steps = _; input = c.in_ok-steps.ensures.steps; run = run })
