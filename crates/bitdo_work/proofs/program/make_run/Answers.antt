use Rattle.std.proofs.Common.{sym}
use Rattle.std.proofs.lemmas.Result.{err_from_is_err_and}
use Rattle.bitdo_work.proofs.RequestLaws.{IsSome-request_by_texts, request_by_texts-is, request_by_texts-memory, request_by_texts-right}
use Rattle.bitdo_work.proofs.program.make_run.Goals as goal

pub returns-in_default-clause-fault : goal.returns-in_default-clause-fault
returns-in_default-clause-fault g c = request_by_texts-memory _ _ _ _ _ (sym c.in_default.ensures.notation)

pub returns-in_default-parse_elements-clause-fault : goal.returns-in_default-parse_elements-clause-fault
returns-in_default-parse_elements-clause-fault g c = request_by_texts-right _ _ _ _ _ (sym c.in_default-parse_elements.ensures.notation)

pub returns-in_err-memory-clause-fault : goal.returns-in_err-memory-clause-fault
returns-in_err-memory-clause-fault g c =
    let some = IsSome-request_by_texts _ _ _ _ _ (sym c.in-Some.ensures.notation) (sym c.in-Some-parse_elements.ensures.notation) in
    let fault = err_from_is_err_and c.from_residual.result c.from_residual.ensures.1 in
    rw (fault.1, fault.2) (some, tt)

pub returns-in_err-right-clause-fault : goal.returns-in_err-right-clause-fault
returns-in_err-right-clause-fault g c =
    let some = IsSome-request_by_texts _ _ _ _ _ (sym c.in-Some.ensures.notation) (sym c.in-Some-parse_elements.ensures.notation) in
    let fault = err_from_is_err_and c.from_residual-in_err-right.result c.from_residual-in_err-right.ensures.1 in
    rw (fault.1, fault.2) (some, tt)

pub returns : goal.returns
returns g c =
    let memory = rw c.in_ok-memory.was at c.in-Some.ensures.read in
    let right = rw c.in_ok-right.was at c.in-Some-parse_elements.ensures.read in
    let made = rw c.as_slice.ensures.value at c.run_input.ensures in
    rw (request_by_texts-is _ _ _ _ _ _ _ memory right) (record { run = made.run; fault = made.fault; unread = λ none. absurd (cc none) })
