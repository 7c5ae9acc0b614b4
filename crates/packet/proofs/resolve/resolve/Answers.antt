use Rattle.std.proofs.Common.{ℕ, ◌+◌, List, [], get_or, map, inr, sym, subst, arith}
use Rattle.std.proofs.lemmas.Grind.{common_steps}
use Rattle.std.proofs.lemmas.List.{get_or-map, length-map}
use Rattle.std.proofs.lemmas.Result.{err_from_is_err_and}
use Rattle.packet.specs.Arguments.{Named, named}
use Rattle.packet.specs.Packets.{places_of}
use Rattle.packet.specs.Resolved.{ChangeFault, IsChange, asked_at}
use Rattle.packet.specs.declared.changes.Change.{Change}
use Rattle.packet.proofs.PlaceLaws.{each-change}
use Rattle.packet.proofs.resolve.resolve.Goals as goal

pub returns-in_err-change-clause-fault : goal.returns-in_err-change-clause-fault
returns-in_err-change-clause-fault g c =
    let fault = err_from_is_err_and c.from_residual.result c.from_residual.ensures.1 in
    let fields = places_of c.args.fields.now in
    let list = map named c.args.assignments.now in
    let i : ℕ = c.loop-index.index in
    let size = length-map c.args.assignments.now named in
    let asked = get_or-map named c.args.assignments.now i _ (record { name = []; value = 0 }) (omega arith) in
    rw (fault.1, fault.2) (inr (record {
      index = i;
      below = omega arith;
      before = λ k low. (get_or c.loop-index.changes.items k (record { number = 0; value = 0 }), c.loop-index.invariant.each k low);
      comes = subst (λ (n : Named). ChangeFault fields n (i + 1) c.in_err-change.field-0.0) (sym asked) c.in_err-change.ensures.fault;
    }))

pub loop-index-preserved : goal.loop-index-preserved
loop-index-preserved g c =
    let fields = places_of c.args.fields.now in
    let list = map named c.args.assignments.now in
    let i : ℕ = c.loop-index.index in
    let asked = get_or-map named c.args.assignments.now i _ (record { name = []; value = 0 }) (omega arith) in
    let one : IsChange fields (asked_at list i) c.in_ok-change.change = subst (λ (n : Named). IsChange fields n c.in_ok-change.change) (sym asked) c.in_ok-change.ensures.change in
    record {
      count = grind (arith, common_steps);
      each = λ k low. subst (λ (l : List Change). IsChange fields (asked_at list k) (get_or l k (record { number = 0; value = 0 }))) (sym c.in_ok-push.ensures.items)
          (each-change fields list c.loop-index.changes.items c.in_ok-change.change i c.loop-index.invariant.count c.loop-index.invariant.each one k low);
    }

pub returns-clause-changes : goal.returns-clause-changes
returns-clause-changes g c =
    let many = length-map c.args.assignments.now named in
    let count = c.loop-index.invariant.count in
    record { count = omega arith; each = λ k low. c.loop-index.invariant.each k (omega arith) }
