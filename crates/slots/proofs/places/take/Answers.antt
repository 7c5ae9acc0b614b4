use Rattle.std.proofs.Common.{◌≡◌, Bool, List, false, refl, subst, arith}
use Rattle.bitvec.specs.Fits.{HasNoRun, IsFirstRun}
use Rattle.bitvec.specs.Laws.{lengths}
use Rattle.bitvec.specs.Views.{seen, seen_mut}
use Rattle.slots.proofs.places.take.Goals as goal

pub returns-in_err-start-clause-full : goal.returns-in_err-start-clause-full
returns-in_err-start-clause-full g c =
    let same : (seen c.as_ref.result).bits ≡ (seen_mut c.args.places.now).bits = λ i. (c.as_ref.ensures i).bits in
    rw c.from_residual.ensures (subst (λ (bits : List Bool). HasNoRun false bits c.args.count) same c.in_err-start.ensures.none)

pub overflow_add-end : goal.overflow_add-end
overflow_add-end g c =
    let inside = c.in_ok-start.ensures.fit.run.inside in
    grind (arith, lengths)

pub returns-clause-first : goal.returns-clause-first
returns-clause-first g c =
    let same : (seen c.as_ref.result).bits ≡ (seen_mut c.args.places.now).bits = λ i. (c.as_ref.ensures i).bits in
    record { run = subst (λ (bits : List Bool). IsFirstRun false bits c.args.count c.in_ok-start.start) same c.in_ok-start.ensures.fit; long = refl }
