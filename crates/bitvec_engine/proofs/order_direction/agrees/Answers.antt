use Rattle.std.proofs.Common.{◌≡◌, ◌≢◌, arith, refl, sym, ◌∙◌, ⊎_elim}
use Rattle.std.proofs.lemmas.Bool.{cases_eq}
use Rattle.bitvec_engine.proofs.order_direction.agrees.Goals as goal

pub loop-index-init : goal.loop-index-init
loop-index-init g c i below = absurd (omega arith)

pub loop-index-preserved : goal.loop-index-preserved
loop-index-preserved g c i below =
    let index = c.loop-index.index in
    ⊎_elim
    (λ (here : i ≡ index). rw here (sym c.at.ensures ∙ c.if-at.false ∙ c.at-in-loop-index.ensures))
    (λ (other : i ≢ index). c.loop-index.invariant i (omega arith))
    (cases_eq i index)

-- an index was met whose bits differ
pub returns-then-at : goal.returns-then-at
returns-then-at g c = (λ told. cc, λ agrees. absurd (c.if-at.true (c.at.ensures ∙ agrees c.loop-index.index (omega arith) ∙ sym c.at-in-loop-index.ensures)))

pub returns : goal.returns
returns g c = (λ told i below. let bits = c.BITS-index-end.ensures in c.loop-index.invariant i (omega arith), λ agrees. refl)
