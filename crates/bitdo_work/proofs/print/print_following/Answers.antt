use Rattle.std.proofs.Common.{◌≡◌, ◌<◌, ◌^◌, take, subst, arith}
use Rattle.std.specs.Prelude.{All}
use Rattle.std.proofs.lemmas.Grind.{common_steps}
use Rattle.std.proofs.lemmas.List.{take_all}
use Rattle.std.proofs.lemmas.List.Elements.{All-map}
use Rattle.std.proofs.lemmas.List.Folds.{flat_map-map}
use Rattle.bitdo_work.proofs.print.print_following.Goals as goal

pub loop-element-preserved : goal.loop-element-preserved
loop-element-preserved g c = grind (arith, common_steps)

pub returns-clause-text : goal.returns-clause-text
returns-clause-text g c = rw flat_map-map (grind (arith, common_steps))

pub returns-clause-in_range : goal.returns-clause-in_range
returns-clause-in_range g c =
    let whole : take c.loop-element.element-index c.args.elements.now ≡ c.args.elements.now = take_all c.loop-element.element-index c.args.elements.now (omega arith) in
    All-map (λ number. number < 2 ^ g.T.BitStore.BITS) g.T.BitStore.value c.args.elements.now
    (subst (All (λ element. g.T.BitStore.value element < 2 ^ g.T.BitStore.BITS)) whole c.loop-element.invariant.1)
