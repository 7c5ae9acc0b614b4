use Rattle.std.proofs.Common.{◌≡◌, ◌*◌, arith, refl, rules}
use Rattle.bitvec_words.specs.WordLaws.{inside}
use Rattle.bitvec_combine.proofs.StretchActs.{element-alone, first-word, source-inside, source-word, stretch-join, stretch-none}
use Rattle.bitvec_combine.proofs.acting_equal.EqualPhases.act_on_stretch.Goals as goal

pub overflow_add-stretch : goal.overflow_add-stretch
overflow_add-stretch g c = record { fits = source-word _ g.met.C.Elem.BitStore.width_law c.requires c.loop-step.auto.step-end }

pub load-other-requires : goal.load-other-requires
load-other-requires g c = rw c.loop-step.invariant.right.numbers (source-inside _ c.requires c.loop-step-test.true)

pub overflow_add-stretch-in-loop-step : goal.overflow_add-stretch-in-loop-step
overflow_add-stretch-in-loop-step g c = record { fits = first-word _ g.met.C.Elem.BitStore.width_law c.requires c.loop-step.auto.step-end }

pub whole-requires : goal.whole-requires
whole-requires g c = inside _ _ _ _ _ _ g.met.C.Elem.BitStore.width_law c.requires.span.window c.loop-step-test.true (g.met.A.Act.kept_law _ _ _ _ _ _ _ c.loop-step.invariant.done)

pub loop-step-init : goal.loop-step-init
loop-step-init g c = record { done = stretch-none g.C.CellsRead.numbers g.A.Act.Done g.met.A.Act.empty_law 0 c.requires refl; right = search rules }

pub loop-step-preserved : goal.loop-step-preserved
loop-step-preserved g c =
    let inv = c.loop-step.invariant in
    let one : 1 * g.C.Elem.BitStore.BITS ≡ g.C.Elem.BitStore.BITS = omega arith in
    record {
      done = stretch-join g.C.CellsRead.numbers g.A.Act.Done g.met.A.Act.join_law c.loop-step.step 1 _ c.requires refl (omega arith) inv.done
          (rw (one, element-alone g.O.BitOrder.at c.loop-step.step c.requires c.loop-step-test.true) (rw (c.load-other.ensures.value, inv.right.numbers) at c.whole.ensures));
      right = search rules;
    }
