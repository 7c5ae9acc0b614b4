use Rattle.std.proofs.Common.{◌≡◌, ◌*◌, ◌∙◌, ap, arith, refl, rules, slice_index}
use Rattle.bitvec_combine.proofs.StretchActs.{element-joined, first-word, skip-some, source-word, stretch-join, stretch-none}
use Rattle.bitvec_words.specs.WordLaws.{inside}
use Rattle.bitvec_words.specs.MovedPlaceLaws.{next-inside, next-word}
use Rattle.bitvec_combine.proofs.acting_shifted.act_carried.Goals as goal

pub load-requires : goal.load-requires
load-requires g c = rw c.loop-step.invariant.right.numbers (next-inside _ _ _ _ _ _ _ c.requires.stretch.span.beside (skip-some _ c.requires.stretch.phases) c.loop-step-test.true refl)

pub overflow_add-source-in-loop-step : goal.overflow_add-source-in-loop-step
overflow_add-source-in-loop-step g c = record { fits = next-word _ _ _ _ g.met.C.Elem.BitStore.width_law c.requires.stretch.span.beside (skip-some _ c.requires.stretch.phases) c.loop-step-test.true }

pub overflow_add-first : goal.overflow_add-first
overflow_add-first g c = record { fits = first-word _ g.met.C.Elem.BitStore.width_law c.requires.stretch c.loop-step.auto.step-end }

pub whole-requires : goal.whole-requires
whole-requires g c = inside _ _ _ _ _ _ g.met.C.Elem.BitStore.width_law c.requires.stretch.span.window c.loop-step-test.true (g.met.A.Act.kept_law _ _ _ _ _ _ _ c.loop-step.invariant.done)

pub loop-step-init : goal.loop-step-init
loop-step-init g c = record { done = stretch-none g.C.CellsRead.numbers g.A.Act.Done g.met.A.Act.empty_law 0 c.requires.stretch refl; carried = search rules; right = search rules }

pub loop-step-preserved : goal.loop-step-preserved
loop-step-preserved g c =
    let inv = c.loop-step.invariant in
    let value = c.of-next.ensures ∙ rw inv.right.numbers at c.load.ensures.value in
    let one : 1 * g.C.Elem.BitStore.BITS ≡ g.C.Elem.BitStore.BITS = omega arith in
    record {
      done = stretch-join g.C.CellsRead.numbers g.A.Act.Done g.met.A.Act.join_law c.loop-step.step 1 _ c.requires.stretch refl (omega arith) inv.done
          (rw (one, element-joined g.O.BitOrder.at c.loop-step.step c.requires.stretch c.loop-step-test.true) (rw (c.joined-other.ensures, inv.carried, value) at c.whole.ensures));
      carried = value ∙ ap (slice_index (g.D.CellsRead.numbers c.args.right.now)) (omega arith);
      right = search rules;
    }

pub overflow_add-source : goal.overflow_add-source
overflow_add-source g c = record { fits = source-word _ g.met.C.Elem.BitStore.width_law c.requires.stretch c.loop-step.auto.step-end }
