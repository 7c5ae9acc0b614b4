use Rattle.std.proofs.Common.{◌<◌, [], ◌∷◌, length, map, take, arith, ap, sym, ◌∙◌, add-one}
use Rattle.std.proofs.lemmas.Grind.{common_steps}
use Rattle.std.proofs.lemmas.List.{map-append, take_more_set}
use Rattle.std.proofs.lemmas.Nat.{and_mask}
use Rattle.bitvec_store.specs.DigitLaws.{digits-more}
use Rattle.bitvec_store.proofs.store.BitStore.store_word.Goals as goal

pub loop-step-preserved : goal.loop-step-preserved
loop-step-preserved g c =
    let b = g.Self.BitStore.BITS in
    let value = g.Self.BitStore.value in
    let step = c.loop-step.step in
    let xs = c.loop-step.elements in
    let inside : step < length xs = grind arith in
    let digit = rw (c.BITS-in-loop-step.ensures, c.to_u128.ensures.number, c.ALL.ensures, g.met.Self.BitStore.all_law, and_mask) at c.from_u128.ensures in
    record {
      digits =
          ap (map value) (take_more_set xs step c.from_u128.result inside)
          ∙ map-append value (take step xs) (c.from_u128.result ∷ [])
          ∙ (rw (c.loop-step.invariant.digits, digit, add-one) (sym (digits-more b step c.args.word)));
      others = grind (arith, common_steps);
      elements = grind (arith, common_steps);
    }
