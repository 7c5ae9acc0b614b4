use Rattle.std.proofs.Common.{arith, rules, sym, ap, Bool, List, count_by}
use Rattle.bitvec_store.specs.WidthLaws.{width_some}
use Rattle.bitvec_words.specs.WholeLaws.{elements-inside, list-empty}
use Rattle.bitvec_words.proofs.CountLemmas.{count-block, count-block_few, word-block, word-ones}
use Rattle.bitvec_words.proofs.SliceWordLemmas.{word-listed}
use Rattle.bitvec_words.proofs.counting.count_words.Goals as goal

pub loop-step-init : goal.loop-step-init
loop-step-init g c = record {
  ones = ap (λ (l : List Bool). count_by (λ (bit : Bool). bit) l) (sym (list-empty _ _ _ _ (omega arith)));
  reads = search rules;
}

pub load_word-requires : goal.load_word-requires
load_word-requires g c =
    let width = g.met.C.Elem.BitStore.width_law in
    rw (c.loop-step.invariant.reads.numbers, c.behind_pieces-word.ensures) (elements-inside _ _ (width_some _ width) (word-block _ c.args.first c.args.count c.loop-step.step width c.requires.window c.loop-step-test.true).here)

pub overflow_add-ones : goal.overflow_add-ones
overflow_add-ones g c =
    let width = g.met.C.Elem.BitStore.width_law in
    let inv = c.loop-step.invariant in
    let here = word-block _ c.args.first c.args.count c.loop-step.step width c.requires.window c.loop-step-test.true in
    let few = count-block_few here inv.ones (word-ones c.load_word.result (word-listed _ width c.requires.narrow _ _ _ here.here (rw (c.behind_pieces-word.ensures, inv.reads.numbers) at c.load_word.ensures.digits)) (omega arith)) in
    omega arith

pub loop-step-preserved : goal.loop-step-preserved
loop-step-preserved g c =
    let width = g.met.C.Elem.BitStore.width_law in
    let inv = c.loop-step.invariant in
    let here = word-block _ c.args.first c.args.count c.loop-step.step width c.requires.window c.loop-step-test.true in
    record { ones = count-block here inv.ones (word-ones c.load_word.result (word-listed _ width c.requires.narrow _ _ _ here.here (rw (c.behind_pieces-word.ensures, inv.reads.numbers) at c.load_word.ensures.digits)) (omega arith)); reads = search rules }
