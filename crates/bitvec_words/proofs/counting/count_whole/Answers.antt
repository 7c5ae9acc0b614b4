use Rattle.std.proofs.Common.{◌≡◌, ◌/◌, arith, rules, sym, ap, Bool, List, count_by}
use Rattle.bitvec_store.specs.WidthLaws.{width_some}
use Rattle.bitvec_words.specs.WholeLaws.{list-empty}
use Rattle.bitvec_words.proofs.CostLemmas.{reads-sum}
use Rattle.bitvec_words.proofs.CountLemmas.{count-block, count-block_few, count-few, count-left}
use Rattle.bitvec_words.proofs.WordScanLemmas.{block, block_words, parted-blocks}
use Rattle.bitvec_words.proofs.counting.count_whole.Goals as goal

pub loop-step-init : goal.loop-step-init
loop-step-init g c = record {
  ones = ap (λ (l : List Bool). count_by (λ (bit : Bool). bit) l) (sym (list-empty _ _ _ _ (omega arith)));
  reads = search rules;
}

pub count_words-ones-requires : goal.count_words-ones-requires
count_words-ones-requires g c =
    let width = g.met.C.Elem.BitStore.width_law in
    record {
      window = rw (c.loop-step.invariant.reads.numbers, c.behind_pieces-block.ensures, ← block_words _ width (omega arith)) (block _ 256 c.args.first c.args.count c.loop-step.step width c.requires (omega arith)).here;
      narrow = omega arith;
    }

pub overflow_add-ones : goal.overflow_add-ones
overflow_add-ones g c =
    let b = g.C.Elem.BitStore.BITS in
    let width = g.met.C.Elem.BitStore.width_law in
    let inv = c.loop-step.invariant in
    let here = block b 256 c.args.first c.args.count c.loop-step.step width c.requires (omega arith) in
    let few = count-block_few here inv.ones (rw (c.behind_pieces-block.ensures, ← block_words b width (omega arith), inv.reads.numbers) at c.count_words-ones.ensures.value) in
    omega arith

pub loop-step-preserved : goal.loop-step-preserved
loop-step-preserved g c =
    let b = g.C.Elem.BitStore.BITS in
    let width = g.met.C.Elem.BitStore.width_law in
    let inv = c.loop-step.invariant in
    let here = block b 256 c.args.first c.args.count c.loop-step.step width c.requires (omega arith) in
    let four = block_words b width (omega arith) in
    record { ones = count-block here inv.ones (rw (c.behind_pieces-block.ensures, ← four, inv.reads.numbers) at c.count_words-ones.ensures.value); reads = reads-sum inv.reads c.count_words-ones.ensures.reads (omega arith) }

pub overflow_add-result : goal.overflow_add-result
overflow_add-result g c =
    let b = g.C.Elem.BitStore.BITS in
    let width = g.met.C.Elem.BitStore.width_law in
    let parts = parted-blocks b 256 c.args.first c.args.count width c.requires in
    let all : c.loop-step.step ≡ c.args.count / (256 / b) = omega arith in
    let blocks = rw all at c.loop-step.invariant in
    let left = rw (c.left_behind-next.ensures, blocks.reads.numbers) at c.count_rest.ensures.value in
    let few = count-few g.O.BitOrder.at c.requires (count-left parts g.O.BitOrder.at (g.met.O.BitOrder.permutes _ width) (width_some _ width) blocks.ones left) in
    omega arith

pub returns : goal.returns
returns g c =
    let b = g.C.Elem.BitStore.BITS in
    let width = g.met.C.Elem.BitStore.width_law in
    let parts = parted-blocks b 256 c.args.first c.args.count width c.requires in
    let within = parts.within in
    let all : c.loop-step.step ≡ c.args.count / (256 / b) = omega arith in
    let blocks = rw all at c.loop-step.invariant in
    let left = rw (c.left_behind-next.ensures, blocks.reads.numbers) at c.count_rest.ensures in
    record { value = count-left parts g.O.BitOrder.at (g.met.O.BitOrder.permutes _ width) (width_some _ width) blocks.ones left.value; reads = reads-sum blocks.reads left.reads (omega arith) }
