use Rattle.std.proofs.Common.{arith, map, refl, ◌∙◌}
use Rattle.std.proofs.lemmas.List.{length-replicate}
use Rattle.bitvec_base.specs.Lists.{combined}
use Rattle.bitvec_base.specs.ListsLaws.{length-combined}
use Rattle.bitvec_base.specs.Memory.{list_in}
use Rattle.bitvec_base.specs.WritesLaws.{length-list}
use Rattle.bitvec_words.specs.Operator.{operator}
use Rattle.bitvec_elements.proofs.RecutLemmas.{block-combined}
use Rattle.bitvec_elements.proofs.StoreLemmas.{stretch-all, stretch-none}
use Rattle.bitvec_elements.proofs.combining.combine_blocks.Goals as goal

pub loop-start-init : goal.loop-start-init
loop-start-init g c = record {
  fits = omega arith;
  count = length-replicate _ _;
  writes = stretch-none _ _ _ _ c.args.to (combined (operator c.args.op) (list_in g.T.BitStore.BITS g.W.BitOrder.at (map g.T.BitStore.value c.args.left.now) c.args.to) (list_in g.U.BitStore.BITS g.P.BitOrder.at (map g.U.BitStore.value c.args.right.now) c.args.from)) c.requires.window refl;
}

pub loop-start-preserved : goal.loop-start-preserved
loop-start-preserved g c =
    record {
      fits = omega arith;
      count = c.hold-held.ensures.count ∙ c.loop-start.invariant.count;
      writes = block-combined g.P.BitOrder.at (operator c.args.op) c.loop-start.start _ c.args.from.len c.requires.window c.requires.right_window refl (omega arith) (omega arith) c.range.ensures (rw (c.min-in-loop-start.ensures, c.min-in-loop-start-2.ensures) at c.range-other.ensures) c.hold-held.ensures.bits c.loop-start.invariant.writes c.combine_block_in.ensures.writes;
    }

pub returns : goal.returns
returns g c =
    let long = length-list g.W.BitOrder.at c.requires.window in
    let list = combined (operator c.args.op) (list_in g.T.BitStore.BITS g.W.BitOrder.at (map g.T.BitStore.value c.args.left.now) c.args.to) (list_in g.U.BitStore.BITS g.P.BitOrder.at (map g.U.BitStore.value c.args.right.now) c.args.from) in
    record { writes = stretch-all c.args.to {list = list} c.loop-start.start (omega arith) (length-combined (operator c.args.op) _ _ ∙ long) c.loop-start.invariant.writes }
