use Rattle.std.proofs.Common.{◌<◌, ◌≤◌, ◌+◌, ◌*◌, ◌%◌, [], arith, map, replicate, refl, ◌∙◌}
use Rattle.std.proofs.lemmas.List.{length-map, length-replicate}
use Rattle.std.proofs.lemmas.Nat.{mod_below}
use Rattle.bitvec_base.specs.WritesLaws.{length-list}
use Rattle.bitvec_store.specs.WidthLaws.{width_some}
use Rattle.bitvec_elements.proofs.StoreLemmas.{stretch-all, stretch-none}
use Rattle.bitvec_checked.proofs.BlockLemmas.{block-filled, block-ready, next-phase}
use Rattle.bitvec_checked.proofs.EveryLemmas.{length-with_every}
use Rattle.bitvec_checked.proofs.every.fill_blocks.Goals as goal

pub loop-from-init : goal.loop-from-init
loop-from-init g c = record {
  fits = omega arith;
  phase = λ more. omega arith;
  writes = stretch-none _ g.O.BitOrder.at _ _ c.args.window [] c.requires.window refl;
}

pub loop-from-preserved : goal.loop-from-preserved
loop-from-preserved g c =
    let at = g.O.BitOrder.at in
    let inv = c.loop-from.invariant in
    let from = c.loop-from.from in
    let zero = inv.phase c.loop-from-test.true in
    let size = rw c.BITS-bits.ensures at c.min-size.ensures in
    let fits : c.min-size.result ≤ 512 * g.T.BitStore.BITS = omega (arith, size) in
    let some = width_some g.T.BitStore.BITS g.met.T.BitStore.width_law in
    let below : c.args.window.start % c.BITS-bits.result < g.T.BitStore.BITS = rw c.BITS-bits.ensures (mod_below c.args.window.start g.T.BitStore.BITS some) in
    let zeros = replicate 513 c.ZERO-block.result in
    let ready = block-ready _ at c.args.step c.args.bit (map g.T.BitStore.value zeros) _ _ _ c.min-size.result g.met.T.BitStore.width_law (length-map zeros g.T.BitStore.value ∙ length-replicate 513 c.ZERO-block.result) below refl fits c.fill_in.ensures.writes c.fill_each.ensures.writes in
    record {
      fits = omega arith;
      phase = λ more. next-phase from c.min-size.result c.min-count.result c.args.window.len c.args.step (512 * g.T.BitStore.BITS) c.requires.some zero size c.min-count.ensures more;
      writes = block-filled _ at c.args.step c.args.bit c.args.op _ _ _ _ c.args.window _ _ _ from (from + c.min-count.result) c.min-count.result c.min-size.result c.requires.sets c.requires.clears c.requires.window ready.0 refl
          zero refl (omega arith) (omega arith) c.range-part.ensures c.range.ensures ready.1 inv.writes c.combine_block_in.ensures.writes;
    }

pub returns : goal.returns
returns g c =
    let long = length-list g.O.BitOrder.at c.requires.window in
    record { writes = stretch-all c.args.window c.loop-from.from (omega arith) (length-with_every c.args.step (λ k. c.args.bit) _ ∙ long) c.loop-from.invariant.writes }
