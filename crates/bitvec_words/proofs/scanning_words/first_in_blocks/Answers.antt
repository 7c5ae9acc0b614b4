use Rattle.std.proofs.Common.{arith, rules, sym, ◌∙◌, ap, Bool, List, ◌≡◌}
use Rattle.bitvec_base.specs.Lists.{first_place}
use Rattle.bitvec_base.specs.PlacesLaws.{first_place-nil}
use Rattle.bitvec_words.specs.WholeLaws.{list-empty}
use Rattle.bitvec_words.proofs.CostLemmas.{reads-before, reads-exact, reads-sum}
use Rattle.bitvec_words.proofs.TurnLemmas.{block-of}
use Rattle.bitvec_words.proofs.WordScanLemmas.{block_whole, first-block_few, first-block_has, first-block_lacks}
use Rattle.bitvec_words.proofs.scanning_words.first_in_blocks.Goals as goal

pub loop-step-init : goal.loop-step-init
loop-step-init g c = record {
  none = sym (ap (λ (l : List Bool). first_place c.args.want l) (list-empty _ _ _ _ (omega arith)) ∙ first_place-nil c.args.want);
  reads = search rules;
}

pub place_behind-requires : goal.place_behind-requires
place_behind-requires g c =
    let b = g.C.Elem.BitStore.BITS in
    let width = g.met.C.Elem.BitStore.width_law in
    let inv = c.loop-step.invariant in
    let here = block-of b 256 c.args.first c.args.count c.loop-step.step width c.requires c.loop-step-test.true in
    first-block_few here g.O.BitOrder.at c.args.want inv.none 256 _ (block_whole b width) (rw (c.behind_pieces-block.ensures, inv.reads.numbers) at c.in-Some.ensures.value)

pub returns-in-Some : goal.returns-in-Some
returns-in-Some g c =
    let b = g.C.Elem.BitStore.BITS in
    let width = g.met.C.Elem.BitStore.width_law in
    let inv = c.loop-step.invariant in
    let here = block-of b 256 c.args.first c.args.count c.loop-step.step width c.requires c.loop-step-test.true in
    let few = here.upto.within in
    rw c.place_behind.ensures
    (record {
      value = first-block_has here g.O.BitOrder.at c.args.want inv.none 256 _ (block_whole b width) (rw (c.behind_pieces-block.ensures, inv.reads.numbers) at c.in-Some.ensures.value);
      reads = reads-before inv.reads c.in-Some.ensures.reads (omega arith);
    })

pub loop-step-preserved : goal.loop-step-preserved
loop-step-preserved g c =
    let inv = c.loop-step.invariant in
    let here = block-of _ 256 c.args.first c.args.count c.loop-step.step g.met.C.Elem.BitStore.width_law c.requires c.loop-step-test.true in
    record {
      none = first-block_lacks here g.O.BitOrder.at c.args.want inv.none (rw (c.behind_pieces-block.ensures, inv.reads.numbers) at c.in_default.ensures.value);
      reads = reads-sum inv.reads c.in_default.ensures.reads (omega arith);
    }

pub returns : goal.returns
returns g c =
    let all : c.loop-step.step ≡ c.args.count = omega arith in
    let inv = rw all at c.loop-step.invariant in
    record { value = inv.none; reads = reads-exact inv.reads }
