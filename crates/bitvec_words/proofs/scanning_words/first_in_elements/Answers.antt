use Rattle.std.proofs.Common.{◌≡◌, ◌/◌, arith, rules, sym, ◌∙◌, ap, Bool, List}
use Rattle.bitvec_base.specs.Lists.{first_place}
use Rattle.bitvec_base.specs.PlacesLaws.{first_place-nil}
use Rattle.bitvec_words.specs.WholeLaws.{list-empty}
use Rattle.bitvec_words.proofs.CostLemmas.{reads-both}
use Rattle.bitvec_words.proofs.SplitLemmas.{split-lacks}
use Rattle.bitvec_words.proofs.TurnLemmas.{turn_blocks, turn_whole}
use Rattle.bitvec_words.proofs.WordScanLemmas.{block, blocks-few, blocks-has, first-block_few, first-block_has, first-block_lacks, parted-blocks}
use Rattle.bitvec_words.proofs.scanning_words.first_in_elements.Goals as goal

pub loop-step-init : goal.loop-step-init
loop-step-init g c = record {
  none = sym (ap (λ (l : List Bool). first_place c.args.want l) (list-empty _ _ _ _ (omega arith)) ∙ first_place-nil c.args.want);
  reads = search rules;
}

pub first_in_blocks-requires : goal.first_in_blocks-requires
first_in_blocks-requires g c =
    rw (c.loop-step.invariant.reads.numbers, c.behind_pieces-turn.ensures, turn_blocks g.C.Elem.BitStore.BITS g.met.C.Elem.BitStore.width_law)
    (block _ 1024 c.args.first c.args.count c.loop-step.step g.met.C.Elem.BitStore.width_law c.requires (omega arith)).here

pub place_behind-requires : goal.place_behind-requires
place_behind-requires g c =
    let b = g.C.Elem.BitStore.BITS in
    let width = g.met.C.Elem.BitStore.width_law in
    let inv = c.loop-step.invariant in
    let here = block b 1024 c.args.first c.args.count c.loop-step.step width c.requires (omega arith) in
    first-block_few here g.O.BitOrder.at c.args.want inv.none 1024 _ (turn_whole b width) (rw (c.behind_pieces-turn.ensures, turn_blocks b width, inv.reads.numbers) at c.in-Some.ensures.value)

pub returns-in-Some : goal.returns-in-Some
returns-in-Some g c =
    let b = g.C.Elem.BitStore.BITS in
    let width = g.met.C.Elem.BitStore.width_law in
    let inv = c.loop-step.invariant in
    let here = block b 1024 c.args.first c.args.count c.loop-step.step width c.requires (omega arith) in
    let within = here.upto.within in
    let same = turn_blocks b width in
    rw c.place_behind.ensures
    (record {
      value = first-block_has here g.O.BitOrder.at c.args.want inv.none 1024 _ (turn_whole b width) (rw (c.behind_pieces-turn.ensures, same, inv.reads.numbers) at c.in-Some.ensures.value);
      reads = reads-both inv.reads c.in-Some.ensures.reads (omega arith);
    })

pub loop-step-preserved : goal.loop-step-preserved
loop-step-preserved g c =
    let b = g.C.Elem.BitStore.BITS in
    let width = g.met.C.Elem.BitStore.width_law in
    let inv = c.loop-step.invariant in
    let here = block b 1024 c.args.first c.args.count c.loop-step.step width c.requires (omega arith) in
    let same = turn_blocks b width in
    record {
      none = first-block_lacks here g.O.BitOrder.at c.args.want inv.none (rw (c.behind_pieces-turn.ensures, same, inv.reads.numbers) at c.in_default.ensures.value);
      reads = reads-both inv.reads c.in_default.ensures.reads (omega arith);
    }

pub returns-in_err-found : goal.returns-in_err-found
returns-in_err-found g c =
    let b = g.C.Elem.BitStore.BITS in
    let parts = parted-blocks b 1024 c.args.first c.args.count g.met.C.Elem.BitStore.width_law c.requires in
    let within = parts.within in
    let all : c.loop-step.step ≡ c.args.count / (1024 / b) = omega arith in
    let front = rw all at c.loop-step.invariant in
    let rest = rw (c.left_behind-next.ensures, front.reads.numbers) at c.in_err-found.ensures in
    rw c.from_residual.ensures
    (record { value = split-lacks parts.split g.O.BitOrder.at c.requires c.args.want front.none rest.value; reads = reads-both front.reads rest.reads (omega arith) })

pub place_behind-requires-2 : goal.place_behind-requires-2
place_behind-requires-2 g c =
    let b = g.C.Elem.BitStore.BITS in
    let width = g.met.C.Elem.BitStore.width_law in
    let parts = parted-blocks b 1024 c.args.first c.args.count width c.requires in
    let all : c.loop-step.step ≡ c.args.count / (1024 / b) = omega arith in
    let front = rw all at c.loop-step.invariant in
    rw c.pieces_of-turns.ensures
    (blocks-few 1024 parts (turn_whole b width) g.O.BitOrder.at c.args.want front.none (rw (c.left_behind-next.ensures, front.reads.numbers) at c.in_ok-found.ensures.value))

pub returns : goal.returns
returns g c =
    let b = g.C.Elem.BitStore.BITS in
    let width = g.met.C.Elem.BitStore.width_law in
    let parts = parted-blocks b 1024 c.args.first c.args.count width c.requires in
    let within = parts.within in
    let all : c.loop-step.step ≡ c.args.count / (1024 / b) = omega arith in
    let front = rw all at c.loop-step.invariant in
    let rest = rw (c.left_behind-next.ensures, front.reads.numbers) at c.in_ok-found.ensures in
    rw (c.place_behind-2.ensures, c.pieces_of-turns.ensures)
    (record { value = blocks-has 1024 parts (turn_whole b width) g.O.BitOrder.at c.args.want front.none rest.value; reads = reads-both front.reads rest.reads (omega arith) })
