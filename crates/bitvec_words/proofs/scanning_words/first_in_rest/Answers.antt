use Rattle.std.proofs.Common.{◌≡◌, ◌/◌, arith, rules, sym, ◌∙◌, ap, Bool, List}
use Rattle.bitvec_store.specs.WidthLaws.{width_some}
use Rattle.bitvec_base.specs.Lists.{first_place}
use Rattle.bitvec_base.specs.PlacesLaws.{first_place-nil}
use Rattle.bitvec_words.specs.WholeLaws.{list-empty}
use Rattle.bitvec_words.specs.WordLaws.{word_whole}
use Rattle.bitvec_words.proofs.CostLemmas.{reads-before, reads-both, reads-exact, reads-most, reads-sum}
use Rattle.bitvec_words.proofs.ScanLemmas.{first_loads-elements}
use Rattle.bitvec_words.proofs.SplitLemmas.{split-lacks}
use Rattle.bitvec_words.proofs.WordScanLemmas.{block, blocks-few, blocks-has, first-block_few, first-block_has, first-block_lacks, parted-blocks}
use Rattle.bitvec_words.proofs.scanning_words.first_in_rest.Goals as goal

pub returns-then-BITS-ge-BITS-clause-reads : goal.returns-then-BITS-ge-BITS-clause-reads
returns-then-BITS-ge-BITS-clause-reads g c =
    let scan = c.first_whole.ensures in
    reads-most scan.reads (first_loads-elements g.O.BitOrder.at c.args.first c.args.count c.args.want (width_some _ g.met.C.Elem.BitStore.width_law) c.requires scan.value)

pub loop-step-init : goal.loop-step-init
loop-step-init g c = record {
  none = sym (ap (λ (l : List Bool). first_place c.args.want l) (list-empty _ _ _ _ (omega arith)) ∙ first_place-nil c.args.want);
  reads = search rules;
}

pub place_behind-requires : goal.place_behind-requires
place_behind-requires g c =
    let b = g.C.Elem.BitStore.BITS in
    let width = g.met.C.Elem.BitStore.width_law in
    let inv = c.loop-step.invariant in
    let here = block b 64 c.args.first c.args.count c.loop-step.step width c.requires (omega arith) in
    first-block_few here g.O.BitOrder.at c.args.want inv.none 64 _ (word_whole b width (omega arith)) (sym c.in-Some.is ∙ c.first_in_whole.ensures ∙ ap (first_place c.args.want) (rw inv.reads.numbers at c.load_word_behind-word.ensures.value))

pub returns-in-Some : goal.returns-in-Some
returns-in-Some g c =
    let b = g.C.Elem.BitStore.BITS in
    let width = g.met.C.Elem.BitStore.width_law in
    let inv = c.loop-step.invariant in
    let here = block b 64 c.args.first c.args.count c.loop-step.step width c.requires (omega arith) in
    let within = here.upto.within in
    rw c.place_behind.ensures
    (record {
      value = first-block_has here g.O.BitOrder.at c.args.want inv.none 64 _ (word_whole b width (omega arith)) (sym c.in-Some.is ∙ c.first_in_whole.ensures ∙ ap (first_place c.args.want) (rw inv.reads.numbers at c.load_word_behind-word.ensures.value));
      reads = reads-before inv.reads c.load_word_behind-word.ensures.reads (omega arith);
    })

pub loop-step-preserved : goal.loop-step-preserved
loop-step-preserved g c =
    let b = g.C.Elem.BitStore.BITS in
    let inv = c.loop-step.invariant in
    let here = block b 64 c.args.first c.args.count c.loop-step.step g.met.C.Elem.BitStore.width_law c.requires (omega arith) in
    record {
      none = first-block_lacks here g.O.BitOrder.at c.args.want inv.none (sym c.in_default.is ∙ c.first_in_whole.ensures ∙ ap (first_place c.args.want) (rw inv.reads.numbers at c.load_word_behind-word.ensures.value));
      reads = reads-sum inv.reads c.load_word_behind-word.ensures.reads (omega arith);
    }

pub returns-in_err-found : goal.returns-in_err-found
returns-in_err-found g c =
    let b = g.C.Elem.BitStore.BITS in
    let width = g.met.C.Elem.BitStore.width_law in
    let parts = parted-blocks b 64 c.args.first c.args.count width c.requires in
    let within = parts.within in
    let all : c.loop-step.step ≡ c.args.count / (64 / b) = omega arith in
    let front = rw all at c.loop-step.invariant in
    let rest = rw (c.left_behind-next.ensures, front.reads.numbers) at c.in_err-found.ensures in
    let most = first_loads-elements g.O.BitOrder.at _ _ c.args.want (width_some b width) parts.rest rest.value in
    rw c.from_residual.ensures
    (record { value = split-lacks parts.split g.O.BitOrder.at c.requires c.args.want front.none rest.value; reads = reads-both (reads-exact front.reads) rest.reads (omega arith) })

pub place_behind-requires-2 : goal.place_behind-requires-2
place_behind-requires-2 g c =
    let b = g.C.Elem.BitStore.BITS in
    let width = g.met.C.Elem.BitStore.width_law in
    let parts = parted-blocks b 64 c.args.first c.args.count width c.requires in
    let all : c.loop-step.step ≡ c.args.count / (64 / b) = omega arith in
    let front = rw all at c.loop-step.invariant in
    rw c.pieces_of-words.ensures
    (blocks-few 64 parts (word_whole b width (omega arith)) g.O.BitOrder.at c.args.want front.none (rw (c.left_behind-next.ensures, front.reads.numbers) at c.in_ok-found.ensures.value))

pub returns : goal.returns
returns g c =
    let b = g.C.Elem.BitStore.BITS in
    let width = g.met.C.Elem.BitStore.width_law in
    let parts = parted-blocks b 64 c.args.first c.args.count width c.requires in
    let within = parts.within in
    let all : c.loop-step.step ≡ c.args.count / (64 / b) = omega arith in
    let front = rw all at c.loop-step.invariant in
    let rest = rw (c.left_behind-next.ensures, front.reads.numbers) at c.in_ok-found.ensures in
    let most = first_loads-elements g.O.BitOrder.at _ _ c.args.want (width_some b width) parts.rest rest.value in
    rw (c.place_behind-2.ensures, c.pieces_of-words.ensures)
    (record { value = blocks-has 64 parts (word_whole b width (omega arith)) g.O.BitOrder.at c.args.want front.none rest.value; reads = reads-both (reads-exact front.reads) rest.reads (omega arith) })
