use Rattle.std.proofs.Common.{arith, sym, ◌∙◌, ap, Bool, List}
use Rattle.bitvec_base.specs.Lists.{last_place}
use Rattle.bitvec_base.specs.Parts.{part_window}
use Rattle.bitvec_base.specs.PlacesLaws.{last_place-nil}
use Rattle.bitvec_store.specs.WidthLaws.{width_some}
use Rattle.bitvec_words.specs.WholeLaws.{list-empty, window-end}
use Rattle.bitvec_words.proofs.CostLemmas.{reads-both, reads-exact, reads-most}
use Rattle.bitvec_words.proofs.ScanLemmas.{last-inside, last_loads-some}
use Rattle.bitvec_words.proofs.SplitLemmas.{HasPart-is, HasWindow-behind, HasWindow-front, last-loads_behind, last-loads_front, list-all, split-last, split-last_few, split-last_front}
use Rattle.bitvec_words.proofs.scanning.bits_scan_last.Goals as goal

pub returns-then-window-eq0-clause-value : goal.returns-then-window-eq0-clause-value
returns-then-window-eq0-clause-value g c =
    sym (ap (λ (l : List Bool). last_place c.args.want l) (list-empty _ _ _ _ c.if-window-eq0.true) ∙ last_place-nil c.args.want)

pub split_head-requires : goal.split_head-requires
split_head-requires g c = record { some = omega arith; end = window-end c.requires }

pub last_in_part-requires : goal.last_in_part-requires
last_in_part-requires g c = HasPart-is c.split_head.ensures.part (HasWindow-front c.split_head.ensures.split c.requires)

pub returns-then-rest-eq0 : goal.returns-then-rest-eq0
returns-then-rest-eq0 g c =
    let value = c.last_in_part.ensures.value ∙ ap (last_place c.args.want) (list-all c.split_head.ensures.split c.if-rest-eq0.true g.O.BitOrder.at _) in
    let some = last_loads-some g.C.Elem.BitStore.BITS c.args.window _ (omega arith) (last-inside g.O.BitOrder.at c.args.want c.requires value) in
    record { value = value; reads = reads-most (reads-exact c.last_in_part.ensures.reads) some }

pub last_aligned-requires : goal.last_aligned-requires
last_aligned-requires g c =
    let split = c.split_head.ensures.split in
    record { window = HasWindow-behind split c.requires; edge = split.edge (omega arith) }

pub overflow_add-result : goal.overflow_add-result
overflow_add-result g c = let few = split-last_few c.split_head.ensures.split g.O.BitOrder.at c.requires c.args.want _ c.in-Some.ensures.value in omega arith

pub returns-in-Some : goal.returns-in-Some
returns-in-Some g c =
    let split = c.split_head.ensures.split in
    let same = last-loads_behind split (width_some _ g.met.C.Elem.BitStore.width_law) c.in-Some.found in
    rw c.len.ensures
    (record { value = split-last split g.O.BitOrder.at c.requires c.args.want _ c.in-Some.ensures.value; reads = reads-most c.in-Some.ensures.reads (omega arith) })

pub last_in_part-requires-2 : goal.last_in_part-requires-2
last_in_part-requires-2 g c = rw c.in_default.ensures.reads.numbers (HasPart-is c.split_head.ensures.part (HasWindow-front c.split_head.ensures.split c.requires))

pub returns : goal.returns
returns g c =
    let split = c.split_head.ensures.split in
    let here = rw c.in_default.ensures.reads.numbers at c.last_in_part-2.ensures in
    let inside = last-inside g.O.BitOrder.at c.args.want (HasWindow-front split c.requires) here.value in
    let most = last-loads_front split (width_some _ g.met.C.Elem.BitStore.width_law) _ inside in
    let some = last_loads-some g.C.Elem.BitStore.BITS (part_window g.C.Elem.BitStore.BITS c.split_head.result.0) _ (omega arith) inside in
    record {
      value = split-last_front split g.O.BitOrder.at c.requires c.args.want _ c.in_default.ensures.value here.value;
      reads = reads-both c.in_default.ensures.reads (reads-exact here.reads) (omega arith);
    }
