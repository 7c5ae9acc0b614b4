use Rattle.std.proofs.Common.{arith, ◌∙◌, ap, refl}
use Rattle.bitvec_base.specs.Lists.{last_place}
use Rattle.bitvec_store.specs.WidthLaws.{width_some}
use Rattle.bitvec_words.specs.WholeLaws.{window-end}
use Rattle.bitvec_words.proofs.CostLemmas.{reads-both, reads-exact, reads-most}
use Rattle.bitvec_words.proofs.ScanLemmas.{last-inside, last_loads-some}
use Rattle.bitvec_words.proofs.SplitLemmas.{HasPart-is, HasWindow-behind, HasWindow-front, last-loads_front, last_loads-all, list-all, split-last, split-last_few, split-last_front, touched-part}
use Rattle.bitvec_words.proofs.scanning.last_aligned.Goals as goal

pub split_tail-first-requires : goal.split_tail-first-requires
split_tail-first-requires g c = record { edge = c.requires.edge; end = window-end c.requires.window }

pub last_whole-requires : goal.last_whole-requires
last_whole-requires g c = HasWindow-front c.split_tail-first.ensures.split c.requires.window

pub returns-then-tail-eq0 : goal.returns-then-tail-eq0
returns-then-tail-eq0 g c =
    let split = c.split_tail-first.ensures.split in
    let same = last_loads-all split (omega arith) c.last_whole.result in
    record {
      value = c.last_whole.ensures.value ∙ ap (last_place c.args.want) (list-all split (omega arith) g.O.BitOrder.at _);
      reads = reads-most c.last_whole.ensures.reads (omega arith);
    }

pub last_in_part-requires : goal.last_in_part-requires
last_in_part-requires g c =
    let told = c.split_tail-first.ensures in
    HasPart-is (told.part c.if-tail-eq0.false) (HasWindow-behind told.split c.requires.window)

pub bit_behind-requires : goal.bit_behind-requires
bit_behind-requires g c = split-last_few c.split_tail-first.ensures.split g.O.BitOrder.at c.requires.window c.args.want _ c.in-Some.ensures.value

pub returns-in-Some : goal.returns-in-Some
returns-in-Some g c =
    let found = split-last c.split_tail-first.ensures.split g.O.BitOrder.at c.requires.window c.args.want _ c.in-Some.ensures.value in
    let inside = last-inside g.O.BitOrder.at c.args.want c.requires.window found in
    let some = last_loads-some g.C.Elem.BitStore.BITS c.args.window _ (omega (arith, inside _ refl)) inside in
    rw c.bit_behind.ensures (record { value = found; reads = reads-most (reads-exact c.in-Some.ensures.reads) some })

pub last_whole-requires-2 : goal.last_whole-requires-2
last_whole-requires-2 g c = rw c.in_default.ensures.reads.numbers (HasWindow-front c.split_tail-first.ensures.split c.requires.window)

pub returns : goal.returns
returns g c =
    let told = c.split_tail-first.ensures in
    let here = rw c.in_default.ensures.reads.numbers at c.last_whole-2.ensures in
    let most = last-loads_front told.split (width_some _ g.met.C.Elem.BitStore.width_law) _ (last-inside g.O.BitOrder.at c.args.want (HasWindow-front told.split c.requires.window) here.value) in
    let part = touched-part (told.part c.if-tail-eq0.false) in
    record {
      value = split-last_front told.split g.O.BitOrder.at c.requires.window c.args.want _ c.in_default.ensures.value here.value;
      reads = reads-both (reads-exact c.in_default.ensures.reads) here.reads (omega arith);
    }
