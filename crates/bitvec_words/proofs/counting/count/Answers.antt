use Rattle.std.proofs.Common.{arith, refl, sym, ◌∙◌, ap, Bool, List, count_by}
use Rattle.bitvec_cells.specs.WalkLaws.{touched-none}
use Rattle.bitvec_words.specs.TouchedLaws.{touched-empty}
use Rattle.bitvec_words.specs.WholeLaws.{list-empty, window-end}
use Rattle.bitvec_words.proofs.CostLemmas.{reads-is, reads-sum}
use Rattle.bitvec_words.proofs.CountLemmas.{count-few}
use Rattle.bitvec_words.proofs.SplitLemmas.{HasPart-is, HasWindow-behind, HasWindow-front, list-all, split-count}
use Rattle.bitvec_words.proofs.counting.count.Goals as goal

pub returns-then-window-eq0 : goal.returns-then-window-eq0
returns-then-window-eq0 g c =
    let none = c.if-window-eq0.true in
    let nothing = touched-none g.C.Elem.BitStore.BITS c.args.window.start in
    record {
      value = ap (λ (l : List Bool). count_by (λ (bit : Bool). bit) l) (sym (list-empty _ _ _ _ none));
      reads = rw none (record { numbers = refl; borrow = refl; loads = omega arith; stores = refl });
    }

pub split_head-requires : goal.split_head-requires
split_head-requires g c = record { some = omega arith; end = window-end c.requires }

pub count_part-ones-requires : goal.count_part-ones-requires
count_part-ones-requires g c = HasPart-is c.split_head.ensures.part (HasWindow-front c.split_head.ensures.split c.requires)

pub returns-then-rest-eq0 : goal.returns-then-rest-eq0
returns-then-rest-eq0 g c =
    let split = c.split_head.ensures.split in
    let nothing = touched-empty g.C.Elem.BitStore.BITS c.split_head.result.1.start _ c.if-rest-eq0.true in
    record {
      value = c.count_part-ones.ensures.value ∙ ap (λ (l : List Bool). count_by (λ (bit : Bool). bit) l) (list-all split c.if-rest-eq0.true g.O.BitOrder.at _);
      reads = reads-is c.count_part-ones.ensures.reads (omega (arith, c.split_head.ensures.touched));
    }

pub count_aligned-requires-2 : goal.count_aligned-requires-2
count_aligned-requires-2 g c =
    let split = c.split_head.ensures.split in
    rw c.count_part-ones.ensures.reads.numbers (record { window = HasWindow-behind split c.requires; edge = split.edge (omega arith) })

pub overflow_add-result : goal.overflow_add-result
overflow_add-result g c =
    let rest = rw c.count_part-ones.ensures.reads.numbers at c.count_aligned-2.ensures.value in
    let few = count-few g.O.BitOrder.at c.requires (split-count c.split_head.ensures.split g.O.BitOrder.at c.requires _ _ c.count_part-ones.ensures.value rest) in
    omega arith

pub returns : goal.returns
returns g c =
    let split = c.split_head.ensures.split in
    let rest = rw c.count_part-ones.ensures.reads.numbers at c.count_aligned-2.ensures in
    record {
      value = split-count split g.O.BitOrder.at c.requires _ _ c.count_part-ones.ensures.value rest.value;
      reads = reads-sum c.count_part-ones.ensures.reads rest.reads (omega arith);
    }
