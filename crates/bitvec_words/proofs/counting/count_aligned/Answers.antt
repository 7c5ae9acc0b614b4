use Rattle.std.proofs.Common.{arith, ◌∙◌, ap, Bool, List, count_by}
use Rattle.bitvec_words.specs.WholeLaws.{window-end}
use Rattle.bitvec_words.proofs.CostLemmas.{reads-is, reads-sum}
use Rattle.bitvec_words.proofs.CountLemmas.{count-few}
use Rattle.bitvec_words.proofs.SplitLemmas.{HasPart-is, HasWindow-behind, HasWindow-front, list-all, split-count}
use Rattle.bitvec_words.proofs.counting.count_aligned.Goals as goal

pub split_tail-first-requires : goal.split_tail-first-requires
split_tail-first-requires g c = record { edge = c.requires.edge; end = window-end c.requires.window }

pub count_whole-ones-requires : goal.count_whole-ones-requires
count_whole-ones-requires g c = HasWindow-front c.split_tail-first.ensures.split c.requires.window

pub returns-then-tail-eq0 : goal.returns-then-tail-eq0
returns-then-tail-eq0 g c =
    let split = c.split_tail-first.ensures.split in
    record {
      value = c.count_whole-ones.ensures.value ∙ ap (λ (l : List Bool). count_by (λ (bit : Bool). bit) l) (list-all split (omega arith) g.O.BitOrder.at _);
      reads = reads-is c.count_whole-ones.ensures.reads (c.split_tail-first.ensures.whole c.if-tail-eq0.true);
    }

pub count_part-requires : goal.count_part-requires
count_part-requires g c =
    let told = c.split_tail-first.ensures in
    rw c.count_whole-ones.ensures.reads.numbers (HasPart-is (told.part c.if-tail-eq0.false) (HasWindow-behind told.split c.requires.window))

pub overflow_add-result : goal.overflow_add-result
overflow_add-result g c =
    let tail = rw c.count_whole-ones.ensures.reads.numbers at c.count_part.ensures.value in
    let few = count-few g.O.BitOrder.at c.requires.window (split-count c.split_tail-first.ensures.split g.O.BitOrder.at c.requires.window _ _ c.count_whole-ones.ensures.value tail) in
    omega arith

pub returns : goal.returns
returns g c =
    let told = c.split_tail-first.ensures in
    let tail = rw c.count_whole-ones.ensures.reads.numbers at c.count_part.ensures in
    record {
      value = split-count told.split g.O.BitOrder.at c.requires.window _ _ c.count_whole-ones.ensures.value tail.value;
      reads = reads-sum c.count_whole-ones.ensures.reads tail.reads (omega arith);
    }
