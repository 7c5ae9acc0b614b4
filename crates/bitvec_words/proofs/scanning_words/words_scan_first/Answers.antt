use Rattle.std.proofs.Common.{arith}
use Rattle.bitvec_words.specs.TouchedLaws.{touched-first}
use Rattle.bitvec_words.specs.WholeLaws.{window-end}
use Rattle.bitvec_words.proofs.CostLemmas.{reads-both, reads-exact, reads-most}
use Rattle.bitvec_words.proofs.SplitLemmas.{HasPart-is, HasWindow-behind, HasWindow-front, split-behind, split-few, split-found, split-lacks}
use Rattle.bitvec_words.proofs.scanning_words.words_scan_first.Goals as goal

pub split_head-requires : goal.split_head-requires
split_head-requires g c = record { some = omega arith; end = window-end c.requires }

pub first_in_part-requires : goal.first_in_part-requires
first_in_part-requires g c = HasPart-is c.split_head.ensures.part (HasWindow-front c.split_head.ensures.split c.requires)

pub returns-in-Some : goal.returns-in-Some
returns-in-Some g c =
    let first = touched-first g.C.Elem.BitStore.BITS c.args.window.start c.args.window.len (omega arith) in
    record {
      value = split-found c.split_head.ensures.split g.O.BitOrder.at c.requires c.args.want _ c.in-Some.ensures.value;
      reads = reads-most (reads-exact c.in-Some.ensures.reads) (omega arith);
    }

pub first_from_edge-requires-2 : goal.first_from_edge-requires-2
first_from_edge-requires-2 g c =
    rw c.in_default.ensures.reads.numbers (record { window = HasWindow-behind c.split_head.ensures.split c.requires; edge = c.split_head.ensures.split.edge })

pub returns-in_err-found : goal.returns-in_err-found
returns-in_err-found g c =
    let split = c.split_head.ensures.split in
    let rest = rw c.in_default.ensures.reads.numbers at c.in_err-found.ensures in
    rw c.from_residual.ensures
    (record {
      value = split-lacks split g.O.BitOrder.at c.requires c.args.want c.in_default.ensures.value rest.value;
      reads = reads-both (reads-exact c.in_default.ensures.reads) rest.reads (omega arith);
    })

pub overflow_add-result : goal.overflow_add-result
overflow_add-result g c =
    let rest = rw c.in_default.ensures.reads.numbers at c.in_ok-found.ensures.value in
    omega (arith, split-few c.split_head.ensures.split g.O.BitOrder.at c.requires c.args.want _ c.in_default.ensures.value rest)

pub returns : goal.returns
returns g c =
    let split = c.split_head.ensures.split in
    let rest = rw c.in_default.ensures.reads.numbers at c.in_ok-found.ensures in
    rw c.len.ensures
    (record {
      value = split-behind split g.O.BitOrder.at c.requires c.args.want _ c.in_default.ensures.value rest.value;
      reads = reads-both (reads-exact c.in_default.ensures.reads) rest.reads (omega arith);
    })
