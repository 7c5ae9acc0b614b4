use Rattle.std.proofs.Common.{false, map, not, rules, subst}
use Rattle.bitvec.specs.SplitCoversLaws.{split-covers}
use Rattle.bitvec.specs.SplitEditsLaws.{bit-kept, edits-made}
use Rattle.bitvec.specs.Views.{seen_mut}
use Rattle.bitvec.specs.Writes.{WritesBits}
use Rattle.bitvec_examples.proofs.split_edits.invert_between.Goals as goal

pub returns : goal.returns
returns g c =
    let done = c.for_each_split_mut.ensures in (
      done.pieces,
      done.gives,
      subst (WritesBits c.args.view.now c.for_each_split_mut.new.self) (edits-made (λ _number bits. map not bits) done.edits (search rules)) done.written,
      λ index out. bit-kept index false done.edits out,
      λ index below. split-covers _ index (seen_mut c.args.view.now) _ done.pieces done.gives below,
    )
