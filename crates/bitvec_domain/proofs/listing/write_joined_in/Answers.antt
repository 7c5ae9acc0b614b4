use Rattle.std.proofs.Common.{◌++◌, arith, false, map, rules}
use Rattle.std.specs.Fmt.{HasWritten}
use Rattle.std.proofs.Output.{has_written_append, has_written_of_eq}
use Rattle.bitvec_base.specs.Memory.{list_in}
use Rattle.bitvec_base.specs.WritesLaws.{length-list}
use Rattle.bitvec_domain.specs.Listing.{bit_text, separator}
use Rattle.bitvec_domain.specs.ListingLaws.{join_by-more}
use Rattle.bitvec_domain.proofs.listing.write_joined_in.Goals as goal

pub loop-index-preserved : goal.loop-index-preserved
loop-index-preserved g c = λ plain.
    let bits = list_in g.T.BitStore.BITS g.O.BitOrder.at (map g.T.BitStore.value c.args.elements.now) c.args.window in
    let long = length-list g.O.BitOrder.at c.requires in
    let so_far = c.loop-index.invariant plain in
    let wrote : HasWritten g.W.Write.write_str_gives c.loop-index.f (separator c.loop-index.index ++ bit_text c.bit_in.result) c.write_bit.new.f = search rules in
    has_written_of_eq _ _ _ _ _ (join_by-more bit_text bits c.loop-index.index false (omega arith))
    (has_written_append _ _ _ c.loop-index.f _ _ so_far (rw c.bit_in.ensures at wrote))
