use Rattle.std.proofs.Common.{◌++◌, ap, append_assoc, codes, refl, sym}
use Rattle.bitvec_domain.specs.Listing.{listed}
use Rattle.bitvec_iter.proofs.Writing.{written-as, written-then}
use Rattle.bitvec_iter.proofs.lent_texts.PiecesMutDebug.fmt.Goals as goal

pub returns : goal.returns
unfolding listed
returns g c = record {
  writes = λ plain ok.
      let lead = c.in_ok-write_str.ensures.writes plain refl in
      let pieces = c.in_ok-write_pieces.ensures lead.plain refl in
      written-as (ap (λ l. codes "PiecesMut([" ++ l) (sym (append_assoc _ (codes "]") (codes ")")))) (written-then lead (written-then pieces (c.write_str-2.ensures.writes pieces.plain ok)));
}
