use Rattle.bitvec_words.specs.TouchedLaws.{touched-full, touched-more}
use Rattle.std.proofs.Common.{arith}
use Rattle.std.proofs.lemmas.Nat.{mod_below}
use Rattle.bitvec_store.specs.WidthLaws.{width_some}
use Rattle.bitvec_words.proofs.SplitLemmas.{tail-split}
use Rattle.bitvec_words.proofs.split.split_tail.Goals as goal

pub returns : goal.returns
returns g c =
    let some = width_some _ g.met.T.BitStore.width_law in
    let below = mod_below c.args.window.len g.T.BitStore.BITS some in
    rw (c.whole_elements-first.ensures, c.tail_part.ensures)
    (record {
      split = tail-split _ c.args.window some c.requires.edge;
      part = λ left. record { some = omega arith; bound = omega arith };
      whole = λ none. touched-full _ _ _ some c.requires.edge none;
      more = λ left. touched-more _ _ _ some c.requires.edge (omega arith);
    })
