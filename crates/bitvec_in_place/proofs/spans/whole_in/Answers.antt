use Rattle.std.proofs.Common.{sym}
use Rattle.bitvec_in_place.specs.MovedLaws.{length-bits_of}
use Rattle.bitvec_in_place.proofs.Windows.{all_has, window_all}
use Rattle.bitvec_in_place.proofs.spans.whole_in.Goals as goal

pub returns-clause-window : goal.returns-clause-window
returns-clause-window g c = rw c.BITS.ensures (all_has _ _ _ c.requires)

pub returns-clause-bits : goal.returns-clause-bits
returns-clause-bits g c = rw c.BITS.ensures (window_all _ _ (sym (length-bits_of _ _ _ _)))
