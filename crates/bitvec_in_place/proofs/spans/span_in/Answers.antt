use Rattle.std.proofs.Common.{sym}
use Rattle.bitvec_in_place.proofs.Windows.{bits-is, window_has}
use Rattle.bitvec_in_place.proofs.spans.span_in.Goals as goal

pub returns-clause-window : goal.returns-clause-window
returns-clause-window g c = window_has _ _ _ _ _ c.requires.range

pub returns-clause-bits : goal.returns-clause-bits
returns-clause-bits g c = sym (bits-is _ _ _ c.requires.range.order)
