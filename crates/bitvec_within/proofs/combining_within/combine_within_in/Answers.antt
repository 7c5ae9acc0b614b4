use Rattle.bitvec_within.proofs.Combining.{window-edited}
use Rattle.bitvec_within.proofs.combining_within.combine_within_in.Goals as goal

pub returns-then-from-len : goal.returns-then-from-len
returns-then-from-len g c = record { writes = window-edited c.requires.window c.requires.fits c.combine_apart.ensures.combines }

pub returns-then-to-len : goal.returns-then-to-len
returns-then-to-len g c = record { writes = window-edited c.requires.window c.requires.fits c.combine_apart-then-to-len.ensures.combines }

pub returns-else-to-len : goal.returns-else-to-len
returns-else-to-len g c = record { writes = window-edited c.requires.window c.requires.fits c.combine_overlapping.ensures.combines }

pub returns-then-from-bits : goal.returns-then-from-bits
returns-then-from-bits g c = record { writes = window-edited c.requires.window c.requires.fits c.combine_aside.ensures.combines }
