-- The laws by which one bit more is fed to a hasher or written to a formatter.
use Rattle.std.proofs.Common.{append-nil}
use Rattle.std.proofs.lemmas.Grind.{flat_map-append, fold-append, take_at_read}
use Rattle.std.proofs.lemmas.List.{take_all}
use Rattle.bitvec_base.specs.WritesLaws.{length-list}

pub ruleset steps = (length-list, take_at_read, take_all, flat_map-append, fold-append, append-nil)
