use Rattle.bitvec_combine.specs.DifferLaws.{found_same}
use Rattle.bitvec_combine.proofs.RoomLemmas.{one_field}
use Rattle.bitvec_combine.proofs.comparing.equal_shifted.Goals as goal

pub act_short-requires-room-A-Act : goal.act_short-requires-room-A-Act
act_short-requires-room-A-Act g c κs within = one_field _ _ c.fits_in_memory.ensures.memory

pub act_short-requires-room-A-Clone : goal.act_short-requires-room-A-Clone
act_short-requires-room-A-Clone g c κs within = one_field _ _ c.fits_in_memory.ensures.memory

pub returns-clause-value : goal.returns-clause-value
returns-clause-value g c = found_same c.requires.span c.act_short.ensures.done (rw c.ZERO.ensures g.met.C.Elem.BitStore.zero_law) c.is_zero.ensures
