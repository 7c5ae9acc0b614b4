use Rattle.std.proofs.Common.{◌≡◌, ◌++◌, map, take}
use Rattle.packet.specs.Packets.{placed_all, places_of, row}
use Rattle.packet.proofs.header.push_fields.Given as goal

abbrev pub invariant-loop-name : goal.invariant-loop-name
invariant-loop-name g l = places_of l.fields.items ≡ places_of l.initial.fields.items ++ placed_all l.start (map row (take l.name-index l.rows))
