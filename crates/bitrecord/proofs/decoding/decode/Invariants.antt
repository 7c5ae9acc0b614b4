use Rattle.std.proofs.Common.{◌≡◌, ℕ, ◌<◌, slice_index}
use Rattle.bitvec.specs.Views.{seen}
use Rattle.bitrecord.specs.Layouts.{field_at}
use Rattle.bitrecord.specs.Records.{field_number}
use Rattle.bitrecord.proofs.decoding.decode.Given as goal

abbrev pub invariant-loop-number : goal.invariant-loop-number
invariant-loop-number g l =
    (k : ℕ) → k < l.number → slice_index l.out k ≡ field_number l.endian g.O.WordOrder.HIGH g.T.BitStore.BITS (seen l.view).window.start (seen l.view).bits (field_at l.layout.fields.items k)
