use Rattle.std.proofs.Common.{◌≡◌, ℕ, ◌-◌, ◌<◌, ◌≤◌, length, slice_index}
use Rattle.bitvec.specs.Views.{seen}
use Rattle.bitrecord.specs.Layouts.{field_at}
use Rattle.bitrecord.specs.Records.{field_number}
use Rattle.bitrecord.proofs.decoding.decode_words.Given as goal

abbrev pub invariant-loop-number : goal.invariant-loop-number
invariant-loop-number g l = record {
  within : l.number ≤ length l.layout.fields.items;
  numbers : (k : ℕ) → k < l.number → slice_index l.out k ≡ field_number l.endian g.O.WordOrder.HIGH g.T.BitStore.BITS (seen l.view).window.start (seen l.view).bits (field_at l.layout.fields.items k);
}

abbrev pub decreases-loop-number : goal.decreases-loop-number
decreases-loop-number g l = length l.layout.fields.items - l.number
