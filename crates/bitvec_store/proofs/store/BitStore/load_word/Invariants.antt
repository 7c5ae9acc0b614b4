use Rattle.std.proofs.Common.{◌≡◌, ◌*◌, ◌^◌, ◌<◌, map, take}
use Rattle.std.specs.Simd.Lanes.{digits_l}
use Rattle.bitvec_store.proofs.store.BitStore.load_word.Given as goal

abbrev pub invariant-loop-step : goal.invariant-loop-step
invariant-loop-step g l =
    let b = g.Self.BitStore.BITS in
    record {
      digits : map g.Self.BitStore.value (take l.step l.elements) ≡ digits_l (2 ^ b) l.step l.word;
      below : l.word < 2 ^ (l.step * b);
    }
