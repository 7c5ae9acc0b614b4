use Rattle.std.proofs.Common.{◌≡◌, ◌^◌, length, map, take, drop}
use Rattle.std.specs.Simd.Lanes.{digits_l}
use Rattle.bitvec_store.proofs.store.BitStore.store_word.Given as goal

abbrev pub invariant-loop-step : goal.invariant-loop-step
invariant-loop-step g l =
    record {
      digits : map g.Self.BitStore.value (take l.step l.elements) ≡ digits_l (2 ^ g.Self.BitStore.BITS) l.step l.word;
      others : drop l.step l.elements ≡ drop l.step l.fn.elements;
      elements : length l.elements ≡ length l.fn.elements;
    }
