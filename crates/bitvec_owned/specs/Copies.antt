-- What an owned sequence holds, and what a call that adds or takes bits leaves around them.
use Rattle.std.specs.Prelude.{◌≡◌, ℕ, ◌+◌, ◌*◌, ◌%◌, ◌==◌, Bool, false, if◌then◌else◌, List, length, replicate, take}
use Rattle.std.specs.Int.{div_ceil}
use Rattle.bitvec_base.specs.Window.{write_at}
use Rattle.bitvec_base.specs.declared.window.Window.{Window}
use Rattle.bitvec_slice.specs.Seen.{Seen}

-- the list, from the index `from` of its first element on; of elements of b bits it has just those that the list touches, and each other bit of them is 0
pub record Holds {T : Type 0} (b : ℕ) (list : List Bool) (from : ℕ) (sequence : Seen T) : Type 0 where
  pub bits : sequence.bits ≡ list
  pub start : sequence.window.start ≡ from
  pub len : sequence.window.len ≡ length list
  pub count : length sequence.elements ≡ div_ceil (from + length list) b
  pub memory : sequence.memory ≡ write_at (replicate (b * length sequence.elements) false) from list

-- the sequence begins where it did in its first element of b bits, and the places before its first bit stay; and if it held its bits with zeros around them,
-- it does so afterwards
pub record KeepsAround {T : Type 0} (b : ℕ) (before after : Seen T) : Type 0 where
  pub start : after.window.start ≡ before.window.start
  pub front : take before.window.start after.memory ≡ take before.window.start before.memory
  pub zeros : Holds b before.bits before.window.start before → Holds b after.bits after.window.start after

-- where a copy of a view begins: where the view does in its first element, and at 0 if it is empty
abbrev pub copy_start : ℕ → Window → ℕ
copy_start b window = if window.len == 0 then 0 else window.start % b
