-- A run of fields, written.
use Rattle.std.specs.Prelude.{◌≡◌, ℕ, ◌≤◌, Bool, List, slice_index, slice_index_or}
use Rattle.bitvec.specs.Types.{BitSliceMut, Order, Store, Window}
use Rattle.bitvec.specs.Views.{seen_mut}
use Rattle.bitvec.specs.Writes.{WritesBits}
use Rattle.bitrecord.specs.Layouts.{field_at}
use Rattle.bitrecord.specs.Records.{IsBeside, field_number}
use Rattle.bitrecord.specs.Runs.{across}
use Rattle.bitrecord.specs.declared.endian.Endian.{Endian}

module _ {T O : Type 0} {t : Store T} {o : Order O} where
  -- `WritesRun endian high fields values first last before after` says that the fields of a run have these numbers, and that all bits
  -- beside the run are as before.
  pub record WritesRun (endian : Endian) (high : Bool) (fields : List Window) (values : List ℕ) (first last : ℕ) (before after : BitSliceMut T O t o) : Type 0 where
    pub numbers : (k : ℕ) → first ≤ k → k ≤ last → field_number endian high t.BITS (seen_mut after).window.start (seen_mut after).bits (field_at fields k) ≡ slice_index values k
    pub others : (place : ℕ) (d : Bool) → IsBeside (across fields first last) place → slice_index_or (seen_mut after).bits place d ≡ slice_index_or (seen_mut before).bits place d
    pub written : WritesBits before after (seen_mut after).bits
