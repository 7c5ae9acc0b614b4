use Rattle.std.proofs.Common.{◌+◌, ◌≤◌}
use Rattle.bitvec_owned.specs.Owned.{bit_capacity, owned}
use Rattle.bitvec_owned.proofs.Added.{Held}
use Rattle.bitvec_owned.proofs.growing.walking.BitVecExtendBool.extend.Given as goal

-- the first bits were added, and the word has the others, for which there is memory
abbrev pub invariant-loop-bit : goal.invariant-loop-bit
invariant-loop-bit g l = record {
  few : l.held ≤ l.room;
  bound : l.room ≤ 64;
  there : (owned l.self).window.len + l.room ≤ bit_capacity l.self;
  capacity : bit_capacity l.fn.self ≤ bit_capacity l.self;
  held : Held g.T.BitStore.BITS (owned l.fn.self) (owned l.self) l.yielded l.word l.held;
}
