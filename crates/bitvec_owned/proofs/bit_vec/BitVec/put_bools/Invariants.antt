use Rattle.std.proofs.Common.{◌≤◌, take}
use Rattle.bitvec_owned.specs.Owned.{bit_capacity, owned}
use Rattle.bitvec_owned.proofs.Added.{Held}
use Rattle.bitvec_owned.proofs.bit_vec.BitVec.put_bools.Given as goal

-- the first bits were added, and the word has the others
abbrev pub invariant-loop-bit : goal.invariant-loop-bit
invariant-loop-bit g l = record {
  few : l.held ≤ 64;
  capacity : bit_capacity l.fn.self ≤ bit_capacity l.self;
  held : Held g.T.BitStore.BITS (owned l.fn.self) (owned l.self) (take l.bit-index l.fn.bools) l.word l.held;
}
