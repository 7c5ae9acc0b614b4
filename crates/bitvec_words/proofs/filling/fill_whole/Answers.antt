use Rattle.std.proofs.Common.{◌∙◌, ap, true, false}
use Rattle.bitvec_words.proofs.filling.fill_whole.Goals as goal

pub returns-then-bit-clause-writes : goal.returns-then-bit-clause-writes
returns-then-bit-clause-writes g c =
    rw c.if-bit.true (c.store_whole.ensures.writes true (ap g.C.Elem.BitStore.value c.ALL.ensures ∙ g.met.C.Elem.BitStore.all_law))

pub returns-else-bit-clause-writes : goal.returns-else-bit-clause-writes
returns-else-bit-clause-writes g c =
    rw c.if-bit.false (c.store_whole-else-bit.ensures.writes false (ap g.C.Elem.BitStore.value c.ZERO.ensures ∙ g.met.C.Elem.BitStore.zero_law))
