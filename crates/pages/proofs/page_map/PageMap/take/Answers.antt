use Rattle.std.proofs.Common.{sym}
use Rattle.bitvec.specs.Arrays.{lsb0_bits}
use Rattle.pages.proofs.PageLaws.{first-some}
use Rattle.pages.proofs.page_map.PageMap.take.Goals as goal

pub returns-clause-first : goal.returns-clause-first
returns-clause-first c =
    let leaves = c.self.inside.leaves in
    let summary = c.self.inside.summary in
    rw (← c.self.view_is)
    (sym (first-some (lsb0_bits 64 leaves) (lsb0_bits 64 summary) c.self.invariant c.in_ok-leaf.leaf c.in_ok-place.place (sym c.in_ok-leaf.ensures.first) (sym c.in_ok-place.ensures.first)))
