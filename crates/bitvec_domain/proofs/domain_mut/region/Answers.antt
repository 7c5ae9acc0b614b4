use Rattle.bitvec_base.specs.SliceLaws.{range-rest}
use Rattle.bitvec_domain.proofs.Parts.{head_part, tail_part}
use Rattle.bitvec_domain.proofs.domain_mut.region.Goals as goal

pub returns : goal.returns
returns g c =
    let b = g.T.BitStore.BITS in
    let at = g.O.BitOrder.at in
    let value = g.T.BitStore.value in
    let xs = c.args.elements.now in
    let front = c.split_at_mut-front.ensures in
    let before = c.split_at_mut-before.ensures in
    let head = head_part b at value xs c.args.start c.args.end c.args.head c.requires.order c.requires.bound c.requires.head in
    let body = range-rest xs c.args.start c.args.end in
    let tail = tail_part b at value xs c.args.end c.args.tail c.requires.tail in
    rw (c.part_if-head.ensures, c.part_if-tail.ensures, before.front, before.back, front.front, front.back, head, body, tail)
