use Rattle.std.proofs.Common.{arith}
use Rattle.std.proofs.lemmas.Grind.{common_steps}
use Rattle.bitvec.specs.Laws.{sized}
use Rattle.canframe.proofs.FrameLaws.{framed}
use Rattle.canframe.proofs.codec.put_frame.Goals as goal

pub returns-clause-frame : goal.returns-clause-frame
returns-clause-frame c =
    let header = c.in_ok-put_header.ensures in
    let put = c.in_ok-put_bytes.ensures in
    let closed = c.in_ok-put_checksum.ensures in
    let at = put.position in
    let bytes = c.args.bytes.now in
    let stand = closed.bytes _ bytes put.bytes (omega arith) in
    let is = framed _ c.args.id bytes _ c.requires.valid c.requires.few (grind (arith, common_steps, sized)) (closed.header _ _ (put.header _ _ header.header)) stand closed.sealed at in
    grind (arith, common_steps, is)
