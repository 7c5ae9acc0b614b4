use Rattle.std.proofs.Common.{arith}
use Rattle.bitvec_words.proofs.CostLemmas.{reads-both, reads-most}
use Rattle.bitvec_words.proofs.SplitLemmas.{split-found, split-lacks}
use Rattle.bitvec_words.proofs.WordScanLemmas.{block_whole, blocks-few, blocks-has, parted-blocks}
use Rattle.bitvec_words.proofs.scanning_words.first_in_fewer.Goals as goal

pub first_in_blocks-requires : goal.first_in_blocks-requires
first_in_blocks-requires g c =
    rw c.pieces_of-blocks.ensures (parted-blocks _ 256 c.args.first c.args.count g.met.C.Elem.BitStore.width_law c.requires).front

pub returns-in-Some : goal.returns-in-Some
returns-in-Some g c =
    let parts = parted-blocks _ 256 c.args.first c.args.count g.met.C.Elem.BitStore.width_law c.requires in
    let found = rw c.pieces_of-blocks.ensures at c.in-Some.ensures in
    record { value = split-found parts.split g.O.BitOrder.at parts.all c.args.want _ found.value; reads = reads-most found.reads parts.within }

pub returns-in_err-found : goal.returns-in_err-found
returns-in_err-found g c =
    let parts = parted-blocks _ 256 c.args.first c.args.count g.met.C.Elem.BitStore.width_law c.requires in
    let within = parts.within in
    let front = rw c.pieces_of-blocks.ensures at c.in_default.ensures in
    let rest = rw (c.left_behind-next.ensures, front.reads.numbers) at c.in_err-found.ensures in
    rw c.from_residual.ensures
    (record { value = split-lacks parts.split g.O.BitOrder.at c.requires c.args.want front.value rest.value; reads = reads-both front.reads rest.reads (omega arith) })

pub place_behind-requires : goal.place_behind-requires
place_behind-requires g c =
    let b = g.C.Elem.BitStore.BITS in
    let width = g.met.C.Elem.BitStore.width_law in
    let parts = parted-blocks b 256 c.args.first c.args.count width c.requires in
    let front = rw c.pieces_of-blocks.ensures at c.in_default.ensures in
    rw c.pieces_of-blocks.ensures
    (blocks-few 256 parts (block_whole b width) g.O.BitOrder.at c.args.want front.value (rw (c.left_behind-next.ensures, front.reads.numbers) at c.in_ok-found.ensures.value))

pub returns : goal.returns
returns g c =
    let b = g.C.Elem.BitStore.BITS in
    let width = g.met.C.Elem.BitStore.width_law in
    let parts = parted-blocks b 256 c.args.first c.args.count width c.requires in
    let within = parts.within in
    let front = rw c.pieces_of-blocks.ensures at c.in_default.ensures in
    let rest = rw (c.left_behind-next.ensures, front.reads.numbers) at c.in_ok-found.ensures in
    rw (c.place_behind.ensures, c.pieces_of-blocks.ensures)
    (record { value = blocks-has 256 parts (block_whole b width) g.O.BitOrder.at c.args.want front.value rest.value; reads = reads-both front.reads rest.reads (omega arith) })
