use Rattle.std.proofs.Common.{◌+◌, ◌-◌, ◌∙◌, arith, map, rules}
use Rattle.bitvec_base.specs.Lists.{copied_within}
use Rattle.bitvec_base.specs.Memory.{list_in}
use Rattle.bitvec_base.specs.WritesLaws.{HasWindow-range, Writes-is, Writes-range, length-list, list-range}
use Rattle.bitvec_words.specs.MovedLaws.{take-word}
use Rattle.bitvec_within.proofs.copying_within.copy_within_few.Goals as goal

pub load_parts-word-requires-clause-window : goal.load_parts-word-requires-clause-window
load_parts-word-requires-clause-window g c =
    let fits = c.requires.fits in
    rw (c.range-source.ensures, c.new.ensures.numbers) (HasWindow-range c.args.src.start c.args.src.end c.requires.window fits.order fits.source)

pub store_parts-requires-clause-window : goal.store_parts-requires-clause-window
store_parts-requires-clause-window g c =
    let fits = c.requires.fits in
    rw (c.range-target.ensures, c.new-2.ensures.numbers) (HasWindow-range c.args.dest (c.args.dest + (c.args.src.end - c.args.src.start)) c.requires.window (omega arith) fits.room)

pub returns : goal.returns
unfolding copied_within
returns g c =
    let fits = c.requires.fits in
    let at = g.W.BitOrder.at in
    let window = c.args.window in
    let dest = c.args.dest in
    let from = c.args.src.start in
    let to = c.args.src.end in
    let list = list_in g.T.BitStore.BITS at (map g.T.BitStore.value c.args.elements.now) window in
    let has = HasWindow-range from to c.requires.window fits.order fits.source in
    let long = length-list at has in
    let word = rw (c.range-source.ensures, c.new.ensures.numbers) at c.load_parts-word.ensures.value in
    let wrote = rw (c.range-target.ensures, c.new-2.ensures.numbers) at c.store_parts.ensures.writes in
    let part = Writes-is wrote (take-word 64 _ word (omega arith) ∙ list-range at from to c.requires.window fits.order fits.source) in
    let done = Writes-range dest (dest + (to - from)) c.requires.window (omega arith) fits.room part in
    record { writes = record { bits = search (rules, done.bits); long = done.long; elements = search (rules, done.elements) } }
