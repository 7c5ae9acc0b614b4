use Rattle.std.proofs.Common.{sym}
use Rattle.bitvec_places.proofs.KeptLemmas.{kept-loaded, shows-ones}
use Rattle.bitvec_places.proofs.kept.load.Goals as goal
use Rattle.bitvec_places.proofs.kept.load.Goals.{then-not-want, else-not-want}

pub returns-clause-keeps : goal.returns-clause-keeps
returns-clause-keeps g c =
    let front = rw (c.new-cells.ensures.numbers, c.range-left.ensures) at c.load_front-word.ensures.value in
    let loaded = kept-loaded c.args.rest _ c.requires.window c.requires.some c.requires.bound front c.lowest_first-ones.ensures in
    let ones = shows-ones c.args.rest _ c.requires.window c.requires.some c.requires.bound front c.lowest_first-ones.ensures in
    elim c.if-not-want.branch [
      | then-not-want w ↦ let shows = rw (sym w.if-not-want.true) at w.sought_first-ones.ensures in rw w.ones-is (loaded _ _ shows)
      | else-not-want w ↦ rw (w.ones-is, w.if-not-want.false) (loaded _ _ ones)
    ]
