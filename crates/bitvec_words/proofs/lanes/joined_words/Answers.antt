use Rattle.std.proofs.Common.{◌∙◌, sym}
use Rattle.bitvec_words.proofs.LaneLemmas.{words-joined-high, words-joined-low}
use Rattle.bitvec_words.proofs.lanes.joined_words.Goals as goal

pub returns-then-HIGH : goal.returns-then-HIGH
returns-then-HIGH g c =
    let both = words-joined-high _ g.O.BitOrder.at (g.met.O.WordOrder.ends_law _) (sym c.HIGH.ensures ∙ c.if-HIGH.true) c.args.skip c.requires.bound _ _ c.requires.first c.requires.second in
    record { words = both.0; joined = both.1 }

pub returns : goal.returns
returns g c =
    let both = words-joined-low _ g.O.BitOrder.at (g.met.O.WordOrder.ends_law _) (sym c.HIGH.ensures ∙ c.if-HIGH.false) c.args.skip c.requires.bound _ _ c.requires.first c.requires.second in
    record { words = both.0; joined = both.1 }
