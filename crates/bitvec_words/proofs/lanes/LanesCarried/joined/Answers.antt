use Rattle.std.proofs.Common.{arith}
use Rattle.bitvec_words.proofs.LaneLemmas.{number-joined-before, number-joined-behind}
use Rattle.bitvec_words.proofs.lanes.LanesCarried.joined.Goals as goal
use Rattle.bitvec_words.proofs.lanes.LanesCarried.joined.Goals.{then-skip-lt64, else-skip-lt64}

pub returns : goal.returns
returns g c =
    let at = g.O.BitOrder.at in
    let ends = g.met.O.WordOrder.ends_law in
    let between = c.words_between-between.ensures in
    rw (c.requires.width, c.from_u128.ensures, c.number_of.ensures.number)
    (elim c.if-skip-lt64.branch [
      | then-skip-lt64 w ↦ rw w.words-is (number-joined-before _ (λ b. ends b) (omega arith) _ _ _ _ c.args.self.now.two c.args.next.now.two w.joined_words-words.ensures.words between.between w.joined_words-words.ensures.joined)
      | else-skip-lt64 w ↦ rw w.words-is (number-joined-behind _ (λ b. ends b) (omega arith) (omega arith) _ _ _ _ c.args.self.now.two c.args.next.now.two w.joined_words-words-else-skip-lt64.ensures.words between.between w.joined_words-words-else-skip-lt64.ensures.joined)
    ])
