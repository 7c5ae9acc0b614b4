use Rattle.std.proofs.Common.{List, [], ◌∷◌, ◌++◌, ap, sym, ◌∙◌, arith}
use Rattle.std.proofs.lemmas.List.FromFn.{map-range_with_len_more}
use Rattle.packet.specs.Packets.{word_window}
use Rattle.bitvec.specs.Types.{Window}
use Rattle.packet.proofs.header.layout_of_words.Goals as goal

pub loop-number-preserved : goal.loop-number-preserved
loop-number-preserved g c =
    c.in_ok-push.ensures.items ∙ ap (λ (l : List Window). l ++ word_window c.loop-number.number ∷ []) c.loop-number.invariant
    ∙ sym (map-range_with_len_more word_window 0 c.loop-number.number c.loop-number.number (omega arith))
