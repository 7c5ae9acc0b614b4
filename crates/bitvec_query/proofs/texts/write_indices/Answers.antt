use Rattle.std.proofs.Common.{◌∙◌, [], ◌∷◌, ◌++◌, ap, append-nil, append_assoc, rules, sym}
use Rattle.std.specs.Fmt.{HasWritten, decimal}
use Rattle.std.specs.List.{join_by}
use Rattle.std.proofs.Output.{has_written_append, has_written_of_eq}
use Rattle.bitvec_domain.specs.Listing.{comma, separator}
use Rattle.bitvec_query.specs.Indices.{remaining_indices}
use Rattle.bitvec_query.proofs.PushedLemmas.{joined-push, separator-later}
use Rattle.bitvec_query.proofs.texts.write_indices.Goals as goal

pub loop-index-preserved : goal.loop-index-preserved
loop-index-preserved g c =
    let yielded = c.loop-index.yielded in
    let index = c.in-Some.index in
    let before = c.loop-index.invariant in (
      separator-later yielded index,
      append_assoc yielded (index ∷ []) (remaining_indices c.next.new.self) ∙ ap (λ l. yielded ++ l) (sym c.in-Some.ensures.steps) ∙ before.1,
      λ plain.
          let so_far = before.2 plain in
          let lead : HasWritten g.W.Write.write_str_gives c.loop-index.f (separator c.loop-index.passed) c.write_str.new.self = search rules in
          let wrote : HasWritten g.W.Write.write_str_gives c.write_str.new.self (decimal index) c.fmt.new.f = search rules in
          has_written_of_eq _ _ _ _ _ (joined-push decimal yielded index) (has_written_append _ _ _ _ _ _ so_far (has_written_append _ _ _ _ _ _ (has_written_of_eq _ _ _ _ _ before.0 lead) wrote)),
    )

pub returns : goal.returns
returns g c = λ plain _.
    let yielded = c.loop-index.yielded in
    let before = c.loop-index.invariant in
    has_written_of_eq _ _ _ _ _ (ap (join_by decimal comma) (sym (append-nil yielded) ∙ ap (λ l. yielded ++ l) (sym c.in-None.ensures.steps.0) ∙ before.1)) (before.2 plain)
