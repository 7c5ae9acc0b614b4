use Rattle.std.proofs.Common.{◌+◌, arith, sym, ◌∙◌}
use Rattle.bitvec_base.specs.WritesLaws.{length-list}
use Rattle.bitvec_elements.proofs.DifferenceLemmas.{windows-apart, windows-same}
use Rattle.bitvec_elements.proofs.StoreLemmas.{loaded-range}
use Rattle.bitvec_elements.proofs.difference.common_bits_by.Goals as goal

pub overflow_add-result : goal.overflow_add-result
overflow_add-result g c =
    let from = c.loop-from.from in
    let long = length-list g.O.BitOrder.at c.requires.window in
    let word = loaded-range _ _ _ _ c.args.left_window _ _ _ _ c.range-part.ensures c.window_word-word.ensures in
    let right_word = loaded-range _ _ _ _ c.args.right_window _ _ _ _ c.range-right_part.ensures c.window_word-right_word.ensures in
    let found = windows-apart _ _ g.O.BitOrder.at g.P.BitOrder.at g.W.BitOrder.at _ _ _ _ c.requires.window c.requires.right_window from (from + c.min.result) (omega arith) (omega arith) (omega arith) c.loop-from.invariant.same _ _ word right_word _ (sym c.first_one.ensures ∙ c.in-Some.is) in
    let most = found.bound in
    omega arith

pub returns-in-Some : goal.returns-in-Some
returns-in-Some g c =
    let from = c.loop-from.from in
    let word = loaded-range _ _ _ _ c.args.left_window _ _ _ _ c.range-part.ensures c.window_word-word.ensures in
    let right_word = loaded-range _ _ _ _ c.args.right_window _ _ _ _ c.range-right_part.ensures c.window_word-right_word.ensures in
    windows-apart _ _ g.O.BitOrder.at g.P.BitOrder.at g.W.BitOrder.at _ _ _ _ c.requires.window c.requires.right_window from (from + c.min.result) (omega arith) (omega arith) (omega arith) c.loop-from.invariant.same _ _ word right_word _ (sym c.first_one.ensures ∙ c.in-Some.is)

pub loop-from-preserved : goal.loop-from-preserved
loop-from-preserved g c =
    let from = c.loop-from.from in
    let word = loaded-range _ _ _ _ c.args.left_window _ _ _ _ c.range-part.ensures c.window_word-word.ensures in
    let right_word = loaded-range _ _ _ _ c.args.right_window _ _ _ _ c.range-right_part.ensures c.window_word-right_word.ensures in
    record {
      fits = omega arith;
      same = windows-same _ _ g.O.BitOrder.at g.P.BitOrder.at g.W.BitOrder.at _ _ _ _ c.requires.window c.requires.right_window from (from + c.min.result) (omega arith) (omega arith) (omega arith) c.loop-from.invariant.same _ _ word right_word (sym c.first_one.ensures ∙ c.in-None.is);
    }

pub returns : goal.returns
returns g c =
    let left = length-list g.O.BitOrder.at c.requires.window in
    let right = length-list g.P.BitOrder.at c.requires.right_window in
    record {
      same = λ k below. c.loop-from.invariant.same k (omega arith);
      bound = omega arith;
      differs = λ more. absurd (omega arith);
    }
