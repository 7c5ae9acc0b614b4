use Rattle.std.proofs.Common.{ℕ, ◌^◌, ◌<◌, map, lit≤, sym, subst, arith}
use Rattle.std.specs.Prelude.{All}
use Rattle.std.specs.Io.KnownBytes.{Appends}
use Rattle.bitdo_work.specs.Texts.{run_text}
use Rattle.bitdo_work.proofs.RequestLaws.{request_by_texts-bits}
use Rattle.bitdo_work.proofs.program.run_typed.Goals as goal

pub returns-in-Ok-print_run : goal.returns-in-Ok-print_run
returns-in-Ok-print_run g c =
    let made = c.in-Ok.ensures.run in
    let bits = sym (request_by_texts-bits _ _ _ _ _ made.given made.given_is) in
    let replies = c.in-Ok.outcome.replies.items in
    let elements = map g.T.BitStore.value c.in-Ok.outcome.memory.items in
    let text = rw (c.as_slice.ensures.value, c.as_slice-in-Ok.ensures.value) at c.in-Ok-print_run.ensures.text in
    let fit = rw (c.as_slice-in-Ok.ensures.value) at c.in-Ok-print_run.ensures.in_range in
    record {
      known = lit≤ tt;
      run = λ zero. record {
        replies = replies;
        elements = elements;
        made = made;
        fit = subst (λ (b : ℕ). All (λ element. element < 2 ^ b) elements) bits fit;
        printed = subst (λ (b : ℕ). Appends (g.W.Write.contents c.args.output.now) (g.W.Write.contents c.print_run.new.output) (run_text b replies elements)) bits text;
      };
      fault = λ some. absurd (omega arith);
      unread = λ none. absurd (cc made.given_is);
    }
