-- A text of which some is written.
use Rattle.std.specs.Prelude.{◌≡◌, ℕ, List, [], ◌++◌}
use Rattle.std.specs.Fmt.{HasWritten, IsPlainFormatter}
use Rattle.std.specs.declared.fmt.Formatter.{Formatter}
use Rattle.std.proofs.Common.{◌∙◌, ap, append_assoc, append-nil, sym}
use Rattle.std.proofs.Output.{has_written_append, has_written_of_eq, writes_in_calls_nil}

module _ {W : Type 0} (took : W → List ℕ → W → Type 0) where
  -- of the text `all`, all but `left` is written
  pub record WrittenBut (before now : Formatter W) (left all : List ℕ) : Type 0 where
    pub done : List ℕ
    pub wrote : HasWritten took before done now
    pub whole : done ++ left ≡ all

  pub written-none : (before : Formatter W) (left all : List ℕ) → left ≡ all → IsPlainFormatter before → WrittenBut before before left all
  written-none before left all same plain = record { done = []; wrote = record { wrote = writes_in_calls_nil took before.writer; plain = plain }; whole = same }

  pub written-next : (before now after : Formatter W) (left item rest all : List ℕ) → WrittenBut before now left all → left ≡ item ++ rest → HasWritten took now item after → WrittenBut before after rest all
  written-next before now after left item rest all so_far cut step = record {
    done = so_far.done ++ item;
    wrote = has_written_append took before so_far.done now item after so_far.wrote step;
    whole = append_assoc so_far.done item rest ∙ ap (λ (t : List ℕ). so_far.done ++ t) (sym cut) ∙ so_far.whole;
  }

  pub written-all : (before now : Formatter W) (left all : List ℕ) → WrittenBut before now left all → left ≡ [] → HasWritten took before all now
  written-all before now left all so_far none =
      has_written_of_eq took before so_far.done all now (sym (append-nil so_far.done) ∙ ap (λ (t : List ℕ). so_far.done ++ t) (sym none) ∙ so_far.whole) so_far.wrote
