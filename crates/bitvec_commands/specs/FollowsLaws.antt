-- A question, as a call that may write; a call on a part of a window, as one on the window; and a window of the list that another one holds.
use Rattle.std.specs.Prelude.{◌≡◌, ℕ, ◌≤◌, Bool, List}
use Rattle.std.proofs.Common.{arith, ◌∙◌, ap, refl, sym}
use Rattle.bitvec_base.specs.declared.window.Window.{Window}
use Rattle.bitvec_base.specs.Memory.{HasWindow, list_in, memory_bits}
use Rattle.bitvec_base.specs.Window.{IsWithin, window_of, window_range, write_at}
use Rattle.bitvec_base.specs.WindowLaws.{part-of_window}
use Rattle.bitvec_base.specs.WritesLaws.{Writes-is, Writes-nothing, Writes-range, list-range, within-list}
use Rattle.bitvec_cells.specs.declared.cells.CellsRead.{Ghosts as Access}
use Rattle.bitvec_commands.specs.declared.command.Reply.{Reply}
use Rattle.bitvec_commands.specs.Follows.{Answers, Follows, window_inside}
use Rattle.bitvec_commands.specs.Rows.{CommandRow, on_range}

module _ {E C : Type 0} {access : Access C E} {b : ℕ} {at : ℕ → ℕ → ℕ} {words : Bool} {row : CommandRow} {window : Window} where
  -- who answers follows
  pub Answers-follow : {old new : C} {result : Reply} → HasWindow b (access.numbers old) window
      → Answers access b at words row window old new result → Follows access b at words row window old new result
  Answers-follow {old} {new} {result} has answers =
      let stores = answers.reads.stores in
      record {
        reply = answers.reply;
        writes = Writes-is
            (Writes-nothing at (access.numbers new) has answers.reads.numbers)
            (sym answers.list);
        cost = record { borrow = answers.reads.borrow; loads = answers.reads.loads; stores = omega arith };
      }

  pub Follows-range : (from to : ℕ) {old new : C} {result : Reply} → HasWindow b (access.numbers old) window → from ≤ to → to ≤ window.len
      → Follows access b at words row (window_range window from to) old new result → Follows access b at words (on_range from to row) window old new result
  Follows-range from to {old} {new} {result} has order bound part =
      let list = list_in b at (access.numbers old) window in
      let same = list-range at from to has order bound in
      record {
        reply = part.reply ∙ ap row.reply same;
        writes = Writes-is
            (Writes-range from to has order bound part.writes)
            (ap (λ (l : List Bool). write_at list from (row.list l)) same);
        cost = part.cost;
      }

-- what a window of the list that `source` holds has
pub list-inside : {b : ℕ} (at : ℕ → ℕ → ℕ) {xs : List ℕ} {source window : Window} → HasWindow b xs source → IsWithin window source.len → list_in b at xs (window_inside source window) ≡ window_of (list_in b at xs source) window
unfolding window_of
list-inside {b} at {xs} {source} {window} has within =
    let start = within.start in
    let len = within.len in
    part-of_window (memory_bits b at xs) source (window_inside source window) window.start (within-list at has) refl (omega arith)
