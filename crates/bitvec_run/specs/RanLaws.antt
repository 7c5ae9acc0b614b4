-- A run, step by step, whatever a step is.
use Rattle.std.specs.Prelude.{◌≡◌, ℕ, ◌+◌, ◌*◌, ◌<◌, ◌≤◌, Bool, refl, List, [], ◌∷◌, ◌++◌, length, take, slice_index_or, Err, Ok, Vec, vec_items}
use Rattle.std.proofs.Common.{arith, sym, ◌∙◌, ap, subst}
use Rattle.std.proofs.lemmas.List.{take_all}
use Rattle.bitvec_base.specs.declared.window.Window.{Window}
use Rattle.bitvec_base.specs.Memory.{HasWindow, Writes, FitsMaxBits, list_in, memory_bits}
use Rattle.bitvec_base.specs.MemoryLaws.{length-memory_bits}
use Rattle.bitvec_base.specs.SliceLaws.{range-all}
use Rattle.bitvec_base.specs.Window.{window_of}
use Rattle.bitvec_base.specs.WritesLaws.{Writes-holds, Writes-is, Writes-nothing, Writes-then}
use Rattle.bitvec_cells.specs.declared.cells.CellsRead.{Ghosts as Access}
use Rattle.bitvec_commands.specs.declared.command.Reply.{Reply}
use Rattle.bitvec_commands.specs.Costs.{Cost, place_of}
use Rattle.bitvec_run.specs.Fold.{list_after, replies_of}
use Rattle.bitvec_run.specs.FoldLaws.{after-next, costs-next, reads-next, replies-next}
use Rattle.bitvec_commands.specs.Follows.{Follows, FollowsBoth}
use Rattle.bitvec_commands.specs.Rows.{CommandRow, row_list, row_reply}
use Rattle.bitvec_run.specs.Runs.{CanRun, FailsRun, RunsBy, RunsOrFails, whole_window}
use Rattle.bitvec_run.specs.declared.run_error.RunError.{RunError}

-- The list of a memory's whole window is all bits of the memory.
pub list-whole : (b : ℕ) (at : ℕ → ℕ → ℕ) (xs : List ℕ) → list_in b at xs (whole_window b xs) ≡ memory_bits b at xs
unfolding window_of
list-whole b at xs = let long = length-memory_bits b at xs in range-all (memory_bits b at xs) (0 + b * length xs) (omega arith)

-- A memory of at most `max_bits` bits has its whole window.
pub HasWindow-whole : {b : ℕ} {xs : List ℕ} → FitsMaxBits b xs → HasWindow b xs (whole_window b xs)
HasWindow-whole fits = record { fits = fits; within = record { start = omega arith; len = omega arith } }

-- what the steps so far replied and left, where a step on a list of n bits is a row
module _ {E C S : Type 0} (access : Access C E) (row_of : ℕ → S → CommandRow) where
  -- The steps were made: their replies are `made`, and the window holds the list after the last.
  pub record Ran (b : ℕ) (at : ℕ → ℕ → ℕ) (list : List Bool) (steps : List S) (window : Window) (old new : C) (made : List Reply) : Type 0 where
    pub replies : made ≡ replies_of (row_reply row_of) (row_list row_of) list steps
    pub writes : Writes b at (access.numbers old) (access.numbers new) window (list_after (row_list row_of) list steps)

  -- Steps that were made, and one more that followed its row, were made together.
  pub Ran-next : (b : ℕ) (at : ℕ → ℕ → ℕ) (words : Bool) (list : List Bool) (steps : List S) (i : ℕ) (d : S) (window : Window) (old now new : C) (made : List Reply) (result : Reply) → HasWindow b (access.numbers old) window → i < length steps
      → Ran b at list (take i steps) window old now made
      → Follows access b at words (row_of window.len (slice_index_or steps i d)) window now new result
      → Ran b at list (take (i + 1) steps) window old new (made ++ (result ∷ []))
  Ran-next b at words list steps i d window old now new made result has below before did =
      let step = slice_index_or steps i d in
      let list_now = list_after (row_list row_of) list (take i steps) in
      let holds : list_in b at (access.numbers now) window ≡ list_now = Writes-holds has before.writes in
      let long = sym before.writes.long in
      let reply : result ≡ row_reply row_of list_now step =
      did.reply
      ∙ ap (λ (l : List Bool). (row_of window.len step).reply l) holds
      ∙ ap (λ (n : ℕ). (row_of n step).reply list_now) long in
      record {
        replies = rw (before.replies, reply) (sym (replies-next (row_reply row_of) (row_list row_of) list steps i d below));
        writes = Writes-is
            (Writes-then has before.writes did.writes)
            (ap (λ (l : List Bool). (row_of window.len step).list l) holds
            ∙ ap (λ (n : ℕ). (row_of n step).list list_now) long
            ∙ sym (after-next (row_list row_of) list steps i d below));
      }

-- the same with what it took of the two memories, after no step, one step more, and all of them
module _ {E F C D S : Type 0} (access : Access C E) (beside : Access D F) (row_of : ℕ → S → CommandRow) where
  -- A run before its first step has made no replies and changed nothing.
  pub RunsBy-start : {b : ℕ} {at : ℕ → ℕ → ℕ} {words : Bool} {window : Window} (steps : List S) {old : C} {right : D} {made : List Reply} → HasWindow b (access.numbers old) window → made ≡ []
      → RunsBy access beside row_of b at words window (take 0 steps) old old right right made
  RunsBy-start {b} {at} {words} {window} steps {old} {right} {made} has none = record {
    replies = none;
    writes = Writes-nothing at _ has refl;
    cost = record { borrow = refl; loads = omega arith; stores = omega arith };
    right = record { numbers = refl; borrow = refl; loads = omega arith; stores = refl };
  }

  -- A run and one step more that followed its row are a run of one step more.
  pub RunsBy-next : {b : ℕ} {at : ℕ → ℕ → ℕ} {words : Bool} {window : Window} (steps : List S) (i : ℕ) (d : S) {old now new : C} {right_old right_now right_new : D} {made : List Reply} {result : Reply}
      → HasWindow b (access.numbers old) window → i < length steps
      → RunsBy access beside row_of b at words window (take i steps) old now right_old right_now made
      → FollowsBoth access beside b at words (row_of window.len (slice_index_or steps i d)) window now new right_now right_new result
      → RunsBy access beside row_of b at words window (take (i + 1) steps) old new right_old right_new (made ++ (result ∷ []))
  RunsBy-next {b} {at} {words} {window} steps i d {old} {now} {new} {right_old} {right_now} {right_new} {made} {result} has below before did =
      let cost : S → Cost = λ step. (row_of window.len step).cost (place_of b words window) in
      let next = Ran-next access row_of b at words _ steps i d window old now new made result has below (record { replies = before.replies; writes = before.writes }) did.left in
      record {
        replies = next.replies;
        writes = next.writes;
        cost = costs-next access cost old now new steps i d below before.cost did.left.cost;
        right = reads-next beside cost right_old right_now right_new steps i d below before.right did.right;
      }

  -- A run of at least all steps is a run of all.
  pub RunsBy-all : {b : ℕ} {at : ℕ → ℕ → ℕ} {words : Bool} {window : Window} (steps : List S) (i : ℕ) {old new : C} {right_old right_new : D} {made : List Reply} → length steps ≤ i
      → RunsBy access beside row_of b at words window (take i steps) old new right_old right_new made → RunsBy access beside row_of b at words window steps old new right_old right_new made
  RunsBy-all {b} {at} {words} {window} steps i {old} {new} {right_old} {right_new} {made} over ran =
      subst (λ (done : List S). RunsBy access beside row_of b at words window done old new right_old right_new made) (take_all i steps over) ran

-- a run that was made, and one that wasn't
module _ {E F C D S A : Type 0} {access : Access C E} {beside : Access D F} {row_of : List Bool → ℕ → S → CommandRow} {b : ℕ} {at : ℕ → ℕ → ℕ} {words : Bool} {window : Window} {steps : List S} where
  -- A run that could be made, and did what its rows say, meets what a run promises.
  pub RunsOrFails-ran : {old new : C} {right_old right_new : D} {replies : Vec Reply A} → CanRun b (access.numbers old) window (beside.numbers right_old)
      → RunsBy access beside (row_of (memory_bits b at (beside.numbers right_old))) b at words window steps old new right_old right_new (vec_items replies)
      → RunsOrFails access beside row_of b at words window steps old new right_old right_new (Ok replies)
  RunsOrFails-ran {old} {new} {right_old} {right_new} {replies} can ran = record {
    runs = ran;
    made = can;
    fails = tt;
    unchanged = tt;
  }

  -- A run that failed as it should, and did nothing before, meets it too.
  pub RunsOrFails-failed : {old : C} {right : D} (why : RunError) → FailsRun b (access.numbers old) window (beside.numbers right) (length steps) why
      → RunsOrFails {A = A} access beside row_of b at words window steps old old right right (Err why)
  RunsOrFails-failed {old} {right} why fails = record {
    runs = tt;
    made = tt;
    fails = fails;
    unchanged = (record { numbers = refl; borrow = refl; loads = omega arith; stores = refl }, record { numbers = refl; borrow = refl; loads = omega arith; stores = refl });
  }
