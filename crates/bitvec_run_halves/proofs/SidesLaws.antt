-- A run through two halves, step by step.
use Rattle.std.specs.Prelude.{◌≡◌, ℕ, ◌+◌, ◌-◌, ◌<◌, ◌≤◌, Bool, List, [], ◌∷◌, ◌++◌, length, slice_index_or, slice_range, take, refl}
use Rattle.std.proofs.Common.{arith, rules, sym, ◌∙◌, ap, length-append, length-take}
use Rattle.std.proofs.lemmas.List.{places, same_lists, take-append-drop}
use Rattle.bitvec_base.specs.declared.window.Window.{Window}
use Rattle.bitvec_base.specs.Memory.{HasWindow, Writes, list_in}
use Rattle.bitvec_base.specs.Window.{write_at}
use Rattle.bitvec_base.specs.WritesLaws.{HasWindow-kept, HasWindow-range, Writes-holds, Writes-is, Writes-nothing, Writes-range, Writes-then, length-list, list-range}
use Rattle.bitvec_cells.specs.declared.cells.CellsRead.{Ghosts as Access}
use Rattle.bitvec_commands.specs.declared.command.Reply.{Reply}
use Rattle.bitvec_run.specs.declared.step.Step.{Step}
use Rattle.bitvec_run.specs.Fold.{list_after, replies_of}
use Rattle.bitvec_run.specs.FoldLaws.{after-next, replies-next}
use Rattle.bitvec_commands.specs.Follows.{Follows}
use Rattle.bitvec_run.specs.Runs.{step_outcome}
use Rattle.bitvec_run_halves.specs.Sides.{halves_of, joined, side_lists, side_reply, side_window}
use Rattle.bitvec_run_halves.specs.declared.halves.Side.{Side}
use Rattle.bitvec_run_halves.specs.declared.halves.Side.TheVariants.{Left, Right}

-- the two of two lists one after the other, and what is written there
module _ {X : Type 0} (l r : List X) (mid n : ℕ) (cut : length l ≡ mid) where
  front-list : slice_range (l ++ r) 0 mid ≡ l
  front-list = same_lists _ _ (search (rules, places)) (λ k d inside. grind (arith, places))

  rest-list : length (l ++ r) ≡ n → slice_range (l ++ r) mid n ≡ r
  rest-list all = same_lists _ _ (search (rules, places)) (λ k d inside. grind (arith, places))

  front-written : (new : List X) → length new ≡ mid → write_at (l ++ r) 0 new ≡ new ++ r
  unfolding write_at
  front-written new long = same_lists _ _ (search (rules, places)) (λ k d inside. grind (arith, places))

  rest-written : (new : List X) → length (l ++ r) ≡ n → length new ≡ n - mid → write_at (l ++ r) mid new ≡ l ++ new
  unfolding write_at
  rest-written new all long = same_lists _ _ (search (rules, places)) (λ k d inside. grind (arith, places))

-- a side of a window of the memory is one too
pub side-has : (b : ℕ) (xs : List ℕ) (window : Window) (mid : ℕ) (side : Side) → HasWindow b xs window → mid ≤ window.len → HasWindow b xs (side_window window mid side)
side-has b xs window mid Left has order = HasWindow-range 0 mid has (omega arith) order
side-has b xs window mid Right has order = HasWindow-range mid window.len has order (omega arith)

-- what the steps so far replied and left
module _ {E C : Type 0} (access : Access C E) (b : ℕ) (at : ℕ → ℕ → ℕ) (words : Bool) (right : List Bool) (window : Window) (mid : ℕ) where
  -- one step, made on the two lists that the window holds
  record Made (lists : List Bool × List Bool) (step : Side × Step) (old new : C) (result : Reply) : Type 0 where
    pub reply : result ≡ side_reply right lists step
    pub writes : Writes b at (access.numbers old) (access.numbers new) window (joined (side_lists right lists step))
    pub cut : length (side_lists right lists step).0 ≡ mid

  made : (lists : List Bool × List Bool) (step : Side × Step) (old new : C) (result : Reply) → HasWindow b (access.numbers old) window → mid ≤ window.len → length lists.0 ≡ mid
      → list_in b at (access.numbers old) window ≡ joined lists
      → Follows access b at words (step_outcome right (side_window window mid step.0).len step.1) (side_window window mid step.0) old new result
      → Made lists step old new result
  made (l, r) (Left, step) old new result has order cut holds did =
      let xs = access.numbers old in
      let row = λ (n : ℕ). step_outcome right n step in
      let len : mid - 0 ≡ length l = omega (arith, cut) in
      let part : list_in b at xs (side_window window mid Left) ≡ l = list-range at 0 mid has (omega arith) order ∙ ap (λ (ys : List Bool). slice_range ys 0 mid) holds ∙ front-list l r mid window.len cut in
      let same = ap (λ (ys : List Bool). (row (mid - 0)).list ys) part ∙ ap (λ (n : ℕ). (row n).list l) len in
      let writes = Writes-is did.writes same in
      let long : length ((row (length l)).list l) ≡ mid = omega (arith, writes.long) in
      record {
        reply = did.reply ∙ ap (λ (ys : List Bool). (row (mid - 0)).reply ys) part ∙ ap (λ (n : ℕ). (row n).reply l) len;
        writes = Writes-is (Writes-range 0 mid has (omega arith) order writes)
            (ap (λ (ys : List Bool). write_at ys 0 ((row (length l)).list l)) holds ∙ front-written l r mid window.len cut _ long);
        cut = long;
      }
  made (l, r) (Right, step) old new result has order cut holds did =
      let xs = access.numbers old in
      let row = λ (n : ℕ). step_outcome right n step in
      let all : length (l ++ r) ≡ window.len = sym (ap length holds) ∙ length-list at has in
      let len : window.len - mid ≡ length r = omega (arith, cut, all, length-append l r) in
      let part : list_in b at xs (side_window window mid Right) ≡ r = list-range at mid window.len has order (omega arith) ∙ ap (λ (ys : List Bool). slice_range ys mid window.len) holds ∙ rest-list l r mid window.len cut all in
      let same = ap (λ (ys : List Bool). (row (window.len - mid)).list ys) part ∙ ap (λ (n : ℕ). (row n).list r) len in
      let writes = Writes-is did.writes same in
      record {
        reply = did.reply ∙ ap (λ (ys : List Bool). (row (window.len - mid)).reply ys) part ∙ ap (λ (n : ℕ). (row n).reply r) len;
        writes = Writes-is (Writes-range mid window.len has order (omega arith) writes)
            (ap (λ (ys : List Bool). write_at ys mid ((row (length r)).list r)) holds ∙ rest-written l r mid window.len cut _ all writes.long);
        cut = cut;
      }

  -- all steps so far
  pub record RanSides (steps : List (Side × Step)) (old new : C) (replies : List Reply) : Type 0 where
    pub replied : replies ≡ replies_of (side_reply right) (side_lists right) (halves_of mid (list_in b at (access.numbers old) window)) steps
    pub writes : Writes b at (access.numbers old) (access.numbers new) window (joined (list_after (side_lists right) (halves_of mid (list_in b at (access.numbers old) window)) steps))
    pub cut : length (list_after (side_lists right) (halves_of mid (list_in b at (access.numbers old) window)) steps).0 ≡ mid

  -- none
  pub RanSides-none : (old : C) → HasWindow b (access.numbers old) window → mid ≤ window.len → RanSides [] old old []
  RanSides-none old has order =
      let list = list_in b at (access.numbers old) window in
      let long = length-list at has in
      record {
        replied = refl;
        writes = Writes-is (Writes-nothing at (access.numbers old) has refl) (sym (take-append-drop mid list));
        cut = omega (arith, length-take mid list);
      }

  -- and one step more
  pub RanSides-next : (steps : List (Side × Step)) (i : ℕ) (d : Side × Step) (old now new : C) (replies : List Reply) (result : Reply) → HasWindow b (access.numbers old) window → mid ≤ window.len → i < length steps
      → RanSides (take i steps) old now replies
      → Follows access b at words (step_outcome right (side_window window mid (slice_index_or steps i d).0).len (slice_index_or steps i d).1) (side_window window mid (slice_index_or steps i d).0) now new result
      → RanSides (take (i + 1) steps) old new (replies ++ (result ∷ []))
  RanSides-next steps i d old now new replies result has order below before did =
      let start = halves_of mid (list_in b at (access.numbers old) window) in
      let lists = list_after (side_lists right) start (take i steps) in
      let step = slice_index_or steps i d in
      let holds = Writes-holds has before.writes in
      let one = made lists step now new result (HasWindow-kept (access.numbers now) has before.writes.elements) order before.cut holds did in
      let next = sym (after-next (side_lists right) start steps i d below) in
      record {
        replied = rw (before.replied, one.reply) (sym (replies-next (side_reply right) (side_lists right) start steps i d below));
        writes = Writes-is (Writes-then has before.writes one.writes) (ap joined next);
        cut = ap (λ (ls : List Bool × List Bool). length ls.0) (sym next) ∙ one.cut;
      }
