-- The loads of a walk over the places of a bit.
use Rattle.std.specs.Prelude.{◌≡◌, ℕ, ◌+◌, ◌-◌, ◌≤◌, Option}
use Rattle.std.specs.Option.{option_len}
use Rattle.bitvec_base.specs.declared.window.Window.{Window}
use Rattle.bitvec_cells.specs.declared.cells.CellsRead.{Ghosts as Access}
use Rattle.bitvec_cells.specs.Cost.{touched_count}
use Rattle.bitvec_places.specs.declared.rest.Rest.{Rest}

-- How many elements the rest of the window touches.
abbrev pub rest_loads : ℕ → Window → Rest → ℕ
rest_loads b window rest = touched_count b (window.start + rest.front) (rest.back - rest.front)

-- a call that made `left` of the rest only read: it loaded what `left` doesn't touch any more, and for a place that was given one element more
module _ {E C : Type 0} (access : Access C E) where
  -- A call loads as many elements as the rest no longer touches, and one more where it gives a place, and stores nothing.
  pub record LoadsPassed (b : ℕ) (window : Window) (rest left : Rest) (given : Option ℕ) (old new : C) : Type 0 where
    pub numbers : access.numbers new ≡ access.numbers old
    pub borrow : access.borrow new ≡ access.borrow old
    pub loads : access.loads new + rest_loads b window left ≤ access.loads old + rest_loads b window rest + option_len given
    pub stores : access.stores new ≡ access.stores old
