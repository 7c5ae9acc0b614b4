-- What a call did with an accessor, beside the memory's bits.
use Rattle.std.specs.Prelude.{◌≡◌, ℕ, ◌+◌, ◌≤◌}
use Rattle.bitvec_cells.specs.declared.cells.CellsRead.{Ghosts as Access}

module _ {E C : Type 0} (access : Access C E) where
  -- The call made exactly `m` loads and `n` stores, and the accessor has the same borrow.
  pub record Costs (old new : C) (m n : ℕ) : Type 0 where
    pub borrow : access.borrow new ≡ access.borrow old
    pub loads : access.loads new ≡ access.loads old + m
    pub stores : access.stores new ≡ access.stores old + n

  -- The call made at most `m` loads and `n` stores, and the accessor has the same borrow.
  pub record CostsAtMost (old new : C) (m n : ℕ) : Type 0 where
    pub borrow : access.borrow new ≡ access.borrow old
    pub loads : access.loads new ≤ access.loads old + m
    pub stores : access.stores new ≤ access.stores old + n

  -- The call made exactly `m` loads and no store, left every element, and the accessor has the same borrow.
  pub record OnlyReads (old new : C) (m : ℕ) : Type 0 where
    pub numbers : access.numbers new ≡ access.numbers old
    pub borrow : access.borrow new ≡ access.borrow old
    pub loads : access.loads new ≡ access.loads old + m
    pub stores : access.stores new ≡ access.stores old

  -- The call made at most `m` loads and no store, left every element, and the accessor has the same borrow.
  pub record OnlyReadsAtMost (old new : C) (m : ℕ) : Type 0 where
    pub numbers : access.numbers new ≡ access.numbers old
    pub borrow : access.borrow new ≡ access.borrow old
    pub loads : access.loads new ≤ access.loads old + m
    pub stores : access.stores new ≡ access.stores old
