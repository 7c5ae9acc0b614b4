-- A walk over a window from its front, a part of one element at a time.
use Rattle.std.specs.Prelude.{◌≡◌, ℕ, ◌+◌, ◌-◌, ◌%◌, ◌<◌, ◌≤◌, ◌==◌, if◌then◌else◌}
use Rattle.bitvec_base.specs.declared.window.Window.{Window}

-- the rest is an end of the window; where something was passed and something is left, it begins where an element does
pub record Walked (b : ℕ) (window rest : Window) : Type 0 where
  pub start : window.start ≤ rest.start
  pub end : rest.start + rest.len ≡ window.start + window.len
  pub aligned : window.start < rest.start → 0 < rest.len → rest.start % b ≡ 0

-- what the walk has passed
abbrev pub passed : Window → Window → Window
passed window rest = record { start = window.start; len = rest.start - window.start }

-- the loads of a fill so far: none at the start, the first element while something is left, the last one too at the end
abbrev pub edge_loads : Window → Window → ℕ
edge_loads window rest = if rest.start == window.start then 0 else (if rest.len == 0 then 2 else 1)
