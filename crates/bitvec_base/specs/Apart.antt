-- Two sides of a window that share no element.
use Rattle.std.specs.Prelude.{◌≡◌, ℕ, ◌+◌, ◌%◌, ◌⊎◌}
use Rattle.bitvec_base.specs.declared.window.Window.{Window}

-- The window is cut at its index `mid` without dividing an element of `b` bits: at one of its ends, or at an element's edge.
abbrev pub ComesApart : ℕ → Window → ℕ → Type 0
ComesApart b window mid = (mid ≡ 0) ⊎ ((mid ≡ window.len) ⊎ ((window.start + mid) % b ≡ 0))
