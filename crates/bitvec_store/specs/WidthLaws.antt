-- What holds at each width.
use Rattle.std.specs.Prelude.{ℕ, ◌<◌}
use Rattle.std.proofs.Common.{sym, subst, ⊎_elim, lit<}
use Rattle.bitvec_store.specs.Width.{IsWidth}

-- What is true of 8, 16, 32, 64 and 128 is true of each width.
pub at_each_width : (P : ℕ → Type 0) → P 8 → P 16 → P 32 → P 64 → P 128 → (b : ℕ) → IsWidth b → P b
at_each_width P p8 p16 p32 p64 p128 b w =
    ⊎_elim (λ e. subst P (sym e) p8) (⊎_elim (λ e. subst P (sym e) p16) (⊎_elim (λ e. subst P (sym e) p32) (⊎_elim (λ e. subst P (sym e) p64) (λ e. subst P (sym e) p128)))) w

-- A width isn't 0.
pub width_some : (b : ℕ) → IsWidth b → 0 < b
width_some b w = at_each_width (λ n. 0 < n) (lit< tt) (lit< tt) (lit< tt) (lit< tt) (lit< tt) b w
