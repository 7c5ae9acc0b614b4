-- The room that a struct of one field takes.
use Rattle.std.proofs.Common.{◌≡◌, ℕ, ◌+◌, ◌<◌, max, arith}
use Rattle.std.proofs.Math.Nat.{add-zero, mod_self, sub-zero, zero-add, zero-mod}
use mir.Syntax.{Ty}
use prog.Memory.{align, size, up}
use prog.Align.{align_pos, align_size, dv→}

-- no more than the field
pub one_field : (τ : Ty) (n : ℕ) → size τ < n → up (max (align τ) 1) (up (align τ) 0 + size τ) < n
one_field τ n fits =
    let some = align_pos τ in
    let whole = dv→ (align τ) (size τ) (align_size τ) in
    let same : max (align τ) 1 ≡ align τ = omega arith in
    rw same (simp (zero-mod, sub-zero, mod_self, zero-add, whole, add-zero) fits)
