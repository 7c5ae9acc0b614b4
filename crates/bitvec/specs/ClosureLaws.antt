-- A closure that may always be called may be called as `fill_with` and `for_each` call it.
use Rattle.std.specs.Prelude.{ℕ, Bool, List, length, slice_index_or, false}
use Rattle.std.specs.Fn.{Mut, always_mut}
use Rattle.bitvec_domain.specs.Asked.{CallableBelow, CallableOnBits}
use Rattle.bitvec_domain.specs.AskedLaws.{callable-always}

-- A closure that may always be called may be called on each index below `n`, as `fill_with` calls it.
pub callable_below-always : {F : Type 0} (g : Mut F (ℕ × Unit {0}) Bool) (f : F) (n : ℕ) → always_mut g f → CallableBelow g f n
callable_below-always g f n always = callable-always g (λ i. (i, tt)) f n always

-- A closure that may always be called may be called on each index of some bits and the bit there, as `for_each` calls it.
pub callable_on_bits-always : {F : Type 0} (g : Mut F (ℕ × (Bool × Unit {0})) Bool) (f : F) (old : List Bool) → always_mut g f → CallableOnBits g f old
callable_on_bits-always g f old always = callable-always g (λ i. (i, (slice_index_or old i false, tt))) f (length old) always
