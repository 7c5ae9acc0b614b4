-- What a closure answered for the bits of a window that is a range.
use Rattle.std.specs.Prelude.{◌≡◌, ℕ, ◌-◌, ◌*◌, ◌≤◌, Bool, List, length, map}
use Rattle.std.specs.Fn.{Mut}
use Rattle.std.proofs.Common.{subst, sym}
use Rattle.bitvec_base.specs.Memory.{Writes, list_in, memory_bits}
use Rattle.bitvec_base.specs.declared.window.Window.{Window}
use Rattle.bitvec_domain.specs.Asked.{RefillsWith}
use Rattle.bitvec_in_place.proofs.Windows.{window_is, written_range}
use Rattle.bitvec_in_place.specs.Ranges.{bits_in}

pub refilled_range : {T F : Type 0} (g : Mut F (ℕ × (Bool × Unit {0})) Bool) (f : F) (b : ℕ) (at : ℕ → ℕ → ℕ) (value : T → ℕ) (old new : List T) (window : Window) (from to : ℕ) (made : List Bool)
    → window ≡ record { start = from; len = to - from } → from ≤ to → to ≤ b * length old → RefillsWith g f (list_in b at (map value old) window) made → Writes b at (map value old) (map value new) window made
    → RefillsWith g f (bits_in (memory_bits b at (map value old)) from to) (bits_in (memory_bits b at (map value new)) from to)
refilled_range g f b at value old new window from to made is order inside answers wrote =
    let range = written_range b at value old new window from to made is order inside wrote in
    subst (λ (l : List Bool). RefillsWith g f l (bits_in (memory_bits b at (map value new)) from to)) (window_is (memory_bits b at (map value old)) window from to is order)
    (subst (λ (l : List Bool). RefillsWith g f (list_in b at (map value old) window) l) (sym range) answers)
