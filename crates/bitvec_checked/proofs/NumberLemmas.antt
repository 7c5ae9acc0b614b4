-- A number of few bits fits a word.
use Rattle.std.specs.Prelude.{ℕ, ◌^◌, ◌<◌, ◌≤◌, Bool, List}
use Rattle.std.proofs.Common.{arith}
use Rattle.std.proofs.Math.Pow.{pow_mono}
use Rattle.bitvec_base.specs.declared.window.Window.{Window}
use Rattle.bitvec_base.specs.Memory.{HasWindow, list_in}
use Rattle.bitvec_base.specs.WritesLaws.{length-list}
use Rattle.bitvec_segments.specs.LoadLaws.{loaded-below}
use Rattle.bitvec_segments.specs.Segments.{loaded}

pub loaded-fits : (big high : Bool) (b s : ℕ) (at : ℕ → ℕ → ℕ) (xs : List ℕ) (window : Window) → HasWindow b xs window → window.len ≤ 64 → loaded big high b s (list_in b at xs window) < 2 ^ 64
loaded-fits big high b s at xs window has most =
    let below = rw (length-list at has) at (loaded-below big high b s (list_in b at xs window)) in
    let order : 2 ^ window.len ≤ 2 ^ 64 = pow_mono most in
    omega (arith, below)
