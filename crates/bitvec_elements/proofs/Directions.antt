-- What is read and written where an order runs up or down through an element, as `Lsb0` or `Msb0` does.
use Rattle.std.specs.Prelude.{◌≡◌, ℕ, ◌-◌, Bool, List}
use Rattle.bitvec_base.specs.declared.window.Window.{Window}
use Rattle.bitvec_base.specs.Memory.{Writes, list_in}
use Rattle.bitvec_engine.proofs.DirectionLemmas.{list-agrees}
use Rattle.bitvec_engine.specs.Direction.{HasDirection}
use Rattle.bitvec_engine.specs.declared.order_direction.Direction.{Direction}
use Rattle.bitvec_engine.specs.declared.order_direction.Direction.TheVariants.{Up, Down}
use Rattle.bitvec_store.specs.Width.{IsWidth}
use Rattle.bitvec_store.specs.WidthLaws.{width_some}
use Rattle.bitvec_elements.proofs.StoreLemmas.{Writes-agrees}

module _ (b : ℕ) (at : ℕ → ℕ → ℕ) where
  pub up-list : (xs : List ℕ) (window : Window) (d : Direction) → IsWidth b → HasDirection d b at → d ≡ Up → list_in b at xs window ≡ list_in b (λ b i. i) xs window
  unfolding HasDirection
  up-list xs window d width runs is = list-agrees b at (λ b i. i) xs window (width_some b width) (rw is at runs)

  pub down-list : (xs : List ℕ) (window : Window) (d : Direction) → IsWidth b → HasDirection d b at → d ≡ Down → list_in b at xs window ≡ list_in b (λ b i. b - 1 - i) xs window
  unfolding HasDirection
  down-list xs window d width runs is = list-agrees b at (λ b i. b - 1 - i) xs window (width_some b width) (rw is at runs)

  pub up-writes : (old new : List ℕ) (window : Window) (list : List Bool) (d : Direction) → IsWidth b → HasDirection d b at → d ≡ Up → Writes b (λ b i. i) old new window list → Writes b at old new window list
  unfolding HasDirection
  up-writes old new window list d width runs is = Writes-agrees b at (λ b i. i) old new window list (width_some b width) (rw is at runs)

  pub down-writes : (old new : List ℕ) (window : Window) (list : List Bool) (d : Direction) → IsWidth b → HasDirection d b at → d ≡ Down → Writes b (λ b i. b - 1 - i) old new window list → Writes b at old new window list
  unfolding HasDirection
  down-writes old new window list d width runs is = Writes-agrees b at (λ b i. b - 1 - i) old new window list (width_some b width) (rw is at runs)

pub ruleset by_direction = (up-list, down-list, up-writes, down-writes)
