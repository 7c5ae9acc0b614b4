-- Which way an order runs through an element.
use Rattle.std.specs.Prelude.{◌≡◌, ℕ, ◌<◌, true, false}
use Rattle.bitvec_words.specs.OrderEnd.{RunsFrom}
use Rattle.bitvec_engine.specs.declared.order_direction.Direction.{Direction}
use Rattle.bitvec_engine.specs.declared.order_direction.Direction.TheVariants.{Up, Down, Other}

-- two orders have the bits of an element of b bits at the same indices
abbrev pub Agrees : ℕ → (ℕ → ℕ → ℕ) → (ℕ → ℕ → ℕ) → Type 0
Agrees b at other = (i : ℕ) → i < b → at b i ≡ other b i

-- the order runs through an element of b bits as is said: up, down, or neither
unfoldable pub HasDirection : Direction → ℕ → (ℕ → ℕ → ℕ) → Type 0
HasDirection Up b at = RunsFrom false b at
HasDirection Down b at = RunsFrom true b at
HasDirection Other b at = (¬ RunsFrom false b at) × (¬ RunsFrom true b at)
