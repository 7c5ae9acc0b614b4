-- Turns of a search: some elements of a run of them, and those behind or before them.
use Rattle.std.specs.Prelude.{◌≡◌, ℕ, ◌+◌, ◌-◌, ◌*◌, ◌/◌, ◌<◌, ◌≤◌, Bool, List, Option, Some, None, refl}
use Rattle.std.proofs.Common.{arith}
use Rattle.std.proofs.Math.Nat.{mul-le-mul_left}
use Rattle.bitvec_store.specs.Width.{IsWidth}
use Rattle.bitvec_store.specs.WidthLaws.{at_each_width}
use Rattle.bitvec_base.specs.Lists.{last_place}
use Rattle.bitvec_base.specs.Memory.{HasWindow, list_in}
use Rattle.bitvec_cells.specs.Cost.{last_loads}
use Rattle.bitvec_words.specs.Elements.{elements_window}
use Rattle.bitvec_words.specs.Split.{Split}
use Rattle.bitvec_words.specs.TouchedLaws.{touched-whole}
use Rattle.bitvec_words.proofs.ScanLemmas.{last-inside}
use Rattle.bitvec_words.proofs.SplitLemmas.{HasWindow-behind, HasWindow-front, elements-split, last-loads_behind, last-loads_front, split-last, split-last_front}
use Rattle.bitvec_words.proofs.WordScanLemmas.{Block, block-at}

-- ---- from the front, by blocks

-- one of n blocks of s bits
pub block-of : (b s : ℕ) {xs : List ℕ} (first n step : ℕ) → IsWidth b → HasWindow b xs (elements_window b first (n * (s / b))) → step < n → Block b xs first (n * (s / b)) (s / b) step
block-of b s first n step width has more = block-at b (s / b) first (n * (s / b)) step width has (omega (arith, mul-le-mul_left (s / b) more))

-- the elements of a turn
pub turn_whole : (b : ℕ) → IsWidth b → 1024 / b * b ≡ 1024
turn_whole b w = at_each_width (λ n. 1024 / n * n ≡ 1024) refl refl refl refl refl b w

-- are those of four blocks
pub turn_blocks : (b : ℕ) → IsWidth b → 4 * (256 / b) ≡ 1024 / b
turn_blocks b w = at_each_width (λ n. 4 * (256 / n) ≡ 1024 / n) refl refl refl refl refl b w

-- ---- from the back: n elements, from one on, where those behind them lack the bit

module _ (b : ℕ) (at : ℕ → ℕ → ℕ) (xs : List ℕ) (first count passed n next : ℕ) (want : Bool) (some : 0 < b) (has : HasWindow b xs (elements_window b first count)) (sum : passed + n ≡ next) (within : next ≤ count) where
  turn-split : Split b (elements_window b (first + passed) n) (elements_window b (first + next) (count - next)) (elements_window b (first + passed) (count - passed))
  turn-split =
      let place : first + passed + n ≡ first + next = omega arith in
      let left : count - passed - n ≡ count - next = omega arith in
      rw (place, left) at (elements-split b (first + passed) (count - passed) n some (omega arith))

  HasWindow-from : HasWindow b xs (elements_window b (first + passed) (count - passed))
  HasWindow-from = HasWindow-behind (elements-split b first count passed some (omega arith)) has

  pub HasWindow-turn : HasWindow b xs (elements_window b (first + passed) n)
  HasWindow-turn = HasWindow-front turn-split HasWindow-from

  pub last-turn_loads : (i : ℕ) → Some i ≡ last_place want (list_in b at xs (elements_window b (first + passed) n))
      → count - next + last_loads b (elements_window b (first + passed) n) (Some i) ≡ last_loads b (elements_window b first count) (Some (passed * b + i))
  last-turn_loads i here =
      let behind = touched-whole b (first + next) (count - next) some in
      let near = last-loads_front turn-split some (Some i) (last-inside at want HasWindow-turn here) in
      let far = last-loads_behind (elements-split b first count passed some (omega arith)) some i in
      omega arith

  module _ (none : None ≡ last_place want (list_in b at xs (elements_window b (first + next) (count - next)))) where
    pub last-turn : (found : Option ℕ) → found ≡ last_place want (list_in b at xs (elements_window b (first + passed) n)) → found ≡ last_place want (list_in b at xs (elements_window b (first + passed) (count - passed)))
    last-turn found here = split-last_front turn-split at HasWindow-from want found none here

    pub last-turn_has : (i : ℕ) → Some i ≡ last_place want (list_in b at xs (elements_window b (first + passed) n)) → Some (passed * b + i) ≡ last_place want (list_in b at xs (elements_window b first count))
    last-turn_has i here = split-last (elements-split b first count passed some (omega arith)) at has want i (last-turn (Some i) here)
