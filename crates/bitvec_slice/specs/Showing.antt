-- A view shows its elements: its bits are those of its window in them.
use Rattle.std.specs.Prelude.{◌≡◌, ℕ, ◌+◌, ◌*◌, ◌≤◌, List, length, map, refl}
use Rattle.bitvec_base.specs.Memory.{HasWindow, list_in, memory_bits}
use Rattle.bitvec_base.specs.Window.{max_bits}
use Rattle.bitvec_slice.specs.Seen.{Seen, shown}
use Rattle.bitvec_slice.specs.SeenLaws.{has_window}

module _ {T : Type 0} (b : ℕ) (at : ℕ → ℕ → ℕ) (value : T → ℕ) where
  -- The view's memory is that of its elements, which has its window, and its bits are those there.
  pub record ShowsElements (view : Seen T) : Type 0 where
    pub bits : view.bits ≡ list_in b at (map value view.elements) view.window
    pub memory : view.memory ≡ memory_bits b at (map value view.elements)
    pub has : HasWindow b (map value view.elements) view.window

  -- What is shown of a window that lies in the elements shows the elements.
  pub shows_elements : (elements : List T) (start len : ℕ) → start + len ≤ b * length elements → b * length elements ≤ max_bits → ShowsElements (shown b at value elements start len)
  shows_elements elements start len inside bounded = record { bits = refl; memory = refl; has = has_window b at value elements start len inside bounded }
