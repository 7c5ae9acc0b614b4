-- The indices of the ones of a window, in turn.
use Rattle.std.specs.Prelude.{◌≡◌, ◌≢◌, ℕ, ◌+◌, Bool, true, List, ◌++◌, drop, length, map, min, take}
use Rattle.bitvec_checked.specs.Calls.{Under}
use Rattle.bitvec_checked.specs.Statuses.{end_status, or_next, window_status}
use Rattle.bitvec_base.specs.declared.window.Window.{Window}
use Rattle.bitvec_base.specs.Lists.{places_of}
use Rattle.bitvec_base.specs.Memory.{list_in}

-- the places, from `from` on, of the ones of a list
abbrev pub ones_from : ℕ → List Bool → List ℕ
ones_from from list = map (λ place. from + place) (places_of true (drop from list))

-- they are written from the first place of `old` on, as many as it has places for; the others stay
module _ {E : Type 0} (order b : ℕ) (value : E → ℕ) where
  pub record Lists (from : ℕ) (window : Window) (elements : List E) (old new : List ℕ) (found_old found_new status : ℕ) : Type 0 where
    pub status_is : status ≡ or_next (window_status order b (map value elements) window) (end_status from window.len)
    pub found : status ≡ 0 → Under order (λ at high. found_new ≡ min (length (ones_from from (list_in b at (map value elements) window))) (length old))
    pub indices : status ≡ 0 → Under order (λ at high. new ≡ take found_new (ones_from from (list_in b at (map value elements) window)) ++ drop found_new old)
    pub unchanged : status ≢ 0 → (new ≡ old) × (found_new ≡ found_old)
