-- The rest of a walk, as a part of the window's list.
use Rattle.std.specs.Prelude.{◌≡◌, ℕ, ◌+◌, ◌-◌, ◌<◌, ◌≤◌, Bool, true, false, not, count_by, refl, Some, None, List, [], ◌∷◌, ◌++◌, length, slice_range}
use Rattle.std.specs.Bool.{beq}
use Rattle.std.proofs.Common.{arith, sym, ◌∙◌, ap}
use Rattle.bitvec_base.specs.declared.window.Window.{Window}
use Rattle.bitvec_base.specs.Lists.{first_place, last_place}
use Rattle.bitvec_base.specs.Memory.{HasWindow, list_in}
use Rattle.bitvec_base.specs.ScanLaws.{first-within, last-within}
use Rattle.bitvec_base.specs.Window.{window_range}
use Rattle.bitvec_base.specs.WritesLaws.{length-list, list-range}
use Rattle.bitvec_places.specs.declared.rest.Rest.{Rest}
use Rattle.bitvec_places.specs.Places.{IsRestOf, places_in}
use Rattle.bitvec_places.proofs.PlacesLaws.{places-absent, places-absent_back, places-count, places-first, places-last}

module _ (b : ℕ) (at : ℕ → ℕ → ℕ) (xs : List ℕ) (window : Window) (rest : Rest) (wanted : Bool) (has : HasWindow b xs window) (inside : IsRestOf rest window.len) where
  bound : rest.back ≤ length (list_in b at xs window)
  bound = let long = length-list at has in let most = inside.bound in omega arith

  same : list_in b at xs (window_range window rest.front rest.back) ≡ slice_range (list_in b at xs window) rest.front rest.back
  same = list-range at rest.front rest.back has inside.order inside.bound

  module _ (i : ℕ) (found : Some i ≡ first_place wanted (list_in b at xs (window_range window rest.front rest.back))) where
    here : Some i ≡ first_place wanted (slice_range (list_in b at xs window) rest.front rest.back)
    here = found ∙ ap (first_place wanted) same

    pub first-below : i < rest.back - rest.front
    first-below = first-within wanted (list_in b at xs window) rest.front rest.back i bound (sym here)

    pub first-taken : places_in wanted (list_in b at xs window) rest.front rest.back ≡ (rest.front + i) ∷ places_in wanted (list_in b at xs window) (rest.front + i + 1) rest.back
    first-taken = places-first wanted (list_in b at xs window) rest.front rest.back inside.order bound i here first-below

  module _ (i : ℕ) (found : Some i ≡ last_place wanted (list_in b at xs (window_range window rest.front rest.back))) where
    there : Some i ≡ last_place wanted (slice_range (list_in b at xs window) rest.front rest.back)
    there = found ∙ ap (last_place wanted) same

    pub last-below : i < rest.back - rest.front
    last-below = last-within wanted (list_in b at xs window) rest.front rest.back i bound (sym there)

    pub last-taken : places_in wanted (list_in b at xs window) rest.front rest.back ≡ places_in wanted (list_in b at xs window) rest.front (rest.front + i) ++ (rest.front + i) ∷ []
    last-taken = places-last wanted (list_in b at xs window) rest.front rest.back inside.order bound i there last-below

  pub none-left : None ≡ first_place wanted (list_in b at xs (window_range window rest.front rest.back)) → places_in wanted (list_in b at xs window) rest.front rest.back ≡ []
  none-left found = places-absent wanted (list_in b at xs window) rest.front rest.back inside.order bound (found ∙ ap (first_place wanted) same)

  pub none-left_back : None ≡ last_place wanted (list_in b at xs (window_range window rest.front rest.back)) → places_in wanted (list_in b at xs window) rest.front rest.back ≡ []
  none-left_back found = places-absent_back wanted (list_in b at xs window) rest.front rest.back inside.order bound (found ∙ ap (last_place wanted) same)

  -- and how many there are
  pub count-taken : (test : Bool → Bool) → ((bit : Bool) → beq bit wanted ≡ test bit) → length (places_in wanted (list_in b at xs window) rest.front rest.back) ≡ count_by test (list_in b at xs (window_range window rest.front rest.back))
  count-taken test as_wanted =
      places-count wanted (list_in b at xs window) rest.front rest.back inside.order bound test as_wanted ∙ ap (count_by test) (sym same)

pub is_one : (bit : Bool) → beq bit true ≡ bit
is_one true = refl
is_one false = refl

pub is_zero : (bit : Bool) → beq bit false ≡ not bit
is_zero true = refl
is_zero false = refl
