-- Steps made one after the other, whatever a step is: `next` is what a step makes of a list, and `reply` what it answers.
use Rattle.std.specs.Prelude.{List, [], ◌∷◌}
use Rattle.std.specs.List.{sum_by}
use Rattle.bitvec_commands.specs.Costs.{Cost}

module _ {L S : Type 0} (next : L → S → L) where
  -- the list after them
  abbrev pub list_after : L → List S → L
  list_after list [] = list
  list_after list (step ∷ steps) = list_after (next list step) steps

module _ {L S R : Type 0} (reply : L → S → R) (next : L → S → L) where
  -- their replies, one a step
  abbrev pub replies_of : L → List S → List R
  replies_of list [] = []
  replies_of list (step ∷ steps) = reply list step ∷ replies_of (next list step) steps

module _ {S : Type 0} (cost : S → Cost) where
  -- the sum of their costs
  abbrev pub cost_of : List S → Cost
  cost_of steps = record {
    loads = sum_by (λ step. (cost step).loads) steps;
    stores = sum_by (λ step. (cost step).stores) steps;
    right_loads = sum_by (λ step. (cost step).right_loads) steps;
  }
