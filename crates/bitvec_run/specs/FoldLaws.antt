-- Steps made one after the other, a step at a time, whatever a step is.
use Rattle.std.specs.Prelude.{◌≡◌, ℕ, ◌+◌, ◌<◌, ◌≤◌, List, [], ◌∷◌, ◌++◌, length, take, slice_index_or, refl}
use Rattle.std.proofs.Common.{arith, ◌∙◌, ap}
use Rattle.std.proofs.lemmas.List.Sums.{sum_by_more}
use Rattle.std.proofs.lemmas.List.{take_all, take_more}
use Rattle.bitvec_cells.specs.declared.cells.CellsRead.{Ghosts as Access}
use Rattle.bitvec_cells.specs.Access.{CostsAtMost, OnlyReadsAtMost}
use Rattle.bitvec_commands.specs.Costs.{Cost}
use Rattle.bitvec_run.specs.Fold.{list_after, replies_of, cost_of}

module _ {L S : Type 0} (next : L → S → L) where
  after-one : (list : L) (steps : List S) (step : S) → list_after next list (steps ++ (step ∷ [])) ≡ next (list_after next list steps) step
  after-one list [] step = refl
  after-one list (first ∷ steps) step = after-one (next list first) steps step

  -- The list after one step more is what that step makes of the list before it.
  pub after-next : (list : L) (steps : List S) (i : ℕ) (d : S) → i < length steps → list_after next list (take (i + 1) steps) ≡ next (list_after next list (take i steps)) (slice_index_or steps i d)
  after-next list steps i d below =
      ap (list_after next list) (take_more steps i d below) ∙ after-one list (take i steps) (slice_index_or steps i d)

  -- The list after at least all steps is the list after all.
  pub after-all : (list : L) (steps : List S) (i : ℕ) → length steps ≤ i → list_after next list (take i steps) ≡ list_after next list steps
  after-all list steps i over = ap (list_after next list) (take_all i steps over)

module _ {L S R : Type 0} (reply : L → S → R) (next : L → S → L) where
  replies-one : (list : L) (steps : List S) (step : S) → replies_of reply next list (steps ++ (step ∷ [])) ≡ replies_of reply next list steps ++ (reply (list_after next list steps) step ∷ [])
  replies-one list [] step = refl
  replies-one list (first ∷ steps) step = ap (λ replies. reply list first ∷ replies) (replies-one (next list first) steps step)

  -- The replies to one step more are those before and that step's reply to the list before it.
  pub replies-next : (list : L) (steps : List S) (i : ℕ) (d : S) → i < length steps
      → replies_of reply next list (take (i + 1) steps) ≡ replies_of reply next list (take i steps) ++ (reply (list_after next list (take i steps)) (slice_index_or steps i d) ∷ [])
  replies-next list steps i d below =
      ap (replies_of reply next list) (take_more steps i d below) ∙ replies-one list (take i steps) (slice_index_or steps i d)

  -- The replies to at least all steps are the replies to all.
  pub replies-all : (list : L) (steps : List S) (i : ℕ) → length steps ≤ i → replies_of reply next list (take i steps) ≡ replies_of reply next list steps
  replies-all list steps i over = ap (replies_of reply next list) (take_all i steps over)

-- the accesses of one step more
module _ {E C S : Type 0} (access : Access C E) (cost : S → Cost) where
  -- The loads and stores of one step more are within the sum of the costs.
  pub costs-next : (old now new : C) (steps : List S) (i : ℕ) (d : S) → i < length steps
      → CostsAtMost access old now (cost_of cost (take i steps)).loads (cost_of cost (take i steps)).stores
      → CostsAtMost access now new (cost (slice_index_or steps i d)).loads (cost (slice_index_or steps i d)).stores
      → CostsAtMost access old new (cost_of cost (take (i + 1) steps)).loads (cost_of cost (take (i + 1) steps)).stores
  costs-next old now new steps i d below before did =
      let loads = sum_by_more (λ step. (cost step).loads) steps i d below in
      let stores = sum_by_more (λ step. (cost step).stores) steps i d below in
      record {
        borrow = did.borrow ∙ before.borrow;
        loads = omega (arith, before.loads, did.loads);
        stores = omega (arith, before.stores, did.stores);
      }

  -- The loads of the right memory of one step more are within the sum of the costs.
  pub reads-next : (old now new : C) (steps : List S) (i : ℕ) (d : S) → i < length steps
      → OnlyReadsAtMost access old now (cost_of cost (take i steps)).right_loads
      → OnlyReadsAtMost access now new (cost (slice_index_or steps i d)).right_loads
      → OnlyReadsAtMost access old new (cost_of cost (take (i + 1) steps)).right_loads
  reads-next old now new steps i d below before did =
      let loads = sum_by_more (λ step. (cost step).right_loads) steps i d below in
      record {
        numbers = did.numbers ∙ before.numbers;
        borrow = did.borrow ∙ before.borrow;
        loads = omega (arith, before.loads, did.loads);
        stores = did.stores ∙ before.stores;
      }
