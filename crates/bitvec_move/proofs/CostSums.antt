-- What calls cost that follow one another.
use Rattle.std.specs.Prelude.{◌≡◌, ℕ, ◌+◌, ◌-◌, ◌*◌, ◌≤◌}
use Rattle.std.proofs.Common.{arith, refl, true, ◌∙◌}
use Rattle.bitvec_store.specs.Width.{IsWidth}
use Rattle.bitvec_store.specs.WidthLaws.{width_some}
use Rattle.bitvec_cells.specs.declared.cells.CellsRead.{Ghosts as Access}
use Rattle.bitvec_cells.specs.Access.{Costs, CostsAtMost, OnlyReads}
use Rattle.bitvec_cells.specs.Cost.{edit_loads, touched_count, write_stores}
use Rattle.bitvec_cells.specs.CostLaws.{touched_read, touched_stored}

module _ {E C : Type 0} (access : Access C E) where
  -- none
  pub Costs-none : (a : C) → Costs access a a 0 0
  Costs-none a = record { borrow = refl; loads = omega arith; stores = omega arith }

  -- a load and a store more
  pub Costs-next : {a b c d : C} {m n : ℕ} → Costs access a b m n → access.borrow c ≡ access.borrow b → access.loads c ≡ access.loads b + 1 → access.stores c ≡ access.stores b
      → access.borrow d ≡ access.borrow c → access.loads d ≡ access.loads c → access.stores d ≡ access.stores c + 1 → Costs access a d (m + 1) (n + 1)
  Costs-next before borrow load none again same store = record { borrow = again ∙ borrow ∙ before.borrow; loads = omega arith; stores = omega arith }

  -- one behind the other
  pub Costs-sum : {a b c : C} {m n p q k l : ℕ} → Costs access a b m n → Costs access b c p q → k ≡ m + p → l ≡ n + q → Costs access a c k l
  Costs-sum first second loads stores = record { borrow = second.borrow ∙ first.borrow; loads = omega arith; stores = omega arith }

  -- an element that waits is loaded before, or stored behind
  pub Costs-around : {a b c d : C} {m k : ℕ} → access.borrow b ≡ access.borrow a → access.loads b ≡ access.loads a + 1 → access.stores b ≡ access.stores a → Costs access b c m m
      → access.borrow d ≡ access.borrow c → access.loads d ≡ access.loads c → access.stores d ≡ access.stores c + 1 → k ≡ 1 + m → Costs access a d k k
  Costs-around borrow load none cost again same store all = record { borrow = again ∙ cost.borrow ∙ borrow; loads = omega arith; stores = omega arith }

  pub Costs-waiting : {a b c d : C} {m n k : ℕ} → access.borrow b ≡ access.borrow a → access.loads b ≡ access.loads a + 1 → access.stores b ≡ access.stores a → Costs access b c (m - 1) (m - 1) → Costs access c d (n - 1) n
      → k ≡ m + (n - 1) → m ≡ 1 + (m - 1) → n ≡ 1 + (n - 1) → Costs access a d k k
  Costs-waiting borrow load none first second all some more = record { borrow = second.borrow ∙ first.borrow ∙ borrow; loads = omega arith; stores = omega arith }

  pub Costs-stored : {a b c : C} {m k : ℕ} → Costs access a b m m → access.borrow c ≡ access.borrow b → access.loads c ≡ access.loads b → access.stores c ≡ access.stores b + 1 → k - 1 ≡ m → k ≡ 1 + (k - 1) → Costs access a c (k - 1) k
  Costs-stored cost again same store all more = record { borrow = again ∙ cost.borrow; loads = omega arith; stores = omega arith }

  -- each element that n bits touch, or what may cost more
  pub Costs-touched : {a b : C} {w : ℕ} (s : ℕ) {n m : ℕ} → IsWidth w → m ≡ n → Costs access a b (touched_count w s n) (touched_count w s n) → CostsAtMost access a b (edit_loads w true m) (write_stores w true m)
  Costs-touched {w = w} s {n} width same cost =
      let some = width_some w width in
      let loads = touched_read w true s n some in
      let stores = touched_stored w true s n some in
      rw same (record { borrow = cost.borrow; loads = omega arith; stores = omega arith })

  -- words of eight bytes: what is loaded before the first one, each of them, and one more
  pub Costs-held : (a b c : C) → OnlyReads access a b 9 → access.borrow c ≡ access.borrow b → access.loads c ≡ access.loads b + 1 → access.stores c ≡ access.stores b → Costs access a c (0 * 8 + 10) (0 * 8)
  Costs-held a b c before borrow load none = record { borrow = borrow ∙ before.borrow; loads = omega arith; stores = omega arith }

  pub Costs-word : (a b c d : C) (step : ℕ) → Costs access a b (step * 8 + 10) (step * 8) → OnlyReads access b c 8 → Costs access c d 0 8 → Costs access a d ((step + 1) * 8 + 10) ((step + 1) * 8)
  Costs-word a b c d step before read stored = record { borrow = stored.borrow ∙ read.borrow ∙ before.borrow; loads = omega arith; stores = omega arith }

  -- bits at two edges, which are loaded first and stored last, and whole elements
  pub Costs-edges : {a b c d e f : C} {m n : ℕ} (k late : ℕ) {h j loads stores : ℕ} → OnlyReads access a b m → OnlyReads access b c n → CostsAtMost access c d (k + 1 + late) (k + late) → CostsAtMost access d e h h → h ≤ 1 → CostsAtMost access e f j j → j ≤ 1
      → m + n + (k + 1 + late) + 2 ≤ loads → k + late + h + j ≤ stores → CostsAtMost access a f loads stores
  Costs-edges k late front back whole head few tail last read written = record { borrow = tail.borrow ∙ head.borrow ∙ whole.borrow ∙ back.borrow ∙ front.borrow; loads = omega arith; stores = omega arith }
