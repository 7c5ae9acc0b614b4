-- What one call costs, and two calls together, one after the other.
use Rattle.std.specs.Prelude.{◌≡◌, ℕ, ◌+◌, ◌≤◌, refl}
use Rattle.std.proofs.Common.{arith, ◌∙◌}
use Rattle.bitvec_cells.specs.Access.{Costs, CostsAtMost, OnlyReads, OnlyReadsAtMost}
use Rattle.bitvec_cells.specs.declared.cells.CellsRead.{Ghosts as Access}

module _ {E C : Type 0} {access : Access C E} {old : C} where
  -- ---- loads alone

  pub reads-most : {new : C} {m n : ℕ} → OnlyReadsAtMost access old new m → m ≤ n → OnlyReadsAtMost access old new n
  reads-most reads few =
      let loads = reads.loads in
      record { numbers = reads.numbers; borrow = reads.borrow; loads = omega arith; stores = reads.stores }

  pub reads-exact : {new : C} {m : ℕ} → OnlyReads access old new m → OnlyReadsAtMost access old new m
  reads-exact reads =
      let loads = reads.loads in
      record { numbers = reads.numbers; borrow = reads.borrow; loads = omega arith; stores = reads.stores }

  pub reads-within : {new : C} {m n : ℕ} → OnlyReads access old new m → m ≤ n → OnlyReadsAtMost access old new n
  reads-within reads few = reads-most (reads-exact reads) few

  pub reads-is : {new : C} {m n : ℕ} → OnlyReads access old new m → n ≡ m → OnlyReads access old new n
  reads-is reads same =
      let loads = reads.loads in
      record { numbers = reads.numbers; borrow = reads.borrow; loads = omega arith; stores = reads.stores }

  pub reads-sum : {mid new : C} {m n all : ℕ} → OnlyReads access old mid m → OnlyReads access mid new n → all ≡ m + n → OnlyReads access old new all
  reads-sum first second sum =
      let loads = first.loads in
      record { numbers = second.numbers ∙ first.numbers; borrow = second.borrow ∙ first.borrow; loads = omega arith; stores = second.stores ∙ first.stores }

  pub reads-before : {mid new : C} {m n all : ℕ} → OnlyReads access old mid m → OnlyReads access mid new n → m + n ≤ all → OnlyReadsAtMost access old new all
  reads-before first second few = reads-most (reads-exact (reads-sum first second refl)) few

  pub reads-both : {mid new : C} {m n all : ℕ} → OnlyReadsAtMost access old mid m → OnlyReadsAtMost access mid new n → m + n ≤ all → OnlyReadsAtMost access old new all
  reads-both first second few =
      let loads = first.loads in
      record { numbers = second.numbers ∙ first.numbers; borrow = second.borrow ∙ first.borrow; loads = omega arith; stores = second.stores ∙ first.stores }

  -- ---- loads and stores

  pub costs-within : {new : C} {l s m n : ℕ} → Costs access old new l s → l ≤ m → s ≤ n → CostsAtMost access old new m n
  costs-within cost few stored =
      let loads = cost.loads in
      let stores = cost.stores in
      record { borrow = cost.borrow; loads = omega arith; stores = omega arith }

  pub costs-most : {new : C} {l s m n : ℕ} → CostsAtMost access old new l s → l ≤ m → s ≤ n → CostsAtMost access old new m n
  costs-most cost few stored =
      let loads = cost.loads in
      let stores = cost.stores in
      record { borrow = cost.borrow; loads = omega arith; stores = omega arith }

  pub costs-sum : {mid new : C} {l s k t m n : ℕ} → Costs access old mid l s → Costs access mid new k t → m ≡ l + k → n ≡ s + t → Costs access old new m n
  costs-sum first second loaded stored =
      let loads = first.loads in
      let stores = first.stores in
      record { borrow = second.borrow ∙ first.borrow; loads = omega arith; stores = omega arith }

  pub costs-both : {mid new : C} {l s k t m n : ℕ} → Costs access old mid l s → CostsAtMost access mid new k t → l + k ≤ m → s + t ≤ n → CostsAtMost access old new m n
  costs-both first second loaded stored =
      let loads = first.loads in
      let stores = first.stores in
      record { borrow = second.borrow ∙ first.borrow; loads = omega arith; stores = omega arith }
