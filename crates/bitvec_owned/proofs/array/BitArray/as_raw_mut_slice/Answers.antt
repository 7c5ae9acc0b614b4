use Rattle.std.proofs.Common.{◌≡◌, ◌*◌, ◌≤◌, List, length, ℕ, refl, rules, subst, sym}
use Rattle.std.specs.Coded.{le_prop}
use Rattle.std.proofs.lemmas.List.{take_all}
use Rattle.bitvec_base.specs.Window.{max_bits}
use Rattle.bitvec_base.specs.declared.order.BitOrder.{Ghosts as Order}
use Rattle.bitvec_store.specs.declared.store.BitStore.{Ghosts as Store}
use Rattle.bitvec_owned.specs.ArrayLending.{with_elements}
use Rattle.bitvec_owned.specs.declared.array.BitArray.{BitArray}
use Rattle.bitvec_owned.proofs.array.BitArray.as_raw_mut_slice.Goals as goal

-- an array's fact has one proof
module _ {T O : Type 0} {N : ℕ} {t : Store T} {o : Order O} (a : BitArray T O N t o) (xs : List T) where
  same : (bounded : t.BITS * N ≤ max_bits) → ◌≡◌ {A = BitArray T O N t o} record { elements = xs; order = a.order; bounded = bounded } (with_elements a xs)
  same bounded = λ i. record { elements = xs; order = a.order; bounded = le_prop bounded a.bounded i }

pub returns : goal.returns
returns g c =
    let many : length c.as_mut_slice.result.now ≡ g.row.N = search rules in (
      (refl, λ w. same c.args.self.now w _),
      record {
        writes_back = tt;
        elements = search (rules, take_all);
        fits = subst (λ (n : ℕ). g.T.BitStore.BITS * n ≤ max_bits) (sym many) c.args.self.now.bounded;
      },
    )
