-- A walk is what its fields that aren't facts are.
use Rattle.std.specs.Prelude.{◌≡◌, Bool, List}
use Rattle.std.specs.Coded.{coded_bool}
use Rattle.std.proofs.Math.Bridge.{le_prop}
use native.Mathlib.Nat.{ℕ_set}
use mathlib.Core.HLevel.{×_prop}
use denote.Struct.Props.{≡_prop}
use Rattle.bitvec_store.specs.declared.store.BitStore.{Ghosts as Store}
use Rattle.bitvec_base.specs.declared.order.BitOrder.{Ghosts as Order}
use Rattle.bitvec_slice.specs.Views.{seen}
use Rattle.bitvec_places.specs.declared.rest.Rest.{Rest}
use Rattle.bitvec_places.specs.Places.{IsRestOf}
use Rattle.bitvec_places.proofs.PlacesLaws.{IsRestOf-prop}
use Rattle.bitvec_places.specs.Kept.{Keeps}
use Rattle.bitvec_places.specs.declared.kept.Kept.{Kept}
use Rattle.bitvec_query.specs.declared.places.Places.{Places}
use Rattle.bitvec_query.specs.declared.wanted.Wanted.{Ghosts as Bits}

Keeps-prop : (want : Bool) (list : List Bool) (rest : Rest) (kept : Kept) → IsProp (Keeps want list rest kept)
Keeps-prop want list rest kept x y = λ i. record {
  order = le_prop x.order y.order i;
  width = le_prop x.width y.width i;
  has = λ k low high below bit. ×_prop le_prop (ℕ_set _ _) (x.has k low high below bit) (y.has k low high below bit) i;
  inside = λ k below set. let a = x.inside k below set in let b = y.inside k below set in (le_prop a.0 b.0 i, le_prop a.1 b.1 i, le_prop a.2 b.2 i);
  bit = λ k below set. ≡_prop coded_bool _ _ (x.bit k below set) (y.bit k below set) i;
}

module _ {T O W : Type 0} {t : Store T} {o : Order O} {w : Bits W} where
  pub same-walk : (walk : Places T O W t o w) (inside : IsRestOf walk.rest (seen walk.view).window.len) (keeps : Keeps w.BIT (seen walk.view).bits walk.rest walk.kept) → record walk { inside = inside; keeps = keeps } ≡ walk
  same-walk walk inside keeps = λ i. record walk {
    inside = IsRestOf-prop _ _ inside walk.inside i;
    keeps = Keeps-prop _ _ _ _ keeps walk.keeps i;
  }
