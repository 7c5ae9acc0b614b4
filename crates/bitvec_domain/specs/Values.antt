-- The values of the elements that a view touches, by their numbers.
use Rattle.std.specs.Prelude.{ℕ, List, [], ◌∷◌, ◌++◌, Option, None, Some, bit_and, map}
use Rattle.std.specs.Iterator.{YieldsFirstBy, YieldsLastBy}
use Rattle.std.specs.Iterator.Runs.{EveryRun, ItemsMapTo, ItemsMapToReversed}
use Rattle.bitvec_base.specs.Order.{mask_of}
use Rattle.bitvec_store.specs.declared.store.BitStore.{Ghosts as Store}
use Rattle.bitvec_base.specs.declared.order.BitOrder.{Ghosts as Order}
use Rattle.bitvec_domain.specs.Domains.{DomainPieces, seen_part_if}
use Rattle.bitvec_domain.specs.Domains.DomainPieces.{enclave, region}
use Rattle.bitvec_domain.specs.Parts.{SeenPart}
use Rattle.bitvec_domain.specs.declared.values.DomainValues.{DomainValues}

module _ {T : Type 0} (b : ℕ) (at : ℕ → ℕ → ℕ) (value : T → ℕ) where
  -- The number of a part's element with 0 at each bit outside the part, if there is a part.
  abbrev pub numbers_if : Option SeenPart → List ℕ
  numbers_if None = []
  numbers_if (Some part) = bit_and part.number (mask_of (at b) part.head part.tail) ∷ []

  -- The numbers of all pieces' elements, one piece after the other.
  abbrev pub numbers_of_pieces : DomainPieces T → List ℕ
  numbers_of_pieces (enclave part) = numbers_if (Some part)
  numbers_of_pieces (region head body tail) = numbers_if head ++ (map value body ++ numbers_if tail)

module _ {T O : Type 0} {t : Store T} {o : Order O} where
  -- The numbers of the elements that a walk over a domain's values has still to give.
  abbrev pub values_left : DomainValues T O t o → List ℕ
  values_left it = numbers_of_pieces t.BITS o.at t.value (region (seen_part_if it.head) it.body.now (seen_part_if it.tail))

  -- what calls of `next`, or of `next_back`, give of such a walk is what is still to come, in its order, or from its end
  pub record YieldsValues (it : DomainValues T O t o) : Type 0 where
    pub front : EveryRun (YieldsFirstBy t.value values_left) (λ p. ItemsMapTo p t.value (values_left p.from))
    pub back : EveryRun (YieldsLastBy t.value values_left) (λ p. ItemsMapToReversed p t.value (values_left p.from))
