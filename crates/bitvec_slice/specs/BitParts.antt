-- The parts of a bit domain that a walk has still to give.
use Rattle.std.specs.Prelude.{List, [], ◌∷◌, ◌++◌, Option, None, Some}
use Rattle.std.specs.Iterator.{YieldsFirst, YieldsLast}
use Rattle.std.specs.Iterator.Runs.{EveryRun, ItemsAre, ItemsAreReversed}
use Rattle.bitvec_slice.specs.declared.bit_parts.BitDomainParts.{BitDomainParts}

module _ {V : Type 0} where
  -- The part as a list of one, and no part where there is none.
  abbrev pub part_if : Option V → List V
  part_if None = []
  part_if (Some part) = part ∷ []

  -- The parts of a bit domain that a walk has still to give.
  abbrev pub parts_left : BitDomainParts V → List V
  parts_left it = part_if it.head ++ (part_if it.body ++ part_if it.tail)

  -- what calls of `next`, or of `next_back`, give of such a walk is what is still to come, in its order, or from its end
  pub record YieldsParts (it : BitDomainParts V) : Type 0 where
    pub front : EveryRun (YieldsFirst parts_left) (λ p. ItemsAre p (parts_left p.from))
    pub back : EveryRun (YieldsLast parts_left) (λ p. ItemsAreReversed p (parts_left p.from))
