-- The bits of two lists index by index, the second with zeros past its end.
use Rattle.std.specs.Prelude.{ℕ, ◌==◌, Bool, not, ◌&&◌, List, count_by}
use Rattle.bitvec_base.specs.Lists.{combined, differs}
use Rattle.bitvec_checked.specs.declared.pairs.Pair.{Pair}
use Rattle.bitvec_checked.specs.declared.pairs.Pair.TheVariants.{Both, Differing, First}

-- a 1 beside a 0
abbrev pub only_first : Bool → Bool → Bool
only_first bit other = bit && not other

-- at how many indices of the first list f makes a 1 of its bit and the other one, and whether it does at none
abbrev pub pairs_where : (Bool → Bool → Bool) → List Bool → List Bool → ℕ
pairs_where f list other = count_by (λ bit. bit) (combined f list other)

abbrev pub no_pair_where : (Bool → Bool → Bool) → List Bool → List Bool → Bool
no_pair_where f list other = pairs_where f list other == 0

-- what is looked for
abbrev pub looks_for : Pair → Bool → Bool → Bool
looks_for Both bit other = bit && other
looks_for Differing bit other = differs bit other
looks_for First bit other = only_first bit other
