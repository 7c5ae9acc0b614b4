use Rattle.std.proofs.Common.{◌≡◌, ℕ, List, map, Some, true}
use Rattle.bitdo_work.specs.Elements.{element_of, read_each}
use Rattle.bitdo_work.proofs.elements.parse_elements.Given as goal

-- the words so far are these numbers, and the elements have them where there was room for all
abbrev pub invariant-loop-word : goal.invariant-loop-word
invariant-loop-word g l =
    (numbers : List ℕ) × (read_each (element_of g.T.BitStore.BITS) (map (λ word. word.now) l.yielded) ≡ Some numbers)
    × (l.has_room ≡ true → map g.T.BitStore.value l.elements.items ≡ numbers)
