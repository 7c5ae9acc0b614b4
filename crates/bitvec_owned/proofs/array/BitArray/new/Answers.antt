use Rattle.std.proofs.Common.{◌≡◌, ◌∙◌, ap, map, refl, rules, sym, take}
use Rattle.std.proofs.lemmas.List.{take_all}
use Rattle.bitvec_base.specs.Memory.{memory_bits}
use Rattle.bitvec_slice.specs.SeenLaws.{covered_bits}
use Rattle.bitvec_owned.proofs.array.BitArray.new.Goals as goal

pub returns-clause-bits : goal.returns-clause-bits
returns-clause-bits g c =
    let all : take g.row.N c.args.elements ≡ c.args.elements = search (rules, take_all) in
    sym (covered_bits g.T.BitStore.BITS g.O.BitOrder.at g.T.BitStore.value (take g.row.N c.args.elements) 0 _ (record { start = refl; len = refl }))
    ∙ ap (λ xs. memory_bits g.T.BitStore.BITS g.O.BitOrder.at (map g.T.BitStore.value xs)) all
