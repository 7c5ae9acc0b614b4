use Rattle.std.proofs.Common.{◌≡◌, ◌+◌, arith, sym}
use Rattle.bitvec_base.specs.MemoryLaws.{length-element_bits}
use Rattle.bitvec_base.specs.PartLaws.{element-none, length-part}
use Rattle.bitvec_combine.specs.ActLaws.{padded-part}
use Rattle.bitvec_words.specs.WordLaws.{padded-all}
use Rattle.bitvec_combine.proofs.acting_on_windows.with_zeros.Goals as goal

pub returns-then-len : goal.returns-then-len
returns-then-len g c =
    let all : c.args.part.from + c.args.len ≡ c.args.part.to = omega arith in
    rw all (sym (padded-all (length-part _ _ _ _ _ c.requires.inside)))

pub returns : goal.returns
returns g c =
    rw (c.merged.ensures, c.ZERO.ensures, g.met.T.BitStore.zero_law, element-none g.T.BitStore.BITS g.O.BitOrder.at)
    (padded-part _ _ c.requires.inside c.requires.bound (length-element_bits _ _ _))
