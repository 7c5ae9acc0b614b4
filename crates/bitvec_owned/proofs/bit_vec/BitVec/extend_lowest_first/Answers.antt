use Rattle.std.proofs.Common.{◌∙◌, ◌++◌, Bool, List, ap, if◌then◌else◌, is_ok}
use Rattle.bitvec_owned.proofs.Added.{lowest-shown}
use Rattle.bitvec_owned.specs.Owned.{owned}
use Rattle.bitvec_owned.proofs.bit_vec.BitVec.extend_lowest_first.Goals as goal

pub returns-clause-bits : goal.returns-clause-bits
returns-clause-bits g c =
    let old = (owned c.args.self.now).bits in
    c.extend_from_bitslice.ensures.bits
    ∙ ap (λ (l : List Bool). if is_ok c.extend_from_bitslice.result then old ++ l else old) (ap (λ s. s.bits) c.from_parts.ensures ∙ lowest-shown c.args.number c.args.len c.requires)
