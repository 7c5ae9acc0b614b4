use Rattle.std.proofs.Common.{◌∙◌, ◌++◌, Bool, List, ap}
use Rattle.bitvec_owned.proofs.Added.{granted, last-shown}
use Rattle.bitvec_owned.specs.Owned.{owned}
use Rattle.bitvec_owned.proofs.bit_vec.BitVec.extend_from_word.Goals as goal

pub returns-clause-bits : goal.returns-clause-bits
returns-clause-bits g c =
    let added = c.extend_from_bitslice.ensures in
    granted c.extend_from_bitslice.result _ _ _ _ _ c.requires.room (rw (ap (λ s. s.window.len) c.from_parts.ensures) at added.full) added.bits
    ∙ ap (λ (l : List Bool). (owned c.args.self.now).bits ++ l) (ap (λ s. s.bits) c.from_parts.ensures ∙ last-shown (λ b i. i) c.args.word c.args.len c.requires.bound)
