use Rattle.std.proofs.Common.{◌∙◌, ap, replicate, false, ℕ, sym, rules, refl}
use Rattle.bitvec_base.specs.WritesLaws.{Writes-is, Writes-nothing, length-list}
use Rattle.bitvec_words.specs.CombinedLaws.{combined-and_zeros, combined-kept}
use Rattle.bitvec_combine.proofs.combining.combine_zeros.Goals as goal

pub returns-in-And-clause-writes : goal.returns-in-And-clause-writes
returns-in-And-clause-writes g c =
    rw c.in-And.is
    (Writes-is c.fill.ensures.writes
    (ap (λ (n : ℕ). replicate n false) (sym (length-list _ c.requires)) ∙ combined-and_zeros _))

pub returns-in-Or : goal.returns-in-Or
returns-in-Or g c = record {
  writes = Writes-is (Writes-nothing _ _ c.requires refl) (combined-kept c.args.op _ c.in-Or.is);
  cost = search rules;
}
