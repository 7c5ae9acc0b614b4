use Rattle.std.specs.Prelude.{◌≡◌, ℕ, ◌+◌, ◌-◌, min, refl}
use Rattle.std.proofs.Common.{◌∙◌, ap}
use Rattle.bitvec_iter.specs.BitsLending.{same-at}
use Rattle.bitvec_iter.proofs.lent_bits.IterMut.pass.Goals as goal

pub returns-clause-whole : goal.returns-clause-whole
returns-clause-whole g c =
    let p = c.args.self.now in
    let count : c.min.result ≡ min c.args.count (p.back - p.front) = c.min.ensures ∙ ap (λ (n : ℕ). min c.args.count n) c.len.ensures in
    same-at p (ap (λ (n : ℕ). p.front + n) count) (refl)
