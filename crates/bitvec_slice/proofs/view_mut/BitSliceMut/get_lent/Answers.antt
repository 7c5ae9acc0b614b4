use Rattle.std.proofs.Common.{◌≡◌, ℕ, ◌+◌, true, false, refl, sym, ◌∙◌, ap, rules, subst}
use Rattle.std.specs.declared.ops.Range.{Range}
use Rattle.bitvec_domain.specs.Refill.{with_range}
use Rattle.bitvec_slice.specs.Lending.{with_elements}
use Rattle.bitvec_slice.specs.LentLaws.{lends-none, lends-some}
use Rattle.bitvec_slice.specs.MayLend.{piece_of}
use Rattle.bitvec_slice.specs.Seen.{IsRangeOf}
use Rattle.bitvec_slice.specs.Touched.{end_touched, first_touched}
use Rattle.bitvec_slice.specs.Views.{seen_mut}
use Rattle.bitvec_slice.proofs.view_mut.BitSliceMut.get_lent.Goals as goal

pub returns-then-lies_in : goal.returns-then-lies_in
returns-then-lies_in g c =
    let v = c.args.self.now in
    let len = c.len-len.ensures.window in
    let has : g.I.LentIndex.lies c.args.index v.len ≡ true = ap (λ (n : ℕ). g.I.LentIndex.lies c.args.index n) (sym len) ∙ sym c.lies_in.ensures ∙ c.if-lies_in.true in
    let range : c.bits_in.result ≡ g.I.LentIndex.range c.args.index v.len = c.bits_in.ensures.value ∙ ap (λ (n : ℕ). g.I.LentIndex.range c.args.index n) len in (
      (
        refl,
        λ w. lends-some (λ start end. with_elements v (with_range v.elements.now start end w)) _ _ _ _ _ has
            (ap (λ (r : Range ℕ). first_touched g.T.BitStore.BITS (v.head + r.start)) range) (ap (λ (r : Range ℕ). end_touched g.T.BitStore.BITS (v.head + r.end)) range),
      ),
      record {
        writes_back = tt;
        lent = c.lent_part.ensures.lent ∙ sym has;
        part = λ _. subst (λ (r : Range ℕ). IsRangeOf g.T.BitStore.BITS (seen_mut v) r.start r.end (seen_mut (piece_of c.lent_part.result))) range c.lent_part.ensures.part;
      },
    )

pub returns : goal.returns
returns g c =
    let v = c.args.self.now in
    let has : g.I.LentIndex.lies c.args.index v.len ≡ false = ap (λ (n : ℕ). g.I.LentIndex.lies c.args.index n) (sym c.len-len.ensures.window) ∙ sym c.lies_in.ensures ∙ c.if-lies_in.false in (
      (refl, λ w. lends-none (λ start end. with_elements v (with_range v.elements.now start end w)) _ _ _ has),
      record { writes_back = tt; lent = c.lent_none.ensures.lent ∙ sym has; part = search rules },
    )
