use Rattle.std.proofs.Common.{◌≡◌, ◌∙◌, ap, false, find, rules, slice_index_or, subst, unwrap_or}
use Rattle.bitvec.specs.Seen.{Seen}
use Rattle.bitvec.specs.Views.{seen}
use Rattle.bitvec.specs.SplitAsked.{upward}
use Rattle.bitvec.specs.SplitLaws.{first-piece}
use Rattle.bitvec.specs.SplitViews.{left_of}
use Rattle.bitvec_examples.proofs.first_piece.before_one.Goals as goal

pub returns-in-Some : goal.returns-in-Some
returns-in-Some g c =
    let first = first-piece g.T.BitStore.BITS (left_of c.split.result) (left_of c.next.new.self) (seen c.in-Some.piece) _ (λ i bit. bit) (λ index bit answer next asks. search rules) c.in-Some.ensures.steps in
    c.len.ensures.window
    ∙ subst (λ (v : Seen g.row.T.Denot). (seen c.in-Some.piece).window.len ≡ unwrap_or (find (λ i. slice_index_or v.bits i false) (upward v.window.len)) v.window.len)
    (ap (λ l. l.rest) c.split.ensures) first
