use Rattle.std.proofs.Common.{arith, refl}
use Rattle.bitvec_store.specs.WidthLaws.{width_some}
use Rattle.bitvec_words.proofs.SplitLemmas.{head-part, head-split, head-within, head-touched}
use Rattle.bitvec_words.proofs.split.split_head.Goals as goal

pub len-requires : goal.len-requires
len-requires g c =
    let part = head-part _ c.args.window (width_some _ g.met.T.BitStore.width_law) c.requires.some in
    rw c.first_part-head.ensures (omega arith)

pub after-requires : goal.after-requires
after-requires g c = record {
  bound = rw (c.len.ensures, c.first_part-head.ensures) (head-within _ c.args.window (width_some _ g.met.T.BitStore.width_law) c.requires.some);
  end = c.requires.end;
}

pub returns : goal.returns
returns g c =
    let some = width_some _ g.met.T.BitStore.width_law in
    rw (c.after.ensures, c.len.ensures, c.first_part-head.ensures)
    (record { split = head-split _ c.args.window some c.requires.some; touched = head-touched _ c.args.window some c.requires.some; part = head-part _ c.args.window some c.requires.some; is_first = refl; is_behind = refl })
