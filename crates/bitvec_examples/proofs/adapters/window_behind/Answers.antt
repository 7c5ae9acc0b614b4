use Rattle.std.specs.Prelude.{◌≡◌, ◌+◌, ◌-◌, ◌%◌, min}
use Rattle.std.proofs.Common.{◌∙◌, ap, arith}
use Rattle.bitvec.specs.Types.{Window}
use Rattle.bitvec.specs.NthLaws.{nth_leaves}
use Rattle.bitvec.specs.Views.{seen}
use Rattle.bitvec.specs.BitWalks.{index_range}
use Rattle.bitvec_examples.proofs.adapters.window_behind.Goals as goal

pub returns : goal.returns
returns g c =
    let walk = c.iter-walk.ensures.walk in
    let step = nth_leaves c.args.skipped c.nth-bit.result c.iter-walk.result c.nth-bit.new.self c.nth-bit.ensures.ran in
    let begins = step.start in
    let ends = step.end in
    let from = walk.start in
    let to = walk.end in
    let view = step.view ∙ walk.view in
    let starts : (index_range c.nth-bit.new.self).start ≡ min (c.args.skipped + 1) (seen c.args.bits).window.len = omega arith in
    let told = c.as_bitslice.ensures.part in
    let len = told.len in
    let window = ap (λ (w : Window). w.len) c.window.ensures.value in
    record {
      start = ap (λ (w : Window). w.start) c.window.ensures.value ∙ told.start
          ∙ (λ i. ((view i).window.start + starts i) % g.T.BitStore.BITS);
      len = omega arith;
    }
