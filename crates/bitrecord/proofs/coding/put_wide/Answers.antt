use Rattle.std.proofs.Common.{◌+◌, ◌-◌, ◌/◌, ◌%◌, ◌^◌, arith, refl, sym, ◌∙◌}
use Rattle.std.proofs.lemmas.Bool.{cond-false, cond-true}
use Rattle.std.proofs.lemmas.Nat.{and_mask, div-add-mod'}
use Rattle.bitrecord.proofs.Exponents.{above-fits}
use Rattle.bitrecord.proofs.Puts.{both-written}
use Rattle.bitrecord.proofs.coding.put_wide.Goals as goal

pub put_word-requires-clause-fits : goal.put_word-requires-clause-fits
put_word-requires-clause-fits g c = above-fits c.args.value c.args.field.len c.requires.wide c.requires.fits

pub put_word-requires-else-HIGH-2-clause-fits : goal.put_word-requires-else-HIGH-2-clause-fits
put_word-requires-else-HIGH-2-clause-fits g c = above-fits c.args.value c.args.field.len c.requires.wide c.requires.fits

pub returns-then-HIGH : goal.returns-then-HIGH
returns-then-HIGH g c =
    let wide = c.requires.wide in
    both-written g.O.WordOrder.HIGH c.args.out.now c.put_word.new.out c.put_word-then-HIGH.new.out c.args.endian (record { start = c.args.field.start; len = c.args.field.len - 64 })
    (record { start = c.args.field.start + (c.args.field.len - 64); len = 64 }) c.args.field (c.args.value / 2 ^ 64) (c.args.value % 2 ^ 64) c.args.value c.requires.seamless c.requires.inside refl refl (omega arith)
    (sym (div-add-mod' c.args.value (2 ^ 64)) ∙ sym (cond-true _ _ _ (sym c.HIGH.ensures ∙ c.if-HIGH.true))) c.put_word.ensures (rw (c.from.ensures, and_mask c.args.value 64) at c.put_word-then-HIGH.ensures)

pub returns-else-HIGH : goal.returns-else-HIGH
returns-else-HIGH g c =
    let wide = c.requires.wide in
    both-written g.O.WordOrder.HIGH c.args.out.now c.put_word-else-HIGH.new.out c.put_word-else-HIGH-2.new.out c.args.endian (record { start = c.args.field.start; len = 64 })
    (record { start = c.args.field.start + 64; len = c.args.field.len - 64 }) c.args.field (c.args.value % 2 ^ 64) (c.args.value / 2 ^ 64) c.args.value c.requires.seamless c.requires.inside refl refl (omega arith)
    (sym (div-add-mod' c.args.value (2 ^ 64)) ∙ sym (cond-false _ _ _ (sym c.HIGH.ensures ∙ c.if-HIGH.false))) (rw (c.from.ensures, and_mask c.args.value 64) at c.put_word-else-HIGH.ensures) c.put_word-else-HIGH-2.ensures
