use Rattle.std.proofs.Common.{◌≡◌, arith, length, lit<, rules, true}
use Rattle.bitvec.specs.Arrays.{msb0_bits}
use Rattle.bitvec.specs.BytesLaws.{msb0-same}
use Rattle.bitvec.specs.Laws.{bytes}
use Rattle.bitvec.specs.Width.{FitWidth}
use Rattle.bitvec.specs.WindowsLaws.{windows-determine}
use Rattle.bitvec_code_examples.proofs.bytes.have_same_digits.Goals as goal

pub returns : goal.returns
returns c = λ all.
    let left = c.args.left.now in
    let right = c.args.right.now in
    let fit : FitWidth 8 left = search rules in
    let also : FitWidth 8 right = search rules in
    let long : length (msb0_bits 8 left) ≡ 24 = grind (arith, bytes) in
    let other : length (msb0_bits 8 right) ≡ 24 = grind (arith, bytes) in
    msb0-same 8 left right (lit< tt) fit also
    (windows-determine true 8 6 4 (msb0_bits 8 left) (msb0_bits 8 right) (lit< tt) long other (λ k below. c.loop-place.invariant k (omega arith)))
