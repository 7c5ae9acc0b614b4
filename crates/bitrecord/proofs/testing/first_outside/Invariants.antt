use Rattle.bitvec.specs.Window.{IsWithin}
use Rattle.bitrecord.specs.Layouts.{EachBefore}
use Rattle.bitrecord.proofs.testing.first_outside.Given as goal

abbrev pub invariant-loop-number : goal.invariant-loop-number
invariant-loop-number l = EachBefore (λ field. IsWithin field l.bits) l.fields l.number
