use Rattle.std.specs.Prelude.{refl}
use Rattle.bitvec_words.specs.Exchanged.{exchanged_bits}
use Rattle.bitvec_words.proofs.element.exchanged.Goals as goal

pub returns : goal.returns
unfolding exchanged_bits
returns g c = rw (c.or.ensures, c.and-moved_down.ensures, c.shr.ensures, c.shl-moved_up.ensures, c.and.ensures) refl
