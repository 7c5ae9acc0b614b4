use Rattle.bitvec.specs.Lists.{places_of}
use Rattle.bitvec.specs.Views.{seen}
use Rattle.sieve.proofs.TextLaws.{count-primes, list-primes}
use Rattle.sieve.proofs.print.print_form.Goals as goal

pub returns-in-Count : goal.returns-in-Count
returns-in-Count g c = rw c.in-Count.is (rw (← count-primes (seen c.args.bits).window.len) (rw c.requires.primes at c.print_count.ensures))

pub returns-in-Lines : goal.returns-in-Lines
unfolding places_of
returns-in-Lines g c = rw c.in-Lines.is (rw (← list-primes (seen c.args.bits).window.len) (rw c.requires.primes at c.print_list.ensures))

pub returns-in-Picture : goal.returns-in-Picture
returns-in-Picture g c = rw c.in-Picture.is (rw c.requires.primes at c.print_picture.ensures)
