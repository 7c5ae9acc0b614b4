use Rattle.std.proofs.Common.{ℕ, ◌≡◌, ◌*◌, ◌<◌, ◌≤◌, arith, refl}
use Rattle.std.proofs.lemmas.Bool.Decides.{nat_tests}
use Rattle.bitvec_words.specs.Moves.{late_words}
use Rattle.bitvec_words.specs.MovedPlaceLaws.{from-inside, from-word}
use Rattle.bitvec_move.proofs.moving.move_elements.Goals as goal

-- many bytes, but not very many, may load and store nine elements more
late : (b n : ℕ) → b ≡ 8 → 80 ≤ n → n < 512 → late_words b 0 (n * b) ≡ 9
unfolding late_words
late b n is many some = rw is (grind (arith, nat_tests))

pub returns-then-goes_by_words-clause-cost : goal.returns-then-goes_by_words-clause-cost
returns-then-goes_by_words-clause-cost g c =
    let cost = c.shift_words.ensures.cost in
    let more = late g.C.Elem.BitStore.BITS c.args.moved.count (omega arith) (omega arith) (omega arith) in
    rw more (record { borrow = cost.borrow; loads = omega (arith, cost.loads); stores = omega (arith, cost.stores) })

pub overflow_add-source : goal.overflow_add-source
overflow_add-source g c =
    let some : 0 < c.args.moved.skip = omega arith in
    record { fits = from-word _ _ _ _ g.met.C.Elem.BitStore.width_law c.requires.span.beside some c.read_place.ensures.fits }

pub load-waiting-requires : goal.load-waiting-requires
load-waiting-requires g c =
    let some : 0 < c.args.moved.skip = omega arith in
    from-inside _ _ _ _ _ c.requires.span.beside some c.read_place.ensures.fits refl
