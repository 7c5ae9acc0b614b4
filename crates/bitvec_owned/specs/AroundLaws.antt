-- What stands around the bits of a sequence through several calls.
use Rattle.std.specs.Prelude.{◌≡◌, ℕ, Bool, List, take}
use Rattle.std.proofs.Common.{◌∙◌, ap, subst, sym}
use Rattle.bitvec_base.specs.declared.order.BitOrder.{Ghosts as Order}
use Rattle.bitvec_base.specs.declared.window.Window.{Window}
use Rattle.bitvec_slice.specs.Seen.{Seen, outside_of}
use Rattle.bitvec_store.specs.declared.store.BitStore.{Ghosts as Store}
use Rattle.bitvec_owned.specs.Copies.{Holds, KeepsAround}
use Rattle.bitvec_owned.specs.Owned.{owned}
use Rattle.bitvec_owned.specs.Writes.{WritesOwned}
use Rattle.bitvec_owned.specs.declared.bit_vec.BitVec.{BitVec}

module _ {T : Type 0} (b : ℕ) where
  -- a sequence that holds a list anywhere holds its bits where it begins, and the other way round
  module _ (sequence : Seen T) (list : List Bool) (from : ℕ) where
    -- A sequence that holds a list holds its own bits from where it begins.
    pub holds-own : Holds b list from sequence → Holds b sequence.bits sequence.window.start sequence
    holds-own held =
        subst (λ (l : List Bool). Holds b l sequence.window.start sequence) (sym held.bits)
        (subst (λ (n : ℕ). Holds b list n sequence) (sym held.start) held)

    -- A sequence that holds its own bits, which are the list, from where it begins, holds the list from there.
    pub own-holds : sequence.bits ≡ list → sequence.window.start ≡ from → Holds b sequence.bits sequence.window.start sequence → Holds b list from sequence
    own-holds bits start held =
        subst (λ (l : List Bool). Holds b l from sequence) bits
        (subst (λ (n : ℕ). Holds b sequence.bits n sequence) start held)

  -- What stands around the bits stays through two calls where it stays through each.
  pub around-then : (first second last : Seen T) → KeepsAround b first second → KeepsAround b second last → KeepsAround b first last
  around-then first second last one two = record {
    start = two.start ∙ one.start;
    front = subst (λ (n : ℕ). take n last.memory ≡ take n second.memory) one.start two.front ∙ one.front;
    zeros = λ was. two.zeros (one.zeros was);
  }

  -- A sequence that held a list, and whose surroundings stay, holds its new bits.
  pub holds-then : (before after : Seen T) (list new : List Bool) (from : ℕ) → Holds b list from before → KeepsAround b before after → after.bits ≡ new → Holds b new from after
  holds-then before after list new from held around is =
      own-holds after new from is (around.start ∙ held.start) (around.zeros (holds-own before list from held))

-- An edit of an owned sequence keeps what stands around its bits.
pub around-written : {T O A : Type 0} {t : Store T} {o : Order O} (before after : BitVec T O A t o) (new : List Bool) → WritesOwned before after new → KeepsAround t.BITS (owned before) (owned after)
unfolding outside_of
around-written {t = t} before after new wrote =
    let start = ap (λ (w : Window). w.start) wrote.window in
    record {
      start = start;
      front = ap (λ (n : ℕ). take n (owned after).memory) (sym start) ∙ ap (λ (p : List Bool × List Bool). p.0) wrote.outside;
      zeros = λ was. holds-own t.BITS (owned after) new (owned before).window.start (wrote.holds (owned before).bits (owned before).window.start was);
    }
