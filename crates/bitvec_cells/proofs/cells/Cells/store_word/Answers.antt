use Rattle.std.proofs.Common.{◌≡◌, ℕ, ◌+◌, ◌^◌, ◌<◌, List, [], ◌∷◌, length, slice_set, arith, ap, sym, ◌∙◌, add-one, refl}
use Rattle.std.specs.Simd.Lanes.{digits_l}
use Rattle.std.proofs.lemmas.Nat.{and_mask}
use Rattle.bitvec_base.specs.Window.{write_at}
use Rattle.bitvec_base.specs.WriteLaws.{length-write_at, set-is_write, write_at-next, write_at-nil}
use Rattle.bitvec_store.specs.DigitLaws.{digits-more, length-digits}
use Rattle.bitvec_cells.proofs.cells.Cells.store_word.Goals as goal

pub loop-step-init : goal.loop-step-init
loop-step-init g c =
    record {
      numbers = sym (write_at-nil (g.Self.CellsRead.numbers c.args.self.now) c.args.first (omega arith));
      borrow = refl;
      loads = refl;
      stores = omega arith;
    }

-- the numbers are as many as before
written : (b n word first : ℕ) (xs : List ℕ) → first + n < length xs → length (write_at xs first (digits_l (2 ^ b) n word)) ≡ length xs
written b n word first xs inside = let long = length-digits (2 ^ b) n word in length-write_at xs first (digits_l (2 ^ b) n word) (omega arith)

pub store-requires : goal.store-requires
store-requires g c =
    let xs = g.Self.CellsRead.numbers c.args.self.now in
    let inside : c.args.first + c.loop-step.step < length xs = omega arith in
    rw (c.loop-step.invariant.numbers, written g.Self.Elem.BitStore.BITS c.loop-step.step c.args.word c.args.first xs inside) inside

pub loop-step-preserved : goal.loop-step-preserved
loop-step-preserved g c =
    let b = g.Self.Elem.BitStore.BITS in
    let step = c.loop-step.step in
    let xs = g.Self.CellsRead.numbers c.args.self.now in
    let inside : c.args.first + step < length xs = omega arith in
    let ds = digits_l (2 ^ b) step c.args.word in
    let long = length-digits (2 ^ b) step c.args.word in
    let all = written b step c.args.word c.args.first xs inside in
    let digit = rw (c.bits_before.ensures.value, c.to_u128.ensures.number, c.ALL.ensures, g.met.Self.Elem.BitStore.all_law, and_mask) at c.from_u128.ensures in
    let y = g.Self.Elem.BitStore.value c.from_u128.result in
    record {
      numbers =
          c.store.ensures.numbers
          ∙ ap (λ (l : List ℕ). slice_set l (c.args.first + step) y) c.loop-step.invariant.numbers
          ∙ set-is_write (write_at xs c.args.first ds) (c.args.first + step) y (omega arith)
          ∙ ap (λ (n : ℕ). write_at (write_at xs c.args.first ds) (c.args.first + n) (y ∷ [])) (sym long)
          ∙ write_at-next xs c.args.first ds (y ∷ []) (omega arith)
          ∙ ap (write_at xs c.args.first) (rw (digit, add-one) (sym (digits-more b step c.args.word)));
      borrow = c.store.ensures.borrow ∙ c.loop-step.invariant.borrow;
      loads = c.store.ensures.loads ∙ c.loop-step.invariant.loads;
      stores = omega arith;
    }
