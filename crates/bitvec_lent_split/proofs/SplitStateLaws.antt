-- A step of a split is one of the same view, however that was found.
use Rattle.std.specs.Prelude.{◌≡◌, ℕ, ◌+◌, ◌-◌, ◌≤◌, ◌==◌, ◌&&◌, min, Bool, true, false, Option}
use Rattle.std.specs.Borrow.{Bor}
use Rattle.std.specs.Fn.{Mut}
use Rattle.std.specs.declared.ops.Range.{Range}
use Rattle.std.proofs.Common.{arith, subst, sym, ap, refl, ◌∙◌}
use Rattle.std.proofs.lemmas.Bool.Decides.{nat_tests}
use Rattle.bitvec_slice.specs.Seen.{Seen}
use Rattle.bitvec_lent_split.specs.SplitStates.{left_on, limited_on}
use Rattle.bitvec_split.specs.Splits.{IsCutBy, LieBeside, SplitRule, left_of_row, row_of}
use Rattle.bitvec_lent_split.specs.Lent.{GivesRangeIn, LimitedSplitIn, MayGoOnIn}
use Rattle.bitvec_lent_split.specs.declared.split_state.SplitState.{SplitState}

pub step_on : {T P W L : Type 0} (step : LimitedSplitIn T P → Option (Range ℕ) → LimitedSplitIn T P → Type 0) {view shown : Seen T} → view ≡ shown → (old new : SplitState P W L) (result : Option (Range ℕ))
    → step (limited_on view old) result (limited_on view new) → step (limited_on shown old) result (limited_on shown new)
step_on step same old new result gave = subst (λ v. step (limited_on v old) result (limited_on v new)) same gave

-- a predicate that may be asked about what is left of a view may be asked about that view
pub goes_on : {T P W L : Type 0} (g : Mut P (ℕ × (Bor Bool × Unit {0})) Bool) {view shown : Seen T} → view ≡ shown → (state : SplitState P W L) → MayGoOnIn g (left_on shown state) → MayGoOnIn g (left_on view state)
goes_on g same state goes = subst (λ v. MayGoOnIn g (left_on v state)) (sym same) goes

-- what stands left is empty where it ends where it begins
left-none : (a b : ℕ) → a ≤ b → (a == b) ≡ (b - a == 0)
left-none a b order = grind (arith, nat_tests)

-- a row's piece of the bits from s up to e of a view of n bits, and what it keeps
pub given-range : {T P : Type 0} (inclusive : Bool) (row : SplitRule) (j s e n : ℕ) (piece rest : Range ℕ) (view : Seen T) (before after : Bool) (pred next : P) → IsCutBy row j piece rest → LieBeside (e - s) piece rest → s ≤ e → e ≤ n
    → after ≡ (inclusive && (s + rest.start == s + rest.end))
    → GivesRangeIn inclusive (row.piece j) (row.keeps j) (record { view = view; from = s; to = e; finished = before; pred = pred }) (record { start = s + piece.start; end = s + piece.end })
    (record { view = view; from = min (s + rest.start) (min (s + rest.end) n); to = min (s + rest.end) n; finished = after; pred = next })
given-range inclusive row j s e n piece rest view before after pred next cut beside order inside none =
    let left = beside.left in let to = beside.to in
    let low : min (s + rest.start) (min (s + rest.end) n) ≡ s + rest.start = omega arith in
    let high : min (s + rest.end) n ≡ s + rest.end = omega arith in
    record {
      start = ap (λ (k : ℕ). s + k) cut.start;
      end = ap (λ (k : ℕ). s + k) cut.end;
      view = refl;
      from = low ∙ ap (λ (k : ℕ). s + k) cut.from;
      to = high ∙ ap (λ (k : ℕ). s + k) cut.to;
      finished = rw (low, high) (none ∙ ap (λ (t : Bool). inclusive && t) (left-none (s + rest.start) (s + rest.end) (omega arith)));
    }
