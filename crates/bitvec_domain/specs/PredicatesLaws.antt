-- How the askings of a predicate go on.
use Rattle.std.specs.Prelude.{◌≡◌, ℕ, ◌+◌, ◌-◌, ◌<◌, ◌≤◌, suc, Bool, true, false, List, [], ◌∷◌, Option, Some, slice_index_or, refl}
use Rattle.std.specs.Borrow.{Bor}
use Rattle.std.specs.Fn.{Mut, Takes, always_mut}
use Rattle.std.specs.List.{range_with_len}
use Rattle.std.specs.Bool.{MatchBool}
use Rattle.std.proofs.Common.{◌⊎◌, arith, ap, cond, find, inl, inr, subst}
use Rattle.bitvec_domain.specs.Predicates.{Asked, Asks, MayAskEach, MayAskTimes, downward}

by_answer : (A B : Type 0) (i : ℕ) (found rest : Option ℕ) (answer test : Bool) → answer ≡ test → MatchBool answer ((found ≡ Some i) × A) B → (B → found ≡ rest) → found ≡ cond test (Some i) rest
by_answer A B i found rest true true is met later = met.0
by_answer A B i found rest false false is met later = later met
by_answer A B i found rest true false is met later = absurd cc
by_answer A B i found rest false true is met later = absurd cc

module _ {P : Type 0} (g : Mut P (ℕ × (Bor Bool × Unit {0})) Bool) where
  less_each : (m n : ℕ) (pred : P) (questions : List (ℕ × Bool)) → m ≤ n → MayAskEach g n pred questions → MayAskEach g m pred questions
  less_each m n pred [] order may = may
  less_each m n pred (q ∷ more) order may = λ below. let each = may (omega (arith, below, order)) in
      (each.0, λ answer next asks. less_each m n next more order (each.1 answer next asks))

  always_each : (n : ℕ) (pred : P) (questions : List (ℕ × Bool)) → always_mut g pred → MayAskEach g n pred questions
  always_each n pred [] always = tt
  always_each n pred (q ∷ more) always = λ below. (
    λ shown shows. (always.at ((q.0, (shown, tt)) ∷ [])).0,
    λ answer next asks. always_each n next more (record { at = λ xs. (always.at ((q.0, (asks.shown, tt)) ∷ xs)).1 answer next asks.called }),
  )

module _ {P : Type 0} {g : Mut P (ℕ × (Bor Bool × Unit {0})) Bool} where
  module _ {n times : ℕ} {pred : P} (may : MayAskTimes g n times pred) (left : 0 < times) where
    -- A predicate that may be asked at least once may be asked now about an index below `n`.
    pub may_ask-now : (index : ℕ) (shown : Bor Bool) → index < n → Takes g pred (index, (shown, tt))
    may_ask-now index shown below = (may.at ((index, shown.now) ∷ []) (omega (arith, left)) below).0 shown refl

    -- A predicate that was asked once may be asked once less afterwards.
    pub may_ask-next : {index : ℕ} {bit answer : Bool} {next : P} → index < n → Asks g pred index bit answer next → MayAskTimes g n (times - 1) next
    may_ask-next {index} {bit} below asks = record { at = λ more few. (may.at ((index, bit) ∷ more) (omega (arith, left, few)) below).1 _ _ asks }

  -- A predicate may also be asked about fewer bits, and fewer times.
  pub may_ask_of_fewer : {m n less times : ℕ} {pred : P} → MayAskTimes g n times pred → m ≤ n → less ≤ times → MayAskTimes g m less pred
  may_ask_of_fewer {m} {n} {less} {times} {pred} may order rarer =
      record { at = λ questions few. less_each g m n pred questions order (may.at questions (omega (arith, rarer, few))) }

  -- A predicate that may always be called may be asked any number of times.
  pub may_ask_always : {n times : ℕ} {pred : P} → always_mut g pred → MayAskTimes g n times pred
  may_ask_always {n} {times} {pred} always = record { at = λ questions few. always_each g n pred questions always }

  -- A predicate that may always be called, or asked so many times, may be asked so many times.
  pub may_ask_either : {n times : ℕ} {pred : P} → always_mut g pred ⊎ MayAskTimes g n times pred → MayAskTimes g n times pred
  may_ask_either (inl always) = may_ask_always always
  may_ask_either (inr may) = may

  -- The predicate of a split that isn't finished may be asked, where it may always be called, or while the split isn't finished.
  pub may_ask_unfinished : {n times : ℕ} {finished : Bool} {pred : P} → finished ≡ false → always_mut g pred ⊎ (finished ≡ false → MayAskTimes g n times pred) → MayAskTimes g n times pred
  may_ask_unfinished going (inl always) = may_ask_always always
  may_ask_unfinished going (inr may) = may going

  -- the askings that go on with a yes, or with a no and the others
  module _ (bits : List Bool) {pred next : P} {index : ℕ} (indices more : List ℕ) (are : indices ≡ index ∷ more) where
    -- A predicate that says yes to the first index ends the asking there.
    pub asked-yes : Asks g pred index (slice_index_or bits index false) true next → Asked g bits pred indices (Some index) next
    asked-yes asks = rw are (true, next, asks, (refl, refl))

    -- A predicate that says no to the first index is asked about those behind it.
    pub asked-no : (found : Option ℕ) (last : P) → Asks g pred index (slice_index_or bits index false) false next → Asked g bits next more found last
        → Asked g bits pred indices found last
    asked-no found last asks rest = rw are (false, next, asks, rest)

  -- A predicate that is a function of index and bit says yes at the first index where the function is true.
  pub asked_first : (bits : List Bool) (test : ℕ → Bool → Bool) (pred : P)
      → ((index : ℕ) (bit answer : Bool) (next : P) → Asks g pred index bit answer next → (next ≡ pred) × (answer ≡ test index bit))
      → (indices : List ℕ) (found : Option ℕ) (last : P) → Asked g bits pred indices found last → found ≡ find (λ i. test i (slice_index_or bits i false)) indices
  asked_first bits test pred acts [] found last asked = asked.0
  asked_first bits test pred acts (i ∷ more) found last asked =
      let same = acts i _ asked.0 asked.1 asked.2 in
      by_answer _ _ i found (find (λ k. test k (slice_index_or bits k false)) more) asked.0 (test i (slice_index_or bits i false)) same.1 asked.3
      (λ rest. asked_first bits test pred acts more found last (subst (λ (q : P). Asked g bits q more found last) same.0 rest))

-- The indices from `index` up to `n` are `index` and those from the next one on.
pub upward-from : (index n : ℕ) → index < n → range_with_len index (n - index) ≡ index ∷ range_with_len (index + 1) (n - (index + 1))
upward-from index n below =
    let one : n - index ≡ suc (n - (index + 1)) = omega (arith, below) in
    ap (λ (k : ℕ). range_with_len index k) one

-- The indices below `end`, downward, are the one before it and those below that.
pub downward-from : (end : ℕ) → 0 < end → downward end ≡ (end - 1) ∷ downward (end - 1)
downward-from end some = let one : end ≡ suc (end - 1) = omega (arith, some) in ap downward one
