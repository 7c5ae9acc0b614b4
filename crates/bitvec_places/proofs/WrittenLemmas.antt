-- A list whose first elements are written one after the other.
use Rattle.std.specs.Prelude.{◌≡◌, ◌≢◌, ◌⊎◌, ℕ, ◌+◌, ◌-◌, ◌^◌, ◌<◌, ◌≤◌, List, [], ◌∷◌, ◌++◌, count_ones, length, drop, map, min, take, bit_and, refl}
use Rattle.std.specs.Int.{trailing_zeros, w64}
use Rattle.std.proofs.Common.{arith, sym, ◌∙◌, ap, ⊎_elim, length-drop}
use mathlib.Core.List.{append-nil}
use Rattle.std.proofs.Math.ListN.{set}
use Rattle.std.proofs.Math.Seq.{drop-append-add, drop-append_seam, take-add, take-append-add}
use Rattle.std.proofs.lemmas.List.{drop-drop, drop-set-lt, length-append, length-map, length-set, length-take-le, drop_all, take-append-drop, take-append-le, take_all, take_more_set}
use borrow.Rule.Slice.PartMut.{put_mid}
use Rattle.bitvec_places.specs.WordOnes.{word_ones}
use Rattle.bitvec_places.proofs.OnesLemmas.{ones-count, ones-lowest, ones-most, ones-none}

-- the first n of `all` stand in place of the first n of `old`
pub record Written (all old now : List ℕ) (n : ℕ) : Type 0 where
  pub few : n ≤ length all
  pub within : n ≤ length old
  pub room : length now ≡ length old
  pub front : take n now ≡ take n all
  pub behind : drop n now ≡ drop n old

pub written-none : (all old : List ℕ) → Written all old old 0
written-none all old = record { few = omega arith; within = omega arith; room = refl; front = refl; behind = refl }

-- what a call says that wrote the first n
pub written-by : (all old now : List ℕ) (n : ℕ) → n ≤ length all → n ≤ length old → now ≡ take n all ++ drop n old → Written all old now n
written-by all old now n few within is =
    let begun = length-take-le n all few in
    let sum = ap length is ∙ length-append (take n all) (drop n old) in
    let rest = length-drop n old in
    record {
      few = few;
      within = within;
      room = omega arith;
      front = ap (take n) is ∙ take-append-le n (take n all) (drop n old) (omega arith) ∙ take_all n (take n all) (omega arith);
      behind = ap (drop n) is ∙ ap (λ (m : ℕ). drop m (take n all ++ drop n old)) (sym begun) ∙ drop-append_seam (take n all) (drop n old);
    }

module _ {all old now : List ℕ} {n : ℕ} (before : Written all old now n) where
  -- all that is known of the list in the end
  pub written-is : now ≡ take n all ++ drop n old
  written-is = sym (take-append-drop n now) ∙ ap (λ (l : List ℕ). l ++ drop n now) before.front ∙ ap (λ (l : List ℕ). take n all ++ l) before.behind

  -- the next is written
  pub written-next : (next : ℕ) (later : List ℕ) → drop n all ≡ next ∷ later → n < length old → Written all old (set now n next) (n + 1)
  written-next next later more below =
      let few = before.few in
      let room = before.room in
      let left = ap length more in
      let long = length-drop n all in
      let one : take 1 (drop n all) ≡ next ∷ [] = ap (take 1) more in
      record {
        few = omega arith;
        within = omega arith;
        room = length-set now n next ∙ room;
        front = take_more_set now n next (omega arith) ∙ ap (λ (l : List ℕ). l ++ (next ∷ [])) before.front ∙ sym (take-add n 1 all ∙ ap (λ (l : List ℕ). take n all ++ l) one);
        behind = drop-set-lt (n + 1) now n next (omega arith) ∙ sym (drop-drop 1 n now) ∙ ap (drop 1) before.behind ∙ drop-drop 1 n old;
      }

  -- more was written to the rest of the list, where all stand in it
  module _ (every more part : List ℕ) (k : ℕ) (is : every ≡ all ++ more) (whole : n ≡ length all) (most : k ≡ min (length more) (length (drop n now))) (wrote : part ≡ take k more ++ drop k (drop n now)) where
    after : Written more (drop n now) part k
    after = written-by more (drop n now) part k (omega arith) (omega arith) wrote

    put : put_mid n (length now - n) now part ≡ take n now ++ part
    put =
        let rest = length-drop n now in
        let none : drop (length now - n) (drop n now) ≡ [] = drop_all (length now - n) (drop n now) (omega arith) in
        ap (λ (l : List ℕ). take n now ++ (part ++ l)) none ∙ ap (λ (l : List ℕ). take n now ++ l) (append-nil part)

    pub more-written : Written every old (put_mid n (length now - n) now part) (n + k)
    more-written =
        let few = after.few in
        let within = after.within in
        let inside = before.within in
        let room = before.room in
        let rest = length-drop n now in
        let begun = length-take-le n now (omega arith) in
        let there = after.room in
        let joined = length-append all more in
        let sum = length-append (take n now) part in
        let same = ap length put in
        let first : n + k ≡ length (take n now) + k = omega arith in
        let second : length all + k ≡ n + k = omega arith in
        rw is (record {
          few = omega arith;
          within = omega arith;
          room = omega arith;
          front = ap (take (n + k)) put ∙ ap (λ (m : ℕ). take m (take n now ++ part)) first ∙ take-append-add (take n now) part k
              ∙ ap (λ (l : List ℕ). l ++ take k part) (before.front ∙ take_all n all (omega arith)) ∙ ap (λ (l : List ℕ). all ++ l) after.front
              ∙ sym (take-append-add all more k) ∙ ap (λ (m : ℕ). take m (all ++ more)) second;
          behind = ap (drop (n + k)) put ∙ ap (λ (m : ℕ). drop m (take n now ++ part)) first ∙ drop-append-add (take n now) part k
              ∙ after.behind ∙ ap (drop k) before.behind ∙ drop-drop k n old;
        })

    pub more-most : n + k ≡ min (length every) (length old)
    more-most =
        let joined = ap length is ∙ length-append all more in
        let room = before.room in
        let inside = before.within in
        let rest = length-drop n now in
        omega arith

  module _ {every : List ℕ} (later : List ℕ) (is : every ≡ all ++ later) where
    -- and of a longer list, of which no more have room
    pub written-count : n ≡ min (length all) (length old) → (later ≡ []) ⊎ (length old ≤ n) → n ≡ min (length every) (length old)
    written-count most ended =
        let sum = ap length is ∙ length-append all later in
        ⊎_elim (λ (none : later ≡ []). let long = ap length none in omega arith) (λ (full : length old ≤ n). omega arith) ended

    pub written-of : now ≡ take n every ++ drop n old
    written-of = written-is ∙ ap (λ (l : List ℕ). l ++ drop n old) (sym (ap (take n) is ∙ take-append-le n all later before.few))

-- ---- the ones of a word

-- the places of the first n ones of a word, counted from `base`, were written, and those of `rest` are left
pub record WrittenOnes (base word : ℕ) (old now : List ℕ) (n rest : ℕ) : Type 0 where
  pub left : drop n (map (λ place. base + place) (word_ones word)) ≡ map (λ place. base + place) (word_ones rest)
  pub written : Written (map (λ place. base + place) (word_ones word)) old now n

module _ {base word : ℕ} {old : List ℕ} where
  pub ones-begun : WrittenOnes base word old old 0 word
  ones-begun = record { left = refl; written = written-none _ old }

  module _ {now : List ℕ} {n rest : ℕ} (before : WrittenOnes base word old now n rest) where
    abbrev all : List ℕ
    all = map (λ place. base + place) (word_ones word)

    module _ (some : rest ≢ 0) (fits : rest < 2 ^ 64) where
      next : drop n all ≡ (base + trailing_zeros w64 rest) ∷ map (λ place. base + place) (word_ones (bit_and rest (rest - 1)))
      next = before.left ∙ ap (map (λ place. base + place)) (ones-lowest rest some fits)

      pub ones-more : n < 64
      ones-more =
          let long = ap length next in
          let left = length-drop n all in
          let most = length-map (word_ones word) (λ place. base + place) in
          omega (arith, ones-most word)

      pub ones-next : n < length old → WrittenOnes base word old (set now n (base + trailing_zeros w64 rest)) (n + 1) (bit_and rest (rest - 1))
      ones-next below = record {
        left = sym (drop-drop 1 n all) ∙ ap (drop 1) next;
        written = written-next before.written _ _ next below;
      }

    -- in the end all are written, or as many as there is room for
    pub ones-ended : word < 2 ^ 64 → (rest ≡ 0) ⊎ (length old ≤ n) → n ≡ min (count_ones word) (length old)
    ones-ended fits ended =
        let few = before.written.few in
        let within = before.written.within in
        let count = length-map (word_ones word) (λ place. base + place) ∙ ones-count word fits in
        let left = length-drop n all in
        ⊎_elim (λ (none : rest ≡ 0). let long = ap length (before.left ∙ ap (map (λ place. base + place)) (ones-none rest none)) in omega arith) (λ (full : length old ≤ n). omega arith) ended

pub ruleset writing = (ones-begun, ones-more, ones-next, ones-ended)
