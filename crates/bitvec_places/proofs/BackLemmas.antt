-- The ones of a word as they are written from the last place to the first, where all have room.
use Rattle.std.specs.Prelude.{◌≡◌, ◌≢◌, ℕ, ◌+◌, ◌-◌, ◌^◌, ◌<◌, ◌≤◌, List, [], ◌∷◌, ◌++◌, count_ones, length, drop, map, reverse, take, bit_and, refl}
use Rattle.std.specs.Int.{trailing_zeros, w64}
use Rattle.std.proofs.Common.{arith, sym, ◌∙◌, ap, length-drop}
use Rattle.std.proofs.Math.ListN.{set}
use Rattle.std.proofs.Math.Seq.{take-add}
use Rattle.std.proofs.lemmas.List.{drop-drop, drop-set, length-map, length-set, reverse-append, take_all}
use Rattle.bitvec_places.specs.WordOnes.{word_ones}
use Rattle.bitvec_places.proofs.OnesLemmas.{ones-count, ones-lowest, ones-most, ones-none}

-- how far from the word's end its ones stand, counted from `base`
abbrev pub places : ℕ → ℕ → List ℕ
places base word = map (λ place. base + (63 - place)) (word_ones word)

-- all but `left` of them were written, behind these; those of `rest` are left
pub record WrittenBack (base word : ℕ) (old now : List ℕ) (left rest : ℕ) : Type 0 where
  pub order : left ≤ length (places base word)
  pub later : drop (length (places base word) - left) (places base word) ≡ places base rest
  pub behind : drop left now ≡ reverse (take (length (places base word) - left) (places base word)) ++ drop (length (places base word)) old
  pub room : length now ≡ length old

module _ (base word : ℕ) (fits : word < 2 ^ 64) where
  pub places-count : length (places base word) ≡ count_ones word
  places-count = length-map (word_ones word) (λ place. base + (63 - place)) ∙ ones-count word fits

  pub places-most : length (places base word) ≤ 64
  places-most = let long = length-map (word_ones word) (λ place. base + (63 - place)) in omega (arith, ones-most word)

  pub back-begun : (old : List ℕ) → WrittenBack base word old old (count_ones word) word
  back-begun old =
      let count = places-count in
      let none : length (places base word) - count_ones word ≡ 0 = omega arith in
      record {
        order = omega arith;
        later = ap (λ (n : ℕ). drop n (places base word)) none;
        behind = sym (ap (λ (n : ℕ). reverse (take n (places base word)) ++ drop (length (places base word)) old) none ∙ ap (λ (n : ℕ). drop n old) count);
        room = refl;
      }

module _ {base word : ℕ} {old now : List ℕ} {left rest : ℕ} (before : WrittenBack base word old now left rest) where
  module _ (some : rest ≢ 0) (fits : rest < 2 ^ 64) where
    next : drop (length (places base word) - left) (places base word) ≡ (base + (63 - trailing_zeros w64 rest)) ∷ places base (bit_and rest (rest - 1))
    next = before.later ∙ ap (map (λ place. base + (63 - place))) (ones-lowest rest some fits)

    pub back-more : 0 < left
    back-more = let long = ap length next in let passed = length-drop (length (places base word) - left) (places base word) in let order = before.order in omega arith

    pub back-next : length (places base word) ≤ length old → WrittenBack base word old (set now (left - 1) (base + (63 - trailing_zeros w64 rest))) (left - 1) (bit_and rest (rest - 1))
    back-next enough =
        let order = before.order in
        let room = before.room in
        let more = back-more in
        let all = places base word in
        let n = length all - left in
        let one : take 1 (drop n all) ≡ (base + (63 - trailing_zeros w64 rest)) ∷ [] = ap (take 1) next in
        let further : length all - (left - 1) ≡ n + 1 = omega arith in
        let back : left - 1 + 1 ≡ left = omega arith in
        record {
          order = omega arith;
          later = ap (λ (m : ℕ). drop m all) further ∙ sym (drop-drop 1 n all) ∙ ap (drop 1) next;
          behind = drop-set now (left - 1) (base + (63 - trailing_zeros w64 rest)) (omega arith)
              ∙ ap (λ (m : ℕ). (base + (63 - trailing_zeros w64 rest)) ∷ drop m now) back
              ∙ ap (λ (l : List ℕ). (base + (63 - trailing_zeros w64 rest)) ∷ l) before.behind
              ∙ ap (λ (l : List ℕ). l ++ drop (length all) old) (sym (ap (λ (m : ℕ). reverse (take m all)) further ∙ ap reverse (take-add n 1 all ∙ ap (λ (l : List ℕ). take n all ++ l) one) ∙ reverse-append (take n all) ((base + (63 - trailing_zeros w64 rest)) ∷ [])));
          room = length-set now (left - 1) (base + (63 - trailing_zeros w64 rest)) ∙ room;
        }

  -- in the end all are written
  pub back-ended : rest ≡ 0 → now ≡ reverse (places base word) ++ drop (length (places base word)) old
  back-ended none =
      let all = places base word in
      let order = before.order in
      let passed = length-drop (length all - left) all in
      let gone = ap length (before.later ∙ ap (map (λ place. base + (63 - place))) (ones-none rest none)) in
      let first : left ≡ 0 = omega arith in
      let whole : length all - left ≡ length all = omega arith in
      sym (ap (λ (m : ℕ). drop m now) first) ∙ before.behind ∙ ap (λ (l : List ℕ). reverse l ++ drop (length all) old) (ap (λ (m : ℕ). take m all) whole ∙ take_all (length all) all (omega arith))

pub ruleset writing_back = (places-most, places-count, back-begun, back-more, back-next, back-ended)
