-- Lists of marks from their end.
use Rattle.std.specs.Prelude.{◌≡◌, ◌≢◌, ℕ, zero, suc, ◌+◌, ◌-◌, ◌<◌, All, Bool, true, false, if◌then◌else◌, IfNone, Option, Some, None, List, [], ◌∷◌, ◌++◌, length, refl, replicate, reverse, slice_index_or, take}
use Rattle.std.specs.Option.{option_to_list}
use Rattle.std.proofs.Common.{arith, sym, ◌∙◌, ap}
use Rattle.std.proofs.lemmas.List.{append-nil, append_assoc, length-reverse, replicate-append-replicate, reverse-append}
use Rattle.std.proofs.lemmas.List.Elements.{All-replicate, All-same}

reverse-cons : (x : Bool) (xs : List Bool) → reverse (x ∷ xs) ≡ reverse xs ++ x ∷ []
reverse-cons x xs = reverse-append (x ∷ []) xs

reverse-groups : (n : ℕ) → reverse (replicate n false) ≡ replicate n false
reverse-groups zero = refl
reverse-groups (suc n) =
    let one : suc n ≡ n + 1 = omega arith in
    reverse-cons false (replicate n false) ∙ ap (λ (l : List Bool). l ++ false ∷ []) (reverse-groups n)
    ∙ replicate-append-replicate n 1 false ∙ ap (λ (k : ℕ). replicate k false) (sym one)

-- marks of which none is a block
groups-alone : (marks : List Bool) → ((k : ℕ) → k < length marks → slice_index_or marks k false ≢ true) → marks ≡ replicate (length marks) false
groups-alone [] none = refl
groups-alone (true ∷ marks) none = absurd (none 0 (omega arith) refl)
groups-alone (false ∷ marks) none =
    ap (λ (l : List Bool). false ∷ l) (groups-alone marks (λ k below is. none (suc k) (omega arith) is))

-- a mark, and behind it groups alone
reverse-cut : (marks : List Bool) (place : ℕ) (mark : Bool) → place < length marks → slice_index_or marks place false ≡ mark
    → ((k : ℕ) → place < k → k < length marks → slice_index_or marks k false ≢ true)
    → reverse marks ≡ replicate (length marks - place - 1) false ++ mark ∷ reverse (take place marks)
reverse-cut [] place mark below is none = absurd (omega arith)
reverse-cut (x ∷ marks) zero mark below is none =
    let alone = groups-alone marks (λ k inside. none (suc k) (omega arith) (omega arith)) in
    let long : length (x ∷ marks) - 0 - 1 ≡ length marks = omega arith in
    reverse-cons x marks ∙ ap (λ (l : List Bool). reverse l ++ x ∷ []) alone ∙ ap (λ (l : List Bool). l ++ x ∷ []) (reverse-groups (length marks))
    ∙ ap (λ (m : Bool). replicate (length marks) false ++ m ∷ []) is ∙ ap (λ (n : ℕ). replicate n false ++ mark ∷ []) (sym long)
reverse-cut (x ∷ marks) (suc place) mark below is none =
    let rest = reverse-cut marks place mark (omega arith) is (λ k behind inside. none (suc k) (omega arith) (omega arith)) in
    let long : length (x ∷ marks) - suc place - 1 ≡ length marks - place - 1 = omega arith in
    rw (reverse-cons x marks, rest, long, reverse-cons x (take place marks)) (append_assoc (replicate (length marks - place - 1) false) (mark ∷ reverse (take place marks)) (x ∷ []))

-- what is so anyway
pub none-always : (value : Option ℕ) (P : Type 0) → P → IfNone value P
none-always None P is = is
none-always (Some n) P is = tt

-- ---- marks of which `view` is the list, the innermost first

module _ (marks view : List Bool) (is : reverse marks ≡ view) where
  -- one more, and one less
  pub view-pushed : (new : List Bool) (mark pushed : Bool) → new ≡ (if pushed then marks ++ mark ∷ [] else marks) → reverse new ≡ (if pushed then mark ∷ view else view)
  view-pushed new mark true made = ap (λ (l : List Bool). reverse l) made ∙ reverse-append marks (mark ∷ []) ∙ ap (λ (l : List Bool). mark ∷ l) is
  view-pushed new mark false made = ap (λ (l : List Bool). reverse l) made ∙ is

  pub view-popped : (new : List Bool) (mark : Option Bool) → marks ≡ new ++ option_to_list mark → view ≡ option_to_list mark ++ reverse new
  view-popped new None cut = sym is ∙ ap (λ (l : List Bool). reverse l) (cut ∙ append-nil new)
  view-popped new (Some mark) cut = sym is ∙ ap (λ (l : List Bool). reverse l) cut ∙ reverse-append new (mark ∷ [])

  pub view-empty : length marks ≡ 0 → view ≡ []
  view-empty none =
      let long = ap (λ (l : List Bool). length l) is in
      let same = length-reverse marks in
      length-zero view (omega arith)
    where
      length-zero : (l : List Bool) → length l ≡ 0 → l ≡ []
      length-zero [] none = refl
      length-zero (x ∷ l) none = absurd (omega arith)

  -- the innermost is a group, or a block
  pub view-group : (new : List Bool) (len : ℕ) → len ≡ length marks → 0 < len → slice_index_or marks (len - 1) false ≡ false → new ≡ take (len - 1) marks → view ≡ false ∷ reverse new
  view-group new len long some bit made =
      let none : length marks - (len - 1) - 1 ≡ 0 = omega arith in
      let cut = reverse-cut marks (len - 1) false (omega arith) bit (λ k behind inside _. omega arith) in
      sym is ∙ cut ∙ ap (λ (n : ℕ). replicate n false ++ false ∷ reverse (take (len - 1) marks)) none ∙ ap (λ (l : List Bool). false ∷ reverse l) (sym made)

  pub view-no_group : (len : ℕ) (outer : List Bool) → len ≡ length marks → 0 < len → slice_index_or marks (len - 1) false ≡ true → view ≢ false ∷ outer
  view-no_group len outer long some bit same =
      let none : length marks - (len - 1) - 1 ≡ 0 = omega arith in
      let cut = reverse-cut marks (len - 1) true (omega arith) bit (λ k behind inside _. omega arith) in
      let block : true ∷ reverse (take (len - 1) marks) ≡ false ∷ outer =
      sym (ap (λ (n : ℕ). replicate n false ++ true ∷ reverse (take (len - 1) marks)) none) ∙ sym cut ∙ is ∙ same in
      cc

  -- the innermost block, or none
  pub view-block : (new : List Bool) (place : ℕ) → place < length marks → slice_index_or marks place false ≡ true → ((k : ℕ) → place < k → k < length marks → slice_index_or marks k false ≢ true)
      → new ≡ take place marks → view ≡ replicate (length marks - place - 1) false ++ true ∷ reverse new
  view-block new place below bit none made =
      sym is ∙ reverse-cut marks place true below bit none ∙ ap (λ (l : List Bool). replicate (length marks - place - 1) false ++ true ∷ reverse l) (sym made)

  pub view-no_block : ((k : ℕ) → k < length marks → slice_index_or marks k false ≢ true) → All (λ (mark : Bool). mark ≡ false) view
  view-no_block none =
      let groups : view ≡ replicate (length marks) false =
      sym is ∙ ap (λ (l : List Bool). reverse l) (groups-alone marks none) ∙ reverse-groups (length marks) in
      All-same (λ (mark : Bool). mark ≡ false) view (replicate (length marks) false) groups
      (All-replicate (λ (mark : Bool). mark ≡ false) (length marks) false refl)

-- for `using`
pub ruleset marking = (view-empty, view-no_group)
