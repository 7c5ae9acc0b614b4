-- Texts and what is open behind them.
use Rattle.std.specs.Prelude.{◌≡◌, ◌≢◌, ℕ, zero, suc, ◌+◌, ◌<◌, ◌≤◌, ◌==◌, ◌||◌, All, Bool, true, false, not, IfNone, Option, Some, None, List, [], ◌∷◌, ◌++◌, drop, length, map, refl, replicate, slice_index, take}
use Rattle.std.proofs.Common.{arith, sym, ◌∙◌, ap, inl, inr}
use Rattle.std.proofs.lemmas.Bool.{cases_eq, cases_lt}
use Rattle.std.proofs.Math.Seq.{take-suc}
use Rattle.std.proofs.lemmas.Bool.Decides.{nat_tests}
use Rattle.std.proofs.lemmas.List.{append-nil, append_assoc, drop_all, length-append, length-take, length-take-le, take-append-le, take-take, take_all, take_at}
use Rattle.std.proofs.lemmas.List.Elements.{All-head, All-tail, filter-append}
use Rattle.std.proofs.lemmas.List.Folds.{fold_along, fold_stuck}
use Rattle.std.proofs.lemmas.List.Sums.{fold-append}
use Rattle.nesting.specs.Brackets.{IsNested, KeepsFront, backed_up, closer, next, next_mended, open_after, open_mended, without_closers}
use Rattle.nesting.specs.Texts.{Mends}

-- ---- one byte

next-none : (byte : ℕ) → next None byte ≡ None
unfolding next
next-none byte = refl

next-closer : (block : Bool) (marks : List Bool) → next (Some (block ∷ marks)) (closer block) ≡ Some marks
unfolding next
next-closer false marks = refl
next-closer true marks = refl

pub next-opens_group : (marks : List Bool) → next (Some marks) 40 ≡ Some (false ∷ marks)
unfolding next
next-opens_group marks = refl

pub next-opens_block : (marks : List Bool) → next (Some marks) 123 ≡ Some (true ∷ marks)
unfolding next
next-opens_block marks = refl

pub next-other : (byte : ℕ) (marks : List Bool) → byte ≢ 40 → byte ≢ 123 → byte ≢ 41 → byte ≢ 125 → next (Some marks) byte ≡ Some marks
unfolding next
next-other byte marks group block end last = grind (arith, nat_tests)

pub next-group : (before after : List Bool) → before ≡ false ∷ after → next (Some before) 41 ≡ Some after
unfolding next
next-group before after is = rw is refl

pub next-no_group : (marks : List Bool) → ((outer : List Bool) → marks ≢ false ∷ outer) → next (Some marks) 41 ≡ None
unfolding next
next-no_group [] none = refl
next-no_group (true ∷ marks) none = refl
next-no_group (false ∷ marks) none = absurd (none marks refl)

-- so many groups, and then a block
groups-first : (k : ℕ) (after : List Bool) → (take k (replicate k false ++ true ∷ after) ≡ replicate k false) × (drop k (replicate k false ++ true ∷ after) ≡ true ∷ after)
groups-first zero after = (refl, refl)
groups-first (suc k) after = let rest = groups-first k after in (ap (λ (l : List Bool). false ∷ l) rest.0, rest.1)

module _ (k : ℕ) (before after : List Bool) (is : before ≡ replicate k false ++ true ∷ after) where
  pub block-groups : take k before ≡ replicate k false
  block-groups = rw is (groups-first k after).0

  pub block-closed : next (Some (drop k before)) 125 ≡ Some after
  block-closed = rw (is, (groups-first k after).1) (next-closer true after)

pub block-least : (k : ℕ) (before after : List Bool) → before ≡ replicate k false ++ true ∷ after → next (Some before) 125 ≢ None → k ≡ 0
unfolding next
block-least zero before after is some = refl
block-least (suc k) before after is some = absurd (rw is at some refl)

-- ---- one byte, where a } also closes the groups that are open in its block

next_mended-none : (byte : ℕ) → next_mended None byte ≡ None
unfolding next_mended
next_mended-none byte = refl

pub next_mended-other : (byte : ℕ) (marks : List Bool) → byte ≢ 125 → next_mended (Some marks) byte ≡ next (Some marks) byte
unfolding next_mended
next_mended-other byte marks other = grind (arith, nat_tests)

backed_up-block : (k : ℕ) (after : List Bool) → backed_up (replicate k false ++ true ∷ after) ≡ Some after
backed_up-block zero after = refl
backed_up-block (suc k) after = backed_up-block k after

pub next_mended-block : (k : ℕ) (before after : List Bool) → before ≡ replicate k false ++ true ∷ after → next_mended (Some before) 125 ≡ Some after
unfolding next_mended
next_mended-block k before after is = ap backed_up is ∙ backed_up-block k after

backed_up-groups : (marks : List Bool) → All (λ (mark : Bool). mark ≡ false) marks → backed_up marks ≡ None
backed_up-groups [] groups = refl
backed_up-groups (false ∷ marks) groups = backed_up-groups marks (All-tail (λ (mark : Bool). mark ≡ false) false marks groups)
backed_up-groups (true ∷ marks) groups = let is : true ≡ false = All-head (λ (mark : Bool). mark ≡ false) true marks groups in cc

pub next_mended-groups : (marks : List Bool) → All (λ (mark : Bool). mark ≡ false) marks → next_mended (Some marks) 125 ≡ None
unfolding next_mended
next_mended-groups marks groups = backed_up-groups marks groups

-- where a byte closes the innermost bracket, that is all that it closes
next_mended-block_innermost : (marks : List Bool) → next (Some marks) 125 ≢ None → next_mended (Some marks) 125 ≡ next (Some marks) 125
unfolding next next_mended
next_mended-block_innermost [] some = refl
next_mended-block_innermost (true ∷ marks) some = refl
next_mended-block_innermost (false ∷ marks) some = absurd (some refl)

next_mended-innermost : (byte : ℕ) (marks : List Bool) → next (Some marks) byte ≢ None → next_mended (Some marks) byte ≡ next (Some marks) byte
next_mended-innermost byte marks some =
    elim (cases_eq byte 125) [
      | inl block ↦ rw block (next_mended-block_innermost marks (rw block at some))
      | inr other ↦ next_mended-other byte marks other
    ]

-- a text in which each bracket closes the innermost is read as it stands, and so isn't refused
pub open_mended-innermost : (text : List ℕ) → open_after text ≢ None → open_mended text ≡ open_after text
unfolding open_after open_mended
open_mended-innermost text =
    fold_along next next_mended (λ (a b : Option (List Bool)). a ≢ None → b ≡ a) one (Some []) (Some []) text (λ some. refl)
  where
    one : (a b : Option (List Bool)) (byte : ℕ) → (a ≢ None → b ≡ a) → next a byte ≢ None → next_mended b byte ≡ next a byte
    one None b byte same some = absurd (some (next-none byte))
    one (Some marks) b byte same some =
        ap (λ (o : Option (List Bool)). next_mended o byte) (same (λ none. cc)) ∙ next_mended-innermost byte marks some

-- ---- one byte more

open_after-more : (text : List ℕ) (byte : ℕ) → open_after (text ++ byte ∷ []) ≡ next (open_after text) byte
unfolding open_after
open_after-more text byte = fold-append next (Some []) text (byte ∷ [])

open_mended-more : (text : List ℕ) (byte : ℕ) → open_mended (text ++ byte ∷ []) ≡ next_mended (open_mended text) byte
unfolding open_mended
open_mended-more text byte = fold-append next_mended (Some []) text (byte ∷ [])

-- the innermost brackets closed
open_after-closed : (k : ℕ) (text : List ℕ) (marks : List Bool) → open_after text ≡ Some marks → open_after (text ++ map closer (take k marks)) ≡ Some (drop k marks)
open_after-closed zero text marks is = ap open_after (append-nil text) ∙ is
open_after-closed (suc k) text [] is = ap open_after (append-nil text) ∙ is
open_after-closed (suc k) text (block ∷ marks) is =
    let one : open_after (text ++ closer block ∷ []) ≡ Some marks =
    open_after-more text (closer block) ∙ ap (λ (o : Option (List Bool)). next o (closer block)) is ∙ next-closer block marks in
    ap open_after (sym (append_assoc text (closer block ∷ []) (map closer (take k marks)))) ∙ open_after-closed k (text ++ closer block ∷ []) marks one

map-groups : (k : ℕ) → map closer (replicate k false) ≡ replicate k 41
map-groups zero = refl
map-groups (suc k) = ap (λ (l : List ℕ). 41 ∷ l) (map-groups k)

abbrev is_kept : ℕ → Bool
is_kept byte = not (byte == 41 || byte == 125)

without-append : (text more : List ℕ) → without_closers (text ++ more) ≡ without_closers text ++ without_closers more
without-append text more = filter-append is_kept text more

without-map : (marks : List Bool) → without_closers (map closer marks) ≡ []
without-map [] = refl
without-map (false ∷ marks) = without-map marks
without-map (true ∷ marks) = without-map marks

pub without-closed : (text : List ℕ) (marks : List Bool) → without_closers (text ++ map closer marks) ≡ without_closers text
without-closed text marks = without-append text (map closer marks) ∙ ap (λ (l : List ℕ). without_closers text ++ l) (without-map marks) ∙ append-nil (without_closers text)

-- ---- the groups that end with a byte, and then the byte

module _ (k byte : ℕ) (before after : List Bool) (old closed_text new : List ℕ) (groups : take k before ≡ replicate k false) (added : closed_text ≡ old ++ replicate k 41) (made : new ≡ closed_text ++ byte ∷ []) where
  by-marks : closed_text ≡ old ++ map closer (take k before)
  by-marks = added ∙ ap (λ (l : List ℕ). old ++ l) (sym (map-groups k) ∙ ap (λ (l : List Bool). map closer l) (sym groups))

  pub read-nested : next (Some (drop k before)) byte ≡ Some after → open_after old ≡ Some before → open_after new ≡ Some after
  read-nested followed was =
      ap open_after made ∙ open_after-more closed_text byte ∙ ap (λ (l : List ℕ). next (open_after l) byte) by-marks
      ∙ ap (λ (o : Option (List Bool)). next o byte) (open_after-closed k old before was) ∙ followed

  pub read-kept : without_closers new ≡ without_closers (old ++ byte ∷ [])
  read-kept =
      let kept : without_closers closed_text ≡ without_closers old = ap without_closers by-marks ∙ without-closed old (take k before) in
      ap without_closers made ∙ without-append closed_text (byte ∷ []) ∙ ap (λ (l : List ℕ). l ++ without_closers (byte ∷ [])) kept ∙ sym (without-append old (byte ∷ []))

  pub read-front : take (length old) new ≡ old
  read-front =
      ap (λ (l : List ℕ). take (length old) l) (made ∙ ap (λ (l : List ℕ). l ++ byte ∷ []) added ∙ append_assoc old (replicate k 41) (byte ∷ []))
      ∙ take_at old (replicate k 41 ++ byte ∷ []) (length old) refl

  pub read-same : k ≡ 0 → new ≡ old ++ byte ∷ []
  read-same none =
      let same : closed_text ≡ old = added ∙ ap (λ (n : ℕ). old ++ replicate n 41) none ∙ append-nil old in
      made ∙ ap (λ (l : List ℕ). l ++ byte ∷ []) same

-- ---- all that is open is closed

pub closed-more : (text start : List ℕ) (old new : List Bool) (block : Bool) → text ++ map closer old ≡ start → old ≡ block ∷ new → (text ++ closer block ∷ []) ++ map closer new ≡ start
closed-more text start old new block is cut = append_assoc text (closer block ∷ []) (map closer new) ∙ ap (λ (l : List Bool). text ++ map closer l) (sym cut) ∙ is

pub closed-none : (text start : List ℕ) (old : List Bool) → text ++ map closer old ≡ start → old ≡ [] → text ≡ start
closed-none text start old is none = sym (append-nil text) ∙ ap (λ (l : List Bool). text ++ map closer l) (sym none) ∙ is

pub closed-end : (text start : List ℕ) (old : List Bool) (mark : Option Bool) → text ++ map closer old ≡ start → IfNone mark (old ≡ []) → ((m : Bool) → mark ≢ Some m) → text ≡ start
closed-end text start old None is none other = closed-none text start old is none
closed-end text start old (Some m) is none other = absurd (other m refl)

-- ---- a text that is read byte by byte

-- what was mended of a text
pub record IsMended (text : List ℕ) (marks : List Bool) (mended : List ℕ) : Type 0 where
  pub nested : open_after mended ≡ Some marks
  pub followed : open_mended text ≡ Some marks
  pub kept : without_closers mended ≡ without_closers text
  pub same : open_after text ≢ None → mended ≡ text
  pub front : KeepsFront text mended

pub mended-none : IsMended [] [] []
unfolding open_after open_mended
mended-none = record { nested = refl; followed = refl; kept = refl; same = λ _. refl; front = record { front = λ n inside some. refl } }

-- what begins as a text does is at least as long
front-fits : (n : ℕ) (text mended : List ℕ) → n ≤ length text → take n mended ≡ take n text → n ≤ length mended
front-fits n text mended inside same =
    let long = length-take n mended in
    let all = length-take-le n text inside in
    let is = ap (λ (l : List ℕ). length l) same in
    omega arith

some-before : (text : List ℕ) (byte : ℕ) → open_after (text ++ byte ∷ []) ≢ None → open_after text ≢ None
some-before text byte some is = some (open_after-more text byte ∙ ap (λ (o : Option (List Bool)). next o byte) is ∙ next-none byte)

-- behind a text of which nothing was changed
next-same : (text : List ℕ) (marks : List Bool) (byte : ℕ) (mended : List ℕ) → IsMended text marks mended → mended ≡ text → open_after (text ++ byte ∷ []) ≡ next (Some marks) byte
next-same text marks byte mended is same =
    open_after-more text byte ∙ ap (λ (l : List ℕ). next (open_after l) byte) (sym same) ∙ ap (λ (o : Option (List Bool)). next o byte) is.nested

some-next : (text : List ℕ) (marks : List Bool) (byte : ℕ) (mended : List ℕ) → IsMended text marks mended → open_after (text ++ byte ∷ []) ≢ None → next (Some marks) byte ≢ None
some-next text marks byte mended is some stray = some (next-same text marks byte mended is (is.same (some-before text byte some)) ∙ stray)

front-more : (text : List ℕ) (byte : ℕ) (old new : List ℕ) → KeepsFront text old → take (length old) new ≡ old → (open_after (text ++ byte ∷ []) ≢ None → new ≡ text ++ byte ∷ [])
    → (n : ℕ) → n ≤ length (text ++ byte ∷ []) → open_after (take n (text ++ byte ∷ [])) ≢ None → take n new ≡ take n (text ++ byte ∷ [])
front-more text byte old new was first whole n inside some =
    let more : List ℕ = text ++ byte ∷ [] in
    let one = length-append text (byte ∷ []) in
    elim (cases_lt (length text) n) [
      | inl past ↦ let all : take n more ≡ more = take_all n more (omega arith) in
          ap (λ (l : List ℕ). take n l) (whole (rw all at some))
      | inr below ↦ let same : take n more ≡ take n text = take-append-le n text (byte ∷ []) below in
          let is = was.front n below (rw same at some) in
          sym (take-take n (length old) new (front-fits n text old below is)) ∙ ap (λ (l : List ℕ). take n l) first ∙ is ∙ sym same
    ]

mended-more : (text : List ℕ) (before after : List Bool) (byte : ℕ) (old new : List ℕ) → IsMended text before old
    → (open_after old ≡ Some before → open_after new ≡ Some after) → next_mended (Some before) byte ≡ Some after → take (length old) new ≡ old
    → without_closers new ≡ without_closers (old ++ byte ∷ []) → (next (Some before) byte ≢ None → new ≡ old ++ byte ∷ []) → IsMended (text ++ byte ∷ []) after new
mended-more text before after byte old new was nested followed first kept same =
    let more : List ℕ = text ++ byte ∷ [] in
    let whole : open_after more ≢ None → new ≡ more =
    λ some. same (some-next text before byte old was some) ∙ ap (λ (l : List ℕ). l ++ byte ∷ []) (was.same (some-before text byte some)) in
    record {
      nested = nested was.nested;
      followed = open_mended-more text byte ∙ ap (λ (o : Option (List Bool)). next_mended o byte) was.followed ∙ followed;
      kept = kept ∙ without-append old (byte ∷ []) ∙ ap (λ (l : List ℕ). l ++ without_closers (byte ∷ [])) was.kept ∙ sym (without-append text (byte ∷ []));
      same = whole;
      front = record { front = λ n inside some. front-more text byte old new was.front first whole n inside some };
    }

module _ (text : List ℕ) (i : ℕ) (before : List Bool) (old : List ℕ) (was : IsMended (take i text) before old) (inside : i < length text) where
  next-take : take (i + 1) text ≡ take i text ++ slice_index text i ∷ []
  next-take = let next : i + 1 ≡ suc i = omega arith in rw next (take-suc text i 0 inside)

  pub mended-next : (after : List Bool) (new : List ℕ) → (open_after old ≡ Some before → open_after new ≡ Some after)
      → next_mended (Some before) (slice_index text i) ≡ Some after → take (length old) new ≡ old
      → without_closers new ≡ without_closers (old ++ slice_index text i ∷ [])
      → (next (Some before) (slice_index text i) ≢ None → new ≡ old ++ slice_index text i ∷ []) → IsMended (take (i + 1) text) after new
  mended-next after new nested followed first kept same = rw next-take (mended-more (take i text) before after (slice_index text i) old new was nested followed first kept same)

  -- where a byte closes no bracket, the text can't be mended
  pub mended-stray : next_mended (Some before) (slice_index text i) ≡ None → open_mended text ≡ None
  unfolding open_mended
  mended-stray stray =
      let none : next_mended (open_mended (take i text)) (slice_index text i) ≡ None =
      ap (λ (o : Option (List Bool)). next_mended o (slice_index text i)) was.followed ∙ stray in
      sym (fold_stuck next_mended None next_mended-none (Some []) text i 0 inside none)

module _ (text : List ℕ) (i : ℕ) (marks : List Bool) (mended new : List ℕ) (was : IsMended (take i text) marks mended) (all : length text ≤ i) (made : new ≡ mended ++ map closer marks) where
  whole : IsMended text marks mended
  whole = rw (take_all i text all) at was

  mended-mendable : open_mended text ≢ None
  mended-mendable none = let is : Some marks ≡ None = sym whole.followed ∙ none in cc

  mended-nested : IsNested new
  mended-nested =
      let closed = open_after-closed (length marks) mended marks whole.nested in
      ap open_after made ∙ rw (take_all (length marks) marks (omega arith), drop_all (length marks) marks (omega arith)) at closed

  mended-kept : without_closers new ≡ without_closers text
  mended-kept = ap without_closers made ∙ without-closed mended marks ∙ whole.kept

  mended-front : KeepsFront text new
  mended-front = record {
    front = λ n inside some.
        let is = whole.front.front n inside some in
        ap (λ (l : List ℕ). take n l) made ∙ take-append-le n mended (map closer marks) (front-fits n text mended inside is) ∙ is;
  }

  mended-same : IsNested text → new ≡ text
  mended-same nested =
      let same : mended ≡ text = whole.same (λ none. let is : Some [] ≡ None = sym nested ∙ none in cc) in
      let none : Some marks ≡ Some [] = sym whole.nested ∙ ap open_after same ∙ nested in
      let is : marks ≡ [] = cc in
      made ∙ ap (λ (l : List Bool). mended ++ map closer l) is ∙ append-nil mended ∙ same

  pub mended-whole : Mends text new
  mended-whole = record { mendable = mended-mendable; nested = mended-nested; kept = mended-kept; front = mended-front; same = mended-same }

-- for `using`
pub ruleset following = (next-opens_group, next-opens_block, next-other, next-group, next-no_group, block-groups, block-closed, block-least, next_mended-other, next_mended-block, next_mended-groups)

pub ruleset reading = (read-nested, read-front, read-kept, read-same)

pub ruleset closing = (closed-more, closed-none, closed-end)

pub ruleset mending = (mended-none, mended-stray)
