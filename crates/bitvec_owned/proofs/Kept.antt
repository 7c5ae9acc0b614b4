-- The bits that a predicate keeps come to the front of a window: what it was asked so far, and what is left.
use Rattle.std.specs.Prelude.{◌≡◌, ℕ, ◌+◌, ◌-◌, ◌<◌, ◌≤◌, Bool, true, false, List, [], ◌∷◌, ◌++◌, drop, length, slice_index_or, slice_set, take, refl}
use Rattle.std.specs.Borrow.{Bor}
use Rattle.std.specs.Fn.{Mut}
use Rattle.std.specs.List.Retain.{IsFiltered}
use Rattle.std.proofs.Common.{◌∙◌, add-one, ap, append_assoc, arith, drop-cons, subst, sym}
use Rattle.std.proofs.lemmas.List.{append-nil, drop-drop, drop_all, get_or-drop, take_more_set}
use Rattle.bitvec_base.specs.Memory.{HasWindow, Writes, list_in}
use Rattle.bitvec_base.specs.WriteLaws.{drop-write_at, set-is_write}
use Rattle.bitvec_base.specs.WritesLaws.{HasWindow-kept, Writes-holds, Writes-is, Writes-nothing, Writes-then, length-list}
use Rattle.bitvec_base.specs.declared.window.Window.{Window}
use Rattle.bitvec_domain.specs.Predicates.{Asks}
use Rattle.bitvec_owned.specs.Retained.{AsksNext}

-- ---- lists

-- the items from an index on: that at the index, and those behind it
from-index : (list : List Bool) (i : ℕ) → i < length list → drop i list ≡ slice_index_or list i false ∷ drop (i + 1) list
from-index list i below = rw add-one (drop-cons list i false below)

-- lists that agree from an index on agree at each later one
same-later : (xs ys : List Bool) (k i : ℕ) → k ≤ i → drop k xs ≡ drop k ys → slice_index_or xs i false ≡ slice_index_or ys i false
same-later xs ys k i order same =
    let place : k + (i - k) ≡ i = omega arith in
    ap (λ (n : ℕ). slice_index_or xs n false) (sym place)
    ∙ sym (get_or-drop k xs (i - k) false)
    ∙ ap (λ (l : List Bool). slice_index_or l (i - k) false) same
    ∙ get_or-drop k ys (i - k) false
    ∙ ap (λ (n : ℕ). slice_index_or ys n false) place

-- an item was set: what stands behind it
set-behind : (list : List Bool) (k : ℕ) (x : Bool) → k < length list → drop (k + 1) (slice_set list k x) ≡ drop (k + 1) list
set-behind list k x inside = ap (drop (k + 1)) (set-is_write list k x inside) ∙ drop-write_at list k (x ∷ []) (omega arith)

module _ {P : Type 0} (g : Mut P (ℕ × (Bor Bool × Unit {0})) Bool) where
  -- ---- questions

  -- the predicate is asked about the bits of a list from an index on, and keeps `new`
  abbrev KeepsFrom : List Bool → ℕ → P → List Bool → Type 0
  KeepsFrom list i pred new = IsFiltered (AsksNext g) (i, pred) (drop i list) new

  keeps-yes : (list new : List Bool) (i : ℕ) (pred next : P) → i < length list → Asks g pred i (slice_index_or list i false) true next → KeepsFrom list (i + 1) next new
      → KeepsFrom list i pred (slice_index_or list i false ∷ new)
  keeps-yes list new i pred next below asks more =
      let bit = slice_index_or list i false in
      subst (λ (l : List Bool). IsFiltered (AsksNext g) (i, pred) l (bit ∷ new)) (sym (from-index list i below))
      (true ∷ more.0, more.1, omega (arith, more.2), ((i + 1, next), (refl, asks), more.3), ap (λ (l : List Bool). bit ∷ l) more.4)

  keeps-no : (list new : List Bool) (i : ℕ) (pred next : P) → i < length list → Asks g pred i (slice_index_or list i false) false next → KeepsFrom list (i + 1) next new
      → KeepsFrom list i pred new
  keeps-no list new i pred next below asks more =
      subst (λ (l : List Bool). IsFiltered (AsksNext g) (i, pred) l new) (sym (from-index list i below))
      (false ∷ more.0, more.1, omega (arith, more.2), ((i + 1, next), (refl, asks), more.3), more.4)

  keeps-none : (list : List Bool) (i : ℕ) (pred : P) → length list ≤ i → KeepsFrom list i pred []
  keeps-none list i pred past =
      subst (λ (l : List Bool). IsFiltered (AsksNext g) (i, pred) l []) (sym (drop_all i list past)) ([], (i, pred), refl, refl, refl)

  -- ---- windows

  -- after the questions about the first bits of a window those that were kept are its first ones, and from there on it is as it was
  pub record Moved (first : P) (b : ℕ) (at : ℕ → ℕ → ℕ) (old : List ℕ) (window : Window) (pred : P) (now : List ℕ) (index kept : ℕ) : Type 0 where
    pub order : kept ≤ index
    pub writes : Writes b at old now window (list_in b at now window)
    pub rest : drop kept (list_in b at now window) ≡ drop kept (list_in b at old window)
    pub asked : (more : List Bool) → KeepsFrom (list_in b at old window) index pred more
        → IsFiltered (AsksNext g) (0, first) (list_in b at old window) (take kept (list_in b at now window) ++ more)

  module _ {first : P} {b : ℕ} {at : ℕ → ℕ → ℕ} {old : List ℕ} {window : Window} (has : HasWindow b old window) where
    pub moved-none : {now : List ℕ} → now ≡ old → Moved first b at old window first now 0 0
    moved-none {now} same =
        subst (λ (xs : List ℕ). Moved first b at old window first xs 0 0) (sym same)
        (record { order = omega arith; writes = Writes-nothing at old has refl; rest = refl; asked = λ more is. is })

    module _ {pred : P} {now : List ℕ} {index kept : ℕ} (done : Moved first b at old window pred now index kept) where
      pub moved-window : HasWindow b now window
      moved-window = HasWindow-kept now has done.writes.elements

      -- the bits that were kept, when all were asked about
      pub moved-all : window.len ≤ index → IsFiltered (AsksNext g) (0, first) (list_in b at old window) (take kept (list_in b at now window))
      moved-all past =
          let long = length-list at has in
          subst (λ (l : List Bool). IsFiltered (AsksNext g) (0, first) (list_in b at old window) l) (append-nil (take kept (list_in b at now window)))
          (done.asked [] (keeps-none (list_in b at old window) index pred (omega arith)))

      module _ (below : index < window.len) {bit : Bool} (read : bit ≡ slice_index_or (list_in b at now window) index false) (next : P) where
        -- the bit is as it was
        pub moved-bit : bit ≡ slice_index_or (list_in b at old window) index false
        moved-bit =
            read ∙ same-later (list_in b at now window) (list_in b at old window) kept index done.order done.rest

        pub moved-no : Asks g pred index bit false next → Moved first b at old window next now (index + 1) kept
        moved-no asks =
            let long = length-list at has in
            let order = done.order in
            let asked = subst (λ (x : Bool). Asks g pred index x false next) moved-bit asks in
            record {
              order = omega arith;
              writes = done.writes;
              rest = done.rest;
              asked = λ more is. done.asked more (keeps-no (list_in b at old window) more index pred next (omega arith) asked is);
            }

        pub moved-yes : {after : List ℕ} → Asks g pred index bit true next → Writes b at now after window (slice_set (list_in b at now window) kept bit)
            → Moved first b at old window next after (index + 1) (kept + 1)
        moved-yes {after} asks wrote =
            let before = list_in b at old window in
            let list = list_in b at now window in
            let long = length-list at has in
            let size = length-list at moved-window in
            let order = done.order in
            let held : list_in b at after window ≡ slice_set list kept bit = Writes-holds moved-window wrote in
            let asked = subst (λ (x : Bool). Asks g pred index x true next) moved-bit asks in
            record {
              order = omega arith;
              writes = Writes-is (Writes-then has done.writes wrote) (sym held);
              rest = ap (drop (kept + 1)) held ∙ set-behind list kept bit (omega arith) ∙ sym (drop-drop 1 kept list) ∙ ap (drop 1) done.rest ∙ drop-drop 1 kept before;
              asked = λ more is.
                  subst (λ (l : List Bool). IsFiltered (AsksNext g) (0, first) before l)
                  (sym (ap (λ (l : List Bool). take (kept + 1) l ++ more) held ∙ ap (λ (l : List Bool). l ++ more) (take_more_set list kept bit (omega arith)) ∙ append_assoc (take kept list) (bit ∷ []) more))
                  (done.asked (bit ∷ more)
                  (subst (λ (x : Bool). KeepsFrom before index pred (x ∷ more)) (sym moved-bit) (keeps-yes before more index pred next (omega arith) asked is)));
            }
