-- The middle of a borrowed slice is lent under a new name, and the slice's name follows that: in the place of the middle stands what is left there, the elements before and behind it as they were.
--     whole front mid rest ws     the list with ws in the middle's place, cut or filled up to as many
--     lends_mid     from the slice's borrow:  ⊢ ⇛ ∃ δ. own_val (the slice of the middle under δ) ∗ [κ]_q ∗ follows (Array X 0) (Array X 0) γ δ whole
-- Assumes `Logic`.
use mathlib.Core.Path.{◌≡◌, refl, sym, ap, ◌∙◌}
use Prim.Native.Nat.{ℕ, ◌+◌}
use lib.ListN.{length, drop}
use lib.Seq.{take_at}
use base.Stored.{Gv, coded_list}
use mathlib.Core.List.{List, [], ◌∷◌, ◌++◌}
use seplogic.Ra.Ura.{Ura}
use mir.Syntax.{Lifetime}
use base.Logic.{SProp, ent, sep, ex}
use base.Fml.{Lft, GName, Share, Fml, fsep, fobs, fbor, flft}
use types.Logic.{Logic, sem}
use types.Kit.{‵, use1, use2, ◌⊛◌, some, later, await, ◌$◌, ◌∵◌, !, qed, move, pick, show, split, split3, group, rewrite, fsplit, fjoin, feq_i, feq_l, updating, now as at_once, done}
use types.Mut.{open_ref}
use types.SemTy.{Body, Arr, cells}
use types.Follow.{takes_part}
use borrow.Table.Elements.{at, cut_app, join_app, length_app}
use denote.RattleType.{RattleType}
use denote.Memory.{mem}
use denote.Follow.{follows}
use denote.Array.{Array}
use denote.Slice.{MutSlice, Room, slice_val}
use denote.FollowSlice.{slice_of}
use Rattle.std.specs.List.{refill}

-- The list with `ws`, cut or filled up to as many as `mid` has, in the place of `mid`.
abbrev pub whole : {X : Type 0} → List X → List X → List X → List X → List X
whole front mid rest ws = front ++ (refill (length mid) mid ws ++ rest)

module _ {M : Type 1} {𝓤 : Ura M} (𝓛 : Logic 𝓤) (X : RattleType) (ℓ : Lifetime) (κ : Lft) (b o : ℕ) (γ : GName) (front mid rest : List X.Denot) where
  open 𝓛 use {H, A}

  abbrev all : List X.Denot
  all = front ++ (mid ++ rest)

  -- where the middle begins, and what is behind it
  abbrev from : ℕ
  from = at o (mem X).size (length front)

  abbrev behind : ℕ
  behind = at from (mem X).size (length mid)

  abbrev Outside : Fml
  Outside = fsep (cells (mem X) front b o) (cells (mem X) rest b behind)

  back : (ws : List X.Denot) → ent 𝓤 (sep 𝓤 (sem 𝓛 ((Arr (mem X) (length mid)).own_at ws b from)) (sem 𝓛 Outside)) (sem 𝓛 ((Arr (mem X) (length all)).own_at (whole front mid rest ws) b o))
  back ws = qed 𝓛 (‵ ((Arr (mem X) (length mid)).own_at ws b from) ∷ ‵ Outside ∷ []) ∵ fsplit ! $ feq_l ! (λ e.
      let all_of : refill (length mid) mid ws ≡ ws = take_at ws (drop (length ws) mid) (length mid) e in
      let same : whole front mid rest ws ≡ front ++ (ws ++ rest) = ap (λ (l : List X.Denot). front ++ (l ++ rest)) all_of in
      let long : length (front ++ (ws ++ rest)) ≡ length all =
      length_app front (ws ++ rest) ∙ ap (λ (n : ℕ). length front + n) (length_app ws rest ∙ ap (λ (n : ℕ). n + length rest) e ∙ sym (length_app mid rest)) ∙ sym (length_app front (mid ++ rest)) in
      move ! (1 ∷ []) $ fsplit ! $
      -- [the cells before; those behind; the middle's]
      rewrite ! 1 (λ (k : ℕ). ‵ (cells (mem X) rest b (at from (mem X).size k))) (sym e) refl $ move ! (2 ∷ 1 ∷ []) $
      use2 𝓛 (‵ (cells (mem X) (ws ++ rest) b from)) (join_app 𝓛 (mem X) ws rest b from) $ move ! (1 ∷ 0 ∷ []) $
      use2 𝓛 (‵ (cells (mem X) (front ++ (ws ++ rest)) b o)) (join_app 𝓛 (mem X) front (ws ++ rest) b o) $
      rewrite ! 0 (λ (l : List X.Denot). ‵ (cells (mem X) l b o)) (sym same) refl $
      feq_i ! ℕ (length (whole front mid rest ws)) (length all) (ap length same ∙ long) $ fjoin ! $ done !)

  -- The middle is lent as a slice under the new name, and the whole slice's name follows it.
  abbrev pub LentMid : Share → GName → SProp 𝓤
  LentMid q δ = sep 𝓤 (sem 𝓛 ((MutSlice ℓ κ X).own_val (record { ref_ptr = (b, from); ghost_name = δ; now = mid }) (slice_val (b, from) (length mid) ∷ []))) (sep 𝓤 (A.lft κ q) (sem 𝓛 (follows (Array X 0) (Array X 0) γ δ (whole front mid rest))))

  -- A borrowed slice may lend its middle under a new name.
  pub lends_mid : Room X (length mid) → (q : Share) → ent 𝓤 (sep 𝓤 (A.obs γ ((coded_list X.coded).code all)) (sep 𝓤 (A.bor κ (Body (Arr (mem X) (length all)) b o γ)) (A.lft κ q))) (H.⇛ (ex 𝓤 (LentMid q)))
  lends_mid rm q =
      let code : Gv = (coded_list X.coded).code all in
      qed 𝓛 (‵ (fobs γ code) ∷ ‵ (fbor κ (Body (Arr (mem X) (length all)) b o γ)) ∷ ‵ (flft κ q) ∷ []) ∵ updating ! $ open_ref ! tt (Arr (mem X) (length all)) {x = all} $ fsplit ! $ feq_l ! (λ _.
      use1 𝓛 (‵ (cells (mem X) front b o) ⊛ ‵ (cells (mem X) (mid ++ rest) b from)) (cut_app 𝓛 (mem X) front (mid ++ rest) b o) $ split ! $ move ! (1 ∷ []) $
      use1 𝓛 (‵ (cells (mem X) mid b from) ⊛ ‵ (cells (mem X) rest b behind)) (cut_app 𝓛 (mem X) mid rest b from) $ split ! $
      -- [the middle's cells; those behind; those before; the open borrow; the name]
      feq_i ! ℕ (length mid) (length mid) refl $ fjoin ! $ move ! (2 ∷ 1 ∷ []) $ fjoin ! $ move ! (2 ∷ 3 ∷ 4 ∷ 1 ∷ 0 ∷ []) $ group ! 5 $
      use1 𝓛 (later (some (λ (δ : GName). ‵ (fobs δ ((coded_list X.coded).code mid)) ⊛ ‵ (fbor κ (Body (Arr (mem X) (length mid)) b from δ)) ⊛ ‵ (flft κ q) ⊛ ‵ (follows (Array X 0) (Array X 0) γ δ (whole front mid rest)))))
      (takes_part 𝓛 (Arr (mem X) (length all)) (Arr (mem X) (length mid)) (whole front mid rest) κ q b o b from γ (sem 𝓛 Outside) back code code mid) $ await ! tt $ pick ! (λ δ. split3 ! $
      use2 𝓛 (‵ ((MutSlice ℓ κ X).own_val (record { ref_ptr = (b, from); ghost_name = δ; now = mid }) (slice_val (b, from) (length mid) ∷ []))) (slice_of 𝓛 X ℓ κ b from δ mid rm) $ at_once ! $ show ! (LentMid q) δ $ done !))
