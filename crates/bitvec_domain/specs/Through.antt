-- A struct that holds a `&mut [T]` as its first field lends what that points at, and follows what is left there.
--     counts, slice_out, slice_in      `denote.Through`'s steps for a slice reference in memory, which it keeps to itself
--     Flat X a ν args types Fs      the struct with its ghost fields let go: a `&'a mut [X]` and the fields Fs
--     lends_slice      from the struct's borrow:  ⊢ ⇛ ∃ γ'. own_val (the slice under γ') ∗ [κ]_q ∗ follows R (Array X 0) γ γ' (F s)
--     lends_part_of    the same of the slice's middle, where it is `front ++ (mid ++ rest)`:  .. ∗ follows R (Array X 0) γ δ (λ ws. F s (whole front mid rest ws))
-- R is the struct's type, `view s` its fields' values, and F s ws the struct s with the list ws in the slice's place, which it may cut or fill up to the old length. So its ghost fields may ask for that length: the way back is asked only at lists that are as long (`types.Through`). Assumes `Logic`.
use mathlib.Core.Path.{◌≡◌, refl, sym, ap, ◌∙◌}
use Prim.Native.Nat.{ℕ, ◌+◌}
use lib.ListN.{length, drop}
use lib.Seq.{take_at}
use base.Stored.{coded_list}
use mathlib.Core.List.{List, [], ◌∷◌, ◌++◌}
use seplogic.Ra.Ura.{Ura}
use base.Fraction.{full_share}
use mir.Syntax.{Lifetime, Sym}
use mir.Val.{Val}
use base.Logic.{SProp, ent, sep, ex, all, guard, apply∗, all_e}
use base.Fml.{Lft, Incl, GName, Share, Fml, fsep, fobs, fbor, flft}
use types.Logic.{Logic, sem}
use types.Kit.{‵, raw, check, use1, use2, ◌⊛◌, some, later, await, ◌$◌, ◌∵◌, !, qed, move, use3, pick, show, split, split3, rewrite, fsplit, fsplit3, fjoin, fjoin3, fpick, fpack, feq_i, feq_l, updating, now as at_once, done}
use types.SemTy.{Body, Arr}
use types.Through.{hands_through}
use denote.RattleType.{RattleType}
use denote.Memory.{mem, cell_at, part_at, part_of}
use denote.Ref.{NamedLft, MutBor, at_last}
use denote.Follow.{follows, follows_then}
use denote.Array.{Array}
use denote.Slice.{MutSlice, room, Room, mut_slice_vals, slice_val}
use denote.FollowSlice.{heres_id, slice_of}
use denote.Through.{renamed}
use denote.Struct.Field.{Field, row_field}
use denote.Struct.Values.{Values, intos, intos_one}
use denote.Struct.Declared.{Declared, row}
use denote.Struct.Loose.{Looses}
use borrow.Table.Elements.{at}
use borrow.Struct.Apart.{apart}
use borrow.Struct.Open.{Way, field_open}
use Rattle.std.specs.List.{refill}
use Rattle.bitvec_domain.specs.Middle.{whole, lends_mid}

module _ {M : Type 1} {𝓤 : Ura M} (𝓛 : Logic 𝓤) (T : RattleType) (ℓ' : Lifetime) (κ' : Lft) (h : MutBor (List T.Denot)) (b o : ℕ) where
  open 𝓛 use {A}

  -- The type of the slice reference.
  abbrev pub Sl : RattleType
  Sl = MutSlice ℓ' κ' T

  abbrev n : ℕ
  n = length h.now

  abbrev Held : GName → Fml
  Held δ = Body (Arr (mem T) n) h.ref_ptr.0 h.ref_ptr.1 δ

  abbrev Cellˢ : Fml
  Cellˢ = cell_at full_share Sl.mir (mut_slice_vals h) b o

  -- The reference's own cell and the room for its elements.
  abbrev pub Kept : SProp 𝓤
  Kept = sem 𝓛 (fsep Cellˢ (room T n))

  -- The slice's elements are now `ws`, borrowed under its name, with what its cell keeps.
  abbrev pub Has : List T.Denot → SProp 𝓤
  Has ws = sep 𝓤 (A.obs h.ghost_name ((coded_list T.coded).code ws)) (sep 𝓤 (A.bor κ' (Held h.ghost_name)) Kept)

  -- A memory of `n` elements of a type holds a list of `n` values.
  pub counts : (ws : List T.Denot) → ent 𝓤 (sem 𝓛 ((Arr (mem T) n).own_at ws h.ref_ptr.0 h.ref_ptr.1)) (guard 𝓤 (length ws ≡ n) (sem 𝓛 ((Arr (mem T) n).own_at ws h.ref_ptr.0 h.ref_ptr.1)))
  counts ws = qed 𝓛 (‵ ((Arr (mem T) n).own_at ws h.ref_ptr.0 h.ref_ptr.1) ∷ []) ∵ fsplit ! $ feq_l ! (λ e. check ! e $ feq_i ! ℕ (length ws) n e $ done !)

  -- A slice reference in memory gives its borrow and what its cell keeps.
  pub slice_out : ent 𝓤 (sem 𝓛 (part_at Sl full_share h b o)) (Has h.now)
  unfolding part_of
  slice_out = qed 𝓛 (‵ (part_at Sl full_share h b o) ∷ []) ∵ fpick ! (λ vs. fsplit ! $ move ! (1 ∷ []) $ fsplit3 ! $ fsplit ! $ feq_l ! (λ e.
      rewrite ! 3 (λ (us : List Val). ‵ (cell_at full_share Sl.mir us b o)) e refl $
      rewrite ! 1 (λ (l : List T.Denot). ‵ (fobs h.ghost_name ((coded_list T.coded).code l))) (heres_id T h.now) refl $ move ! (1 ∷ 2 ∷ 3 ∷ 0 ∷ []) $ done !))

  -- A borrow with a list of the same length, and what the cell keeps, give the slice reference back.
  pub slice_in : (ws : List T.Denot) → length ws ≡ n → ent 𝓤 (Has ws) (sem 𝓛 (part_at Sl full_share (at_last h ws) b o))
  unfolding part_of
  slice_in ws e = qed 𝓛 (‵ (fobs h.ghost_name ((coded_list T.coded).code ws)) ∷ ‵ (fbor κ' (Held h.ghost_name)) ∷ ‵ (fsep Cellˢ (room T n)) ∷ []) ∵
      rewrite ! 0 (λ (l : List T.Denot). ‵ (fobs h.ghost_name ((coded_list T.coded).code l))) (sym (heres_id T ws)) refl $
      rewrite ! 1 (λ (k : ℕ). ‵ (fbor κ' (Body (Arr (mem T) k) h.ref_ptr.0 h.ref_ptr.1 h.ghost_name))) (sym e) refl $
      rewrite ! 2 (λ (k : ℕ). ‵ (fsep (cell_at full_share Sl.mir (slice_val h.ref_ptr k ∷ []) b o) (room T k))) (sym e) refl $
      move ! (2 ∷ []) $ fsplit ! $ move ! (1 ∷ []) $ feq_i ! (List Val) (mut_slice_vals (at_last h ws)) (mut_slice_vals (at_last h ws)) refl $ fjoin ! $ move ! (0 ∷ 2 ∷ 3 ∷ []) $ fjoin3 ! $ move ! (1 ∷ 0 ∷ []) $ fjoin ! $
      fpack ! (List Val) (λ us. fsep (cell_at full_share Sl.mir us b o) (Sl.own_val (at_last h ws) us)) (mut_slice_vals (at_last h ws)) $ done !

-- The fields behind the first one.
abbrev pub tail : List Field → List Field
tail [] = []
tail (F ∷ Fs) = Fs

module _ (X : RattleType) (a : NamedLft) (ν : Sym) (args : List Lifetime) (types : List RattleType) (Fs : List Field) where
  -- The struct's fields: an exclusive slice of `X`, and the fields `Fs`.
  abbrev pub parts : List Field
  parts = row_field (MutSlice a.mir a.lft X) ∷ Fs

  -- The struct with its ghost fields let go.
  abbrev pub Flat : Declared
  Flat = record {
    name = ν;
    args = args;
    types = types;
    parts = parts;
    D = Values parts;
    to = intos parts;
    to_one = intos_one parts;
    as_values = λ v. v;
    to_is = λ v. refl;
    cover = record { Ghost = λ v. Unit {0}; ghosts = λ v. tt; make = λ v g. v; eta = λ v. refl; beta = λ v g. refl };
    propositions = λ v x y. refl;
  }

module _ {M : Type 1} {𝓤 : Ura M} (𝓛 : Logic 𝓤) (X : RattleType) (a : NamedLft) (ν : Sym) (args : List Lifetime) (types : List RattleType) (Fs : List Field) (loose : Looses (parts X a ν args types Fs))
    (R : RattleType) (view : R.Denot → Values (parts X a ν args types Fs)) (F : R.Denot → List X.Denot → R.Denot)
    (same : (s : R.Denot) (b o : ℕ) → part_at R full_share s b o ≡ part_at (row (Flat X a ν args types Fs)) full_share (view s) b o)
    (put : (s : R.Denot) (ws : List X.Denot) → view (F s ws) ≡ (at_last (view s).0 (refill (length (view s).0.now) (view s).0.now ws), (view s).1)) where
  open 𝓛 use {H, A}

  abbrev N : Declared
  N = Flat X a ν args types Fs

  abbrev Slice : RattleType
  Slice = MutSlice a.mir a.lft X

  module _ (ℓ : Lifetime) (κ : Lft) (inc : Incl κ a.lft) (s : R.Denot) (b o : ℕ) (γ : GName) where
    abbrev h : MutBor (List X.Denot)
    h = (view s).0

    abbrev To : MutBor (List X.Denot) → SProp 𝓤
    To = Way N 0 0 𝓛 full_share (view s) b o

    abbrev Held' : GName → Fml
    Held' δ = Body (Arr (mem X) (length h.now)) h.ref_ptr.0 h.ref_ptr.1 δ

    abbrev Around : SProp 𝓤
    Around = sep 𝓤 (Kept 𝓛 X a.mir a.lft h b (o + 0)) (all 𝓤 To)

    cut : ent 𝓤 (sem 𝓛 ((mem R).own_at s b o)) (sep 𝓤 (A.obs h.ghost_name ((coded_list X.coded).code h.now)) (sep 𝓤 (A.bor a.lft (Held' h.ghost_name)) Around))
    cut = qed 𝓛 (‵ (part_at R full_share s b o) ∷ []) ∵ rewrite ! 0 (λ (P : Fml). ‵ P) (same s b o) refl $
        use1 𝓛 (‵ (part_at Slice full_share h b (o + 0)) ⊛ raw (all 𝓤 To)) (field_open N 0 0 𝓛 refl loose full_share refl (view s) b o) $ split ! $
        use1 𝓛 (‵ (fobs h.ghost_name ((coded_list X.coded).code h.now)) ⊛ ‵ (fbor a.lft (Held' h.ghost_name)) ⊛ raw (Kept 𝓛 X a.mir a.lft h b (o + 0))) (slice_out 𝓛 X a.mir a.lft h b (o + 0)) $ split3 ! $ done !

    back : (ws : List X.Denot) → length ws ≡ length h.now
        → ent 𝓤 (sep 𝓤 (A.obs h.ghost_name ((coded_list X.coded).code ws)) (sep 𝓤 (A.bor a.lft (Held' h.ghost_name)) Around)) (sem 𝓛 ((mem R).own_at (F s ws) b o))
    back ws long =
        let all_of : refill (length h.now) h.now ws ≡ ws = take_at ws (drop (length ws) h.now) (length h.now) long in
        let w : Values N.parts = (at_last h ws, (view s).1) in
        let is : view (F s ws) ≡ w = put s ws ∙ ap (λ (xs : List X.Denot). (at_last h xs, (view s).1)) all_of in
        qed 𝓛 (‵ (fobs h.ghost_name ((coded_list X.coded).code ws)) ∷ ‵ (fbor a.lft (Held' h.ghost_name)) ∷ raw (Kept 𝓛 X a.mir a.lft h b (o + 0)) ∷ raw (all 𝓤 To) ∷ []) ∵
        use3 𝓛 (‵ (part_at Slice full_share (at_last h ws) b (o + 0))) (slice_in 𝓛 X a.mir a.lft h b (o + 0) ws long) $ move ! (1 ∷ []) $
        use1 𝓛 (raw (To (at_last h ws))) (all_e 𝓤 To (at_last h ws)) $ move ! (1 ∷ 0 ∷ []) $
        use2 𝓛 (‵ (part_at (apart N) full_share w b o)) (apply∗ 𝓤 (sem 𝓛 (part_at Slice full_share (at_last h ws) b (o + 0))) (sem 𝓛 (part_at (apart N) full_share w b o))) $
        rewrite ! 0 (λ (P : Fml). ‵ P) (sym (same (F s ws) b o ∙ ap (λ (v : Values N.parts). part_at (row N) full_share v b o) is)) refl $ done !

    abbrev Gone : Share → GName → SProp 𝓤
    Gone q γ' = sep 𝓤 (A.obs γ' ((coded_list X.coded).code h.now)) (sep 𝓤 (A.bor κ (Held' γ')) (sep 𝓤 (A.lft κ q) (sem 𝓛 (follows R (Array X 0) γ γ' (F s)))))

    lends_held : (q : Share) → ent 𝓤 (sep 𝓤 (A.obs γ (R.coded.code s)) (sep 𝓤 (A.bor κ (Body (mem R) b o γ)) (A.lft κ q))) (H.⇛ (ex 𝓤 (Gone q)))
    lends_held q = hands_through 𝓛 (mem R) (Arr (mem X) (length h.now)) (F s) κ a.lft inc b o h.ref_ptr.0 h.ref_ptr.1 γ h.ghost_name Around (λ ws. length ws ≡ length h.now) (counts 𝓛 X a.mir a.lft h b (o + 0)) back q s h.now cut

    -- The slice is lent under the new name, and the struct's name follows it.
    abbrev pub Lent : Share → GName → SProp 𝓤
    Lent q γ' = sep 𝓤 (sem 𝓛 ((MutSlice ℓ κ X).own_val (renamed h γ') (mut_slice_vals h))) (sep 𝓤 (A.lft κ q) (sem 𝓛 (follows R (Array X 0) γ γ' (F s))))

    -- A borrowed struct may lend the slice that its first field points at.
    pub lends_slice : Room X (length h.now) → (q : Share) → ent 𝓤 (sep 𝓤 (A.obs γ (R.coded.code s)) (sep 𝓤 (A.bor κ (Body (mem R) b o γ)) (A.lft κ q))) (H.⇛ (ex 𝓤 (Lent q)))
    lends_slice rm q =
        qed 𝓛 (‵ (fobs γ (R.coded.code s)) ∷ ‵ (fbor κ (Body (mem R) b o γ)) ∷ ‵ (flft κ q) ∷ []) ∵ updating ! $
        use3 𝓛 (later (some (λ (γ' : GName). ‵ (fobs γ' ((coded_list X.coded).code h.now)) ⊛ ‵ (fbor κ (Held' γ')) ⊛ ‵ (flft κ q) ⊛ ‵ (follows R (Array X 0) γ γ' (F s))))) (lends_held q) $
        await ! tt $ pick ! (λ γ'. split3 ! $ use2 𝓛 (‵ ((MutSlice ℓ κ X).own_val (renamed h γ') (mut_slice_vals h))) (slice_of 𝓛 X ℓ κ h.ref_ptr.0 h.ref_ptr.1 γ' h.now rm) $ at_once ! $ show ! (Lent q) γ' $ done !)

    module _ (front mid rest : List X.Denot) (all : h.now ≡ front ++ (mid ++ rest)) where
      abbrev from : ℕ
      from = at h.ref_ptr.1 (mem X).size (length front)

      -- The slice's middle is lent under the new name, and the struct's name follows it.
      abbrev pub LentPart : Share → GName → SProp 𝓤
      LentPart q δ = sep 𝓤 (sem 𝓛 ((MutSlice ℓ κ X).own_val (record { ref_ptr = (h.ref_ptr.0, from); ghost_name = δ; now = mid }) (slice_val (h.ref_ptr.0, from) (length mid) ∷ []))) (sep 𝓤 (A.lft κ q) (sem 𝓛 (follows R (Array X 0) γ δ (λ ws. F s (whole front mid rest ws)))))

      -- A borrowed struct may lend the middle of the slice that its first field points at.
      pub lends_part_of : Room X (length mid) → (q : Share) → ent 𝓤 (sep 𝓤 (A.obs γ (R.coded.code s)) (sep 𝓤 (A.bor κ (Body (mem R) b o γ)) (A.lft κ q))) (H.⇛ (ex 𝓤 (LentPart q)))
      lends_part_of rm q =
          qed 𝓛 (‵ (fobs γ (R.coded.code s)) ∷ ‵ (fbor κ (Body (mem R) b o γ)) ∷ ‵ (flft κ q) ∷ []) ∵ updating ! $
          use3 𝓛 (later (some (λ (γ' : GName). ‵ (fobs γ' ((coded_list X.coded).code h.now)) ⊛ ‵ (fbor κ (Held' γ')) ⊛ ‵ (flft κ q) ⊛ ‵ (follows R (Array X 0) γ γ' (F s))))) (lends_held q) $
          await ! tt $ pick ! (λ γ'. split3 ! $ move ! (2 ∷ []) $ split ! $ move ! (2 ∷ 3 ∷ 0 ∷ 1 ∷ []) $
          -- [the name; the borrow; the token; the struct follows the name]
          rewrite ! 0 (λ (l : List X.Denot). ‵ (fobs γ' ((coded_list X.coded).code l))) all refl $
          rewrite ! 1 (λ (l : List X.Denot). ‵ (fbor κ (Body (Arr (mem X) (length l)) h.ref_ptr.0 h.ref_ptr.1 γ'))) all refl $
          use3 𝓛 (later (some (λ (δ : GName). ‵ ((MutSlice ℓ κ X).own_val (record { ref_ptr = (h.ref_ptr.0, from); ghost_name = δ; now = mid }) (slice_val (h.ref_ptr.0, from) (length mid) ∷ [])) ⊛ ‵ (flft κ q) ⊛ ‵ (follows (Array X 0) (Array X 0) γ' δ (whole front mid rest)))))
          (lends_mid 𝓛 X ℓ κ h.ref_ptr.0 h.ref_ptr.1 γ' front mid rest rm q) $ await ! tt $ pick ! (λ δ. split3 ! $ move ! (3 ∷ 2 ∷ []) $
          use2 𝓛 (‵ (follows R (Array X 0) γ δ (λ ws. F s (whole front mid rest ws)))) (follows_then 𝓛 R (Array X 0) (Array X 0) (F s) (whole front mid rest) γ γ' δ) $
          move ! (1 ∷ 2 ∷ 0 ∷ []) $ at_once ! $ show ! (LentPart q) δ $ done !))
