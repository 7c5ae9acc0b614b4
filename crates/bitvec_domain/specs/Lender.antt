-- `fn elements_mut(&mut self) -> &mut [T] { &mut *self.elements }`, proved once for every struct whose first field is `elements: &'a mut [T]`.
--     function T N ν τs       the code, at a struct of the name ν with the fields τs behind the first
--     ended, clauses          its contract: the struct, of the type R a at the lifetime a, follows the result by F, and the result is at first what the field pointed at
--     lends_first             the code meets the contract
-- What it asks of the struct is plain: its type's raw form (`is_raw`), what its machine value is (`told`), and that it is its fields and a proof (`same`), with `view`, `put` and `loose` as `Through.antt` has them. Assumes `Logic`.
use Prim.Native.Nat.{ℕ, suc}
use mathlib.Core.Path.{◌≡◌, refl, sym}
use mathlib.Core.List.{List, [], ◌∷◌}
use lib.ListN.{length}
use seplogic.Ra.Ura.{Ura}
use base.Fraction.{full_share}
use base.Logic.{SProp, sep, emp}
use base.Fml.{Lft, Share, GName, fsep, fat, flft}
use mir.Syntax.{Fn, Body, Ty, Tys, Sym, Lifetime, Callee, named, erased, mut, w64, ty_ref, ty_struct, ty_named, ty_int, ty_param, tcons, tnil, local, value_local, place, deref, field, copy, rv_opd, addr_of, aggregate, assign, seq, return}
use mir.Raw.{raw as raw_ty}
use mir.Val.{Val, Vals, vstruct, vcons, vnil}
use prog.Model.{Model}
use prog.Wp.{Closed}
use contract.Running.{Running, tables}
use contract.Lifetimes.{toks}
use contract.Monad.{fact}
use types.Logic.{Logic, sem}
use types.Kit.{‵, raw, ◌⊛◌, some, later, ◌$◌, ◌∵◌, !, qed, move, keep, use1, use3, split, split3, join, pick, await, rewrite, fsplit, fsplit3, fjoin, fpick, fpack, suffices, frame, done}
use types.Part.{whole, sub, agg, look_in}
use types.Run.{stop, fld, hop, addr, load, of_opd, and_then, no_more, returns, enter}
use types.ByLocal.{alloc_all, pass_all, free_all, look_at, get, through, sets}
use types.Mut.{open_ref, close_ref}
use denote.Exit.{no}
use denote.RattleType.{RattleType, owns}
use denote.Laws.{Is, shows}
use denote.Memory.{mem, cell_at, cell_raw, raw_all, part_at, part_of}
use denote.Param.{layout, copied}
use denote.Slice.{MutSlice, Room, slice_ty, mut_slice_vals, slice_val}
use denote.Array.{Array}
use denote.Follow.{follows}
use denote.Through.{renamed}
use denote.Ref.{NamedLft, MutBor, at_last, mut_vals, mut_Tells}
use denote.Signature.{Signature, Slot, plain, mut_ref_to, mut_slice_of, types_at, named_lft}
use denote.Steps.{nothing, peeks}
use denote.Struct.Field.{Field}
use denote.Struct.Values.{Values}
use denote.Struct.Declared.{row}
use denote.Struct.Loose.{Looses}
use denote.Triple.Clauses.{Ended, Clauses, closing}
use denote.Triple.Spec.{Meets}
use denote.Triple.Walked.{Stays, stay_dropped, walk_of, ends_at, says, Goes-spent_ref}
use Rattle.std.specs.List.{refill}
use Rattle.std.proofs.raw_atomic.Walks.{proved}
use Rattle.bitvec_domain.specs.Arity.{Arity, lived}
use Rattle.bitvec_domain.specs.Through.{parts, Flat, lends_slice}

-- The types of the fields behind the first of a struct's type.
abbrev pub behind_ty : Ty → Tys
behind_ty (ty_struct ν (tcons τ τs)) = τs
behind_ty τ = tnil

-- The values of the fields behind the first of a struct's machine value.
abbrev pub behind : Val → Vals
behind (vstruct (vcons v vs)) = vs
behind v = vnil

module _ (T : RattleType) (N : Arity) (ν : Sym) (τs : Tys) where
  -- The type of the field `elements` at the lifetime.
  abbrev pub elements_ty : Lifetime → Ty
  elements_ty ℓ = slice_ty (ty_ref ℓ mut (ty_param 0))

  -- the struct, as the code reads it
  abbrev pub spelled : Ty
  spelled = ty_struct ν (tcons (elements_ty erased) τs)

  -- The method's code: it reads the field's length and address, and gives a reference of both.
  abbrev pub body : Body
  body =
      seq (assign (place 2 []) (rv_opd (copy (place 1 (deref spelled ∷ field 0 ∷ field 1 ∷ [])))))
      (seq (assign (place 3 []) (addr_of (place 1 (deref spelled ∷ field 0 ∷ field 0 ∷ deref (layout T) ∷ []))))
      (seq (assign (place 0 []) (aggregate (copy (place 3 []) ∷ copy (place 2 []) ∷ []))) return))

  -- The method, as the machine has it, at a struct of the name `ν` with the fields `τs` behind the first.
  abbrev pub function : Fn
  function = record {
    lifetimes = 2;
    outlives = (1, 0) ∷ N.coded;
    ty_params = [];
    givens = 0;
    params = 1;
    locals = local (elements_ty (named 0)) value_local
        ∷ local (ty_ref (named 0) mut (ty_named (ν, named 1 ∷ []) N.args)) value_local
        ∷ local (ty_int w64) value_local
        ∷ local (ty_ref erased mut (ty_param 0)) value_local ∷ [];
    body = body;
  }

module _ (T : RattleType) (N : Arity) (R : NamedLft → RattleType) (slice : (a : NamedLft) → (R a).Denot → MutBor (List T.Denot)) (F : (a : NamedLft) → (R a).Denot → List T.Denot → (R a).Denot) where
  abbrev X : RattleType
  X = copied 0 T

  -- The struct's type at its own lifetime, as the method's parameter borrows it.
  abbrev pub slot : Slot (suc (suc N.more))
  slot = plain {n = suc (suc N.more)} (λ κs. R (named_lft (suc (suc N.more)) 1 tt κs))

  -- The method's signature: it borrows the struct exclusively and gives an exclusive slice of the same lifetime.
  abbrev pub signature : Signature
  signature = record {
    lifetimes = suc (suc N.more);
    outlives = record { long = 1; long_ok = tt; short = named 0; short_ok = tt } ∷ N.bounds;
    params = mut_ref_to (0 ∷ []) tt slot ∷ [];
    result = mut_slice_of (0 ∷ []) tt (plain (λ κs. X));
  }

  -- The signature, with no parameter kept for the contract's end.
  abbrev pub ended : Ended
  ended = record { signature = signature; kept = (no, tt) }

  -- The contract: the struct follows the result, which is at first the slice that the field pointed at.
  abbrev pub clauses : {M : Type 1} {𝓤 : Ura M} (𝓛 : Logic 𝓤) → Clauses 𝓤 ended
  clauses {𝓤 = 𝓤} 𝓛 κs a = record {
    ghost = Unit {0};
    requires = λ _. lived 𝓤 (N.facts κs) (emp 𝓤);
    ensures = λ _ r _. sep 𝓤 (sem 𝓛 (follows (R (named_lft (suc (suc N.more)) 1 tt κs)) (Array X 0) a.0.ghost_name r.ghost_name (F (named_lft (suc (suc N.more)) 1 tt κs) a.0.now))) (fact 𝓤 (r.now ≡ (slice (named_lft (suc (suc N.more)) 1 tt κs) a.0.now).now));
  }

  abbrev stays : Stays ended.signature.params ended.kept
  stays = (stay_dropped (mut_ref_to (0 ∷ []) tt slot) no, tt)

module _ (T : RattleType) (N : Arity) (ν : Sym) (τs : Tys) (R : NamedLft → RattleType) (args : NamedLft → List Lifetime) (types : NamedLft → List RattleType) (Fs : NamedLft → List Field)
    (view : (a : NamedLft) → (R a).Denot → Values (parts (copied 0 T) a ν (args a) (types a) (Fs a))) (F : (a : NamedLft) → (R a).Denot → List T.Denot → (R a).Denot)
    (loose : (a : NamedLft) → Looses (parts (copied 0 T) a ν (args a) (types a) (Fs a)))
    (same : (a : NamedLft) (s : (R a).Denot) (b e : ℕ) → part_at (R a) full_share s b e ≡ part_at (row (Flat (copied 0 T) a ν (args a) (types a) (Fs a))) full_share (view a s) b e)
    (put : (a : NamedLft) (s : (R a).Denot) (ws : List T.Denot) → view a (F a s ws) ≡ (at_last (view a s).0 (refill (length (view a s).0.now) (view a s).0.now ws), (view a s).1))
    (others : (a : NamedLft) → (R a).Denot → Vals)
    (is_raw : (a : NamedLft) → raw_all (R a).mir ≡ raw_ty (spelled T N ν τs) ∷ [])
    (told : (a : NamedLft) (s : (R a).Denot) (us : List Val) → Is (R a) s us → (us ≡ vstruct (vcons (slice_val (view a s).0.ref_ptr (length (view a s).0.now)) (others a s)) ∷ []) × Room (copied 0 T) (length (view a s).0.now)) where
  -- The slice that the struct's first field borrows.
  abbrev pub slice_of : (a : NamedLft) → (R a).Denot → MutBor (List T.Denot)
  slice_of a s = (view a s).0

  module _ {M : Type 1} {𝓤 : Ura M} (𝓛 : Logic 𝓤) (𝓜 : Model 𝓤 𝓛.H) (𝓡 : Running 𝓤 𝓛.H 𝓜) where
    -- The method's code meets the contract that `clauses` gives.
    pub lends_first : (k : Callee) → Closed 𝓤 𝓛.H (tables 𝓤 𝓛.H 𝓜 𝓡 𝓡.env).C (tables 𝓤 𝓛.H 𝓜 𝓡 𝓡.env).Λ k (function T N ν τs) → Meets 𝓛 (signature T N R slice_of F) ((tables 𝓤 𝓛.H 𝓜 𝓡 𝓡.env).C k) (closing 𝓛 (ended T N R slice_of F) (clauses T N R slice_of F 𝓛))
    unfolding part_of
    lends_first k closed =
        let 𝓣 = tables 𝓤 𝓛.H 𝓜 𝓡 𝓡.env in
        let Y : RattleType = copied 0 T in
        let En = ended T N R slice_of F in
        let fn : Fn = function T N ν τs in
        let hs : Stays En.signature.params En.kept = (stay_dropped (mut_ref_to (0 ∷ []) tt (slot T N R slice_of F)) no, tt) in
        let con = clauses T N R slice_of F 𝓛 in
        proved 𝓛 En hs con 𝓜 𝓡 (Goes-spent_ref 𝓛 (suc (suc N.more)) (0 ∷ []) tt (slot T N R slice_of F), tt) k fn closed
        (λ κs. (mut_vals, tt)) (λ κs. (mut_Tells (named 0) κs.0 (R (named_lft (suc (suc N.more)) 1 tt κs)), tt)) (λ κs qs bounds a gh are.
        let κ : Lft = κs.0 in
        let q : Share = qs.0 in
        let at = named_lft (suc (suc N.more)) 1 tt κs in
        let G : RattleType = R at in
        let b : ℕ = a.0.ref_ptr.0 in
        let e : ℕ = a.0.ref_ptr.1 in
        let γ : GName = a.0.ghost_name in
        let s : G.Denot = a.0.now in
        let h : MutBor (List Y.Denot) = (view at s).0 in
        let low : Val = vstruct (vcons (slice_val h.ref_ptr (length h.now)) (others at s)) in
        let τ : Ty = spelled T N ν τs in
        let y : (walk_of 𝓛 En hs con).Ghost = ((κs, qs, bounds, a, (mut_vals a.0, tt)), gh) in
        let Post : Val → SProp 𝓤 = (walk_of 𝓛 En hs con).post y in
        let tokens = toks 𝓛 (suc N.more) κs.1 qs.1 in
        qed 𝓛 (((‵ (flft κ q) ⊛ raw tokens) ⊛ ‵ (owns (types_at En.signature.params κs) a (mut_vals a.0, tt))) ∷ raw ((con κs a).requires gh) ∷ []) ∵
        split ! $ split ! $ move ! (2 ∷ []) $ fsplit ! $ fsplit3 ! $ keep ! (1 ∷ 2 ∷ 4 ∷ 5 ∷ []) $
        enter ! 𝓣.C 𝓣.Λ fn (mut_vals a.0) Post $ alloc_all ! (λ l. pass_all ! refl ((tt, tt), tt) $
        open_ref ! tt (mem G) {x = s} $ fpick ! (λ us. fsplit ! $ move ! (1 ∷ []) $ peeks ! G (Is G) (shows 𝓛 G) s us (λ is.
        let word : us ≡ low ∷ [] = (told at s us is).0 in
        let room : Room Y (length h.now) = (told at s us is).1 in
        rewrite ! 1 (λ (ws : List Val). ‵ (cell_at full_share G.mir ws b e)) word refl $ rewrite ! 1 (λ (ρs : List Ty). ‵ (cell_raw full_share ρs (low ∷ []) b e)) (is_raw at) refl $
        move ! (1 ∷ []) $ use1 𝓛 (‵ (fat full_share τ b e low)) (𝓛.laws.raw_at full_share τ b e low) $
        sets ! (of_opd ! (load ! (through ! refl (fld ! refl (fld ! refl (stop !)))) (look_in ! 0 (sub ! 1 refl (sub ! 0 refl (whole !)))))) refl (tt, record { fits = room.0 }) $
        sets ! (addr ! (through ! refl (fld ! refl (fld ! refl (hop ! (look_in ! 0 (sub ! 0 refl (sub ! 0 refl (whole !)))) (stop !)))))) refl (tt, tt) $
        sets ! (agg ! (and_then ! (get ! refl) (and_then ! (get ! refl) (no_more !)))) refl (tt, (tt, (record { fits = room.0 }, tt))) $
        use1 𝓛 (‵ (cell_raw full_share (raw_ty τ ∷ []) (low ∷ []) b e)) (𝓛.laws.at_raw full_share τ b e low) $
        rewrite ! 0 (λ (ρs : List Ty). ‵ (cell_raw full_share ρs (low ∷ []) b e)) (sym (is_raw at)) refl $ rewrite ! 0 (λ (ws : List Val). ‵ (cell_at full_share G.mir ws b e)) (sym word) refl $ fjoin ! $
        fpack ! (List Val) (λ ws. fsep (cell_at full_share G.mir ws b e) (G.own_val s ws)) us $ close_ref ! tt (mem G) s $
        use3 𝓛 (later (some (λ (δ : GName). ‵ ((MutSlice (named 0) κ Y).own_val (renamed h δ) (mut_slice_vals h)) ⊛ ‵ (flft κ q) ⊛ ‵ (follows G (Array Y 0) γ δ (F at s)))))
        (lends_slice 𝓛 Y at ν (args at) (types at) (Fs at) (loose at) G (view at) (F at) (same at) (put at) (named 0) κ bounds.0 s b e γ room q) $ await ! tt $ pick ! (λ δ.
        -- [the result; the token; the struct follows it; the other tokens; the locals]
        split3 ! $ returns ! (look_at ! 0 refl) $ free_all ! refl $ move ! (1 ∷ 3 ∷ []) $ join ! $ keep ! (0 ∷ 1 ∷ 2 ∷ []) $
        suffices ! _ (ends_at 𝓛 En hs con y (slice_val h.ref_ptr (length h.now)) (renamed h δ) (tt, tt) (tt, tt)) $
        nothing ! $ nothing ! $ fjoin ! $ move ! (0 ∷ 2 ∷ []) $ join ! $ move ! (1 ∷ 0 ∷ []) $ join ! $ frame ! $ says ! refl $ done !)))))
