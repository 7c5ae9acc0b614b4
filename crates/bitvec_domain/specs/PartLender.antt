-- `fn elements_part_mut(&mut self, start: usize, end: usize) -> &mut [T] { &mut self.elements[start..end] }`, proved once for every struct whose first field is `elements: &'a mut [T]`.
--     function T N ν τs       the code, at a struct of the name ν with the fields τs behind the first
--     ended, clauses          its contract: the struct, of the type R a at the lifetime a, follows the result by F of the list with what is left in the range's place, and the result is at first what stood there
--     Begins                  a struct's machine value begins with this one
--     begins                  it does where its fields' values are known to be some
--     lends_range             the code meets the contract
-- What it asks of the struct is what `Lender.antt` asks, but of its machine value the first field alone (`begun`). Assumes `Logic`.
use Prim.Native.Nat.{ℕ, zero, suc, ◌+◌, ◌-◌, ◌*◌, ◌^◌, ◌<◌, ◌≤◌}
use native.Mathlib.Omega.{arith}
use native.Mathlib.Nat.{lt_of_le_of_lt, mul-le-mul_right, zero-mul, suc-mul}
use prog.Capped.{capped_is}
use prog.Memory.{capped}
use mathlib.Core.Path.{◌≡◌, refl, sym, ap, subst, ◌∙◌}
use mathlib.Core.List.{List, [], ◌∷◌, ◌++◌}
use lib.ListN.{length, take, drop, length-take, length-drop}
use seplogic.Ra.Ura.{Ura}
use base.Fraction.{full_share}
use base.Logic.{SProp, sep}
use base.Fml.{Lft, Share, GName, fsep, fat, flft}
use mir.Syntax.{Fn, Body, Ty, Tys, Sym, Lifetime, Callee, named, erased, mut, unsigned, mul, sub as minus, offset, size_of, w64, ty_ptr, ty_ref, ty_named, ty_int, ty_param, local, value_local, place, deref, field, copy, op2, rv_opd, addr_of, aggregate, assign, seq, return}
use mir.Raw.{raw as raw_ty}
use mir.Val.{Val, Vals, vstruct, vcons, vptr, vint, of_list}
use prog.Model.{Model}
use prog.Wp.{Closed}
use contract.Running.{Running, tables}
use contract.Lifetimes.{toks}
use contract.Monad.{fact}
use types.Logic.{Logic, sem}
use types.Kit.{‵, raw, ◌⊛◌, some, later, ◌$◌, ◌∵◌, !, qed, move, keep, use1, use3, split, split3, join, pick, await, rewrite, fsplit, fsplit3, fjoin, fpick, fpack, suffices, frame, done}
use types.Part.{whole as all, sub, agg, look_in}
use types.Run.{stop, fld, hop, addr, load, of_opd, bin, size_word, and_then, no_more, returns, enter}
use types.ByLocal.{alloc_all, pass_all, free_all, look_at, get, get_in, through, sets, is}
use types.Mut.{open_ref, close_ref}
use borrow.Table.Elements.{at, at_mul}
use borrow.Rule.Slice.PartMut.{Post-is, put_same}
use denote.Exit.{no, yes}
use denote.RattleType.{RattleType, Valss, flat, owns}
use denote.Laws.{Is, shows}
use denote.Memory.{mem, cell_at, cell_raw, raw_all, part_at, part_of}
use denote.Param.{layout, copied}
use denote.Plain.{uint_vals, uint_Tells}
use denote.Builtin.{usize}
use denote.Slice.{MutSlice, Room, slice_val}
use denote.Array.{Array}
use denote.Follow.{follows}
use denote.Ref.{NamedLft, MutBor, at_last, mut_vals, mut_Tells}
use denote.Signature.{Signature, plain, mut_ref_to, mut_slice_of, types_at, named_lft}
use denote.Steps.{nothing, peeks, heard}
use denote.Struct.Field.{Field}
use denote.Struct.Values.{Values}
use denote.Struct.Declared.{row}
use denote.Struct.Loose.{Looses}
use denote.Triple.Clauses.{Ended, Clauses, closing}
use denote.Triple.Spec.{Meets}
use denote.Triple.Walked.{Stays, stay_dropped, walk_of, ends_at, says, Goes-spent_ref, Goes-dropped}
use Rattle.std.specs.List.{refill}
use Rattle.std.specs.Prelude.{slice_range}
use Rattle.std.proofs.raw_atomic.Walks.{proved}
use Rattle.bitvec_domain.specs.Refill.{with_range}
use Rattle.bitvec_domain.specs.Middle.{whole}
use Rattle.bitvec_domain.specs.Arity.{Arity, lived, unlived}
use Rattle.bitvec_domain.specs.Through.{parts, Flat, lends_part_of}
use Rattle.bitvec_domain.specs.Lender.{elements_ty, slot, spelled}

module _ (T : RattleType) (N : Arity) (ν : Sym) (τs : Tys) where
  abbrev body : Body
  body =
      seq (assign (place 4 []) (rv_opd (copy (place 1 (deref (spelled T N ν τs) ∷ field 0 ∷ field 1 ∷ [])))))
      (seq (assign (place 5 []) (addr_of (place 1 (deref (spelled T N ν τs) ∷ field 0 ∷ field 0 ∷ deref (layout T) ∷ []))))
      (seq (assign (place 6 []) (aggregate (copy (place 5 []) ∷ copy (place 4 []) ∷ [])))
      (seq (assign (place 7 []) (op2 (mul unsigned) (copy (place 2 [])) (size_of (layout T))))
      (seq (assign (place 8 []) (op2 offset (copy (place 6 (field 0 ∷ []))) (copy (place 7 []))))
      (seq (assign (place 9 []) (op2 (minus unsigned) (copy (place 3 [])) (copy (place 2 []))))
      (seq (assign (place 10 []) (addr_of (place 8 (deref (layout T) ∷ []))))
      (seq (assign (place 0 []) (aggregate (copy (place 10 []) ∷ copy (place 9 []) ∷ []))) return)))))))

  -- The method, as the machine has it, at a struct of the name `ν` with the fields `τs` behind the first.
  abbrev pub function : Fn
  function = record {
    lifetimes = 2;
    outlives = (1, 0) ∷ N.coded;
    ty_params = [];
    givens = 0;
    params = 3;
    locals = local (elements_ty T N ν τs (named 0)) value_local
        ∷ local (ty_ref (named 0) mut (ty_named (ν, named 1 ∷ []) N.args)) value_local
        ∷ local (ty_int w64) value_local
        ∷ local (ty_int w64) value_local
        ∷ local (ty_int w64) value_local
        ∷ local (ty_ref erased mut (ty_param 0)) value_local
        ∷ local (elements_ty T N ν τs erased) value_local
        ∷ local (ty_int w64) value_local
        ∷ local ty_ptr value_local
        ∷ local (ty_int w64) value_local
        ∷ local (ty_ref erased mut (ty_param 0)) value_local ∷ [];
    body = body;
  }

module _ (T : RattleType) (N : Arity) (R : NamedLft → RattleType) (slice : (a : NamedLft) → (R a).Denot → MutBor (List T.Denot)) (F : (a : NamedLft) → (R a).Denot → List T.Denot → (R a).Denot) where
  abbrev X : RattleType
  X = copied 0 T

  -- The method's signature: it borrows the struct exclusively, takes two places, and gives an exclusive slice of the same lifetime.
  abbrev pub signature : Signature
  signature = record {
    lifetimes = suc (suc N.more);
    outlives = record { long = 1; long_ok = tt; short = named 0; short_ok = tt } ∷ N.bounds;
    params = mut_ref_to (0 ∷ []) tt (slot T N R slice F) ∷ plain (λ κs. usize) ∷ plain (λ κs. usize) ∷ [];
    result = mut_slice_of (0 ∷ []) tt (plain (λ κs. X));
  }

  -- The signature, with the two places kept for the contract's end.
  abbrev pub ended : Ended
  ended = record { signature = signature; kept = (no, (yes, (yes, tt))) }

  -- The contract: the struct follows the result, which is at first the range that the two places cut out of the field's slice.
  abbrev pub clauses : {M : Type 1} {𝓤 : Ura M} (𝓛 : Logic 𝓤) → Clauses 𝓤 ended
  clauses {𝓤 = 𝓤} 𝓛 κs a =
      let v = named_lft (suc (suc N.more)) 1 tt κs in
      let xs = (slice v a.0.now).now in
      record {
        ghost = Unit {0};
        requires = λ _. lived 𝓤 (N.facts κs) (sep 𝓤 (fact 𝓤 (a.1.0 ≤ a.1.1.0)) (fact 𝓤 (a.1.1.0 ≤ length xs)));
        ensures = λ _ r _. sep 𝓤 (sem 𝓛 (follows (R v) (Array X 0) a.0.ghost_name r.ghost_name (λ ws. F v a.0.now (with_range xs a.1.0 a.1.1.0 ws)))) (fact 𝓤 (r.now ≡ slice_range xs a.1.0 a.1.1.0));
      }

-- where the range begins, how many elements it has, and that the list is cut there
module _ {X : Type 0} (xs : List X) (start end : ℕ) (order : start ≤ end) (bound : end ≤ length xs) where
  before : length (take start xs) ≡ start
  before = omega (arith, length-take start xs)

  count : end - start ≡ length (slice_range xs start end)
  count = omega (arith, length-take (end - start) (drop start xs), length-drop start xs)

  cut : xs ≡ take start xs ++ (slice_range xs start end ++ drop end xs)
  cut = sym (put_same start (end - start) xs) ∙ ap (λ (l : List X). take start xs ++ (slice_range xs start end ++ l)) (Post-is start end xs order)

-- as many elements or fewer take no more bytes, and the size that the code reads is the type's where it counts
times_below : (i c s t : ℕ) → i ≤ c → c * s < t → i * s < t
times_below i c s t le below = lt_of_le_of_lt (mul-le-mul_right s le) below

uncapped : (i k : ℕ) → i * k < 2 ^ 64 → i * capped k ≡ i * k
uncapped zero k h = zero-mul (capped k) ∙ sym (zero-mul k)
uncapped (suc i) k h =
    let up = suc-mul i k in
    ap (λ (j : ℕ). suc i * j) (capped_is k (omega arith))

-- a struct's machine value begins with this one
abbrev pub Begins : Val → List Val → Type 0
Begins v us = (vs : Vals) × (us ≡ vstruct (vcons v vs) ∷ [])

-- A struct's machine value begins with its first field's, where the values of its fields are known.
pub begins : (v : Val) (Rs : List RattleType) (us ws : List Val) (vss : Valss Rs) → us ≡ vstruct (of_list (ws ++ flat Rs vss)) ∷ [] → ws ≡ v ∷ [] → Begins v us
begins v Rs us ws vss whole first = (of_list (flat Rs vss), whole ∙ ap (λ (l : List Val). vstruct (of_list (l ++ flat Rs vss)) ∷ []) first)

module _ (T : RattleType) (N : Arity) (ν : Sym) (τs : Tys) (R : NamedLft → RattleType) (args : NamedLft → List Lifetime) (types : NamedLft → List RattleType) (Fs : NamedLft → List Field)
    (view : (a : NamedLft) → (R a).Denot → Values (parts (copied 0 T) a ν (args a) (types a) (Fs a))) (F : (a : NamedLft) → (R a).Denot → List T.Denot → (R a).Denot)
    (loose : (a : NamedLft) → Looses (parts (copied 0 T) a ν (args a) (types a) (Fs a)))
    (same : (a : NamedLft) (s : (R a).Denot) (b e : ℕ) → part_at (R a) full_share s b e ≡ part_at (row (Flat (copied 0 T) a ν (args a) (types a) (Fs a))) full_share (view a s) b e)
    (put : (a : NamedLft) (s : (R a).Denot) (ws : List T.Denot) → view a (F a s ws) ≡ (at_last (view a s).0 (refill (length (view a s).0.now) (view a s).0.now ws), (view a s).1))
    (is_raw : (a : NamedLft) → raw_all (R a).mir ≡ raw_ty (spelled T N ν τs) ∷ [])
    (begun : (a : NamedLft) (s : (R a).Denot) (us : List Val) → Is (R a) s us → Begins (slice_val (view a s).0.ref_ptr (length (view a s).0.now)) us × Room (copied 0 T) (length (view a s).0.now)) where
  -- The slice that the struct's first field borrows.
  abbrev pub slice_of : (a : NamedLft) → (R a).Denot → MutBor (List T.Denot)
  slice_of a s = (view a s).0

  module _ {M : Type 1} {𝓤 : Ura M} (𝓛 : Logic 𝓤) (𝓜 : Model 𝓤 𝓛.H) (𝓡 : Running 𝓤 𝓛.H 𝓜) where
    -- The method's code meets the contract that `clauses` gives.
    pub lends_range : (k : Callee) → Closed 𝓤 𝓛.H (tables 𝓤 𝓛.H 𝓜 𝓡 𝓡.env).C (tables 𝓤 𝓛.H 𝓜 𝓡 𝓡.env).Λ k (function T N ν τs) → Meets 𝓛 (signature T N R slice_of F) ((tables 𝓤 𝓛.H 𝓜 𝓡 𝓡.env).C k) (closing 𝓛 (ended T N R slice_of F) (clauses T N R slice_of F 𝓛))
    unfolding part_of
    lends_range k closed =
        let 𝓣 = tables 𝓤 𝓛.H 𝓜 𝓡 𝓡.env in
        let Y : RattleType = copied 0 T in
        let En = ended T N R slice_of F in
        let fn : Fn = function T N ν τs in
        let hs : Stays En.signature.params En.kept = (stay_dropped (mut_ref_to (0 ∷ []) tt (slot T N R slice_of F)) no, (stay_dropped (plain (λ κs. usize)) yes, (stay_dropped (plain (λ κs. usize)) yes, tt))) in
        let goes = Goes-dropped 𝓛 (suc (suc N.more)) (plain (λ κs. usize)) yes (λ κs x w. refl) in
        let con = clauses T N R slice_of F 𝓛 in
        proved 𝓛 En hs con 𝓜 𝓡 (Goes-spent_ref 𝓛 (suc (suc N.more)) (0 ∷ []) tt (slot T N R slice_of F), (goes, (goes, tt))) k fn closed
        (λ κs. (mut_vals, (uint_vals w64, (uint_vals w64, tt)))) (λ κs. (mut_Tells (named 0) κs.0 (R (named_lft (suc (suc N.more)) 1 tt κs)), (uint_Tells w64, (uint_Tells w64, tt)))) (λ κs qs bounds a gh are.
        let κ : Lft = κs.0 in
        let q : Share = qs.0 in
        let v = named_lft (suc (suc N.more)) 1 tt κs in
        let G : RattleType = R v in
        let b : ℕ = a.0.ref_ptr.0 in
        let e : ℕ = a.0.ref_ptr.1 in
        let γ : GName = a.0.ghost_name in
        let s : G.Denot = a.0.now in
        let start : ℕ = a.1.0 in
        let end : ℕ = a.1.1.0 in
        let h : MutBor (List Y.Denot) = (view v s).0 in
        let xs : List Y.Denot = h.now in
        let front : List Y.Denot = take start xs in
        let mid : List Y.Denot = slice_range xs start end in
        let rest : List Y.Denot = drop end xs in
        let from : ℕ = at h.ref_ptr.1 (mem Y).size (length front) in
        let τ : Ty = spelled T N ν τs in
        let y : (walk_of 𝓛 En hs con).Ghost = ((κs, qs, bounds, a, (mut_vals a.0, (uint_vals w64 start, (uint_vals w64 end, tt)))), gh) in
        let Post : Val → SProp 𝓤 = (walk_of 𝓛 En hs con).post y in
        let tokens = toks 𝓛 (suc N.more) κs.1 qs.1 in
        let asked = sep 𝓤 (fact 𝓤 (start ≤ end)) (fact 𝓤 (end ≤ length xs)) in
        qed 𝓛 (((‵ (flft κ q) ⊛ raw tokens) ⊛ ‵ (owns (types_at En.signature.params κs) a (mut_vals a.0, (uint_vals w64 start, (uint_vals w64 end, tt)))))
        ∷ raw (lived 𝓤 (N.facts κs) asked) ∷ []) ∵
        move ! (1 ∷ []) $ use1 𝓛 (raw (fact 𝓤 (start ≤ end)) ⊛ raw (fact 𝓤 (end ≤ length xs))) (unlived 𝓤 (N.facts κs) asked) $ split ! $ heard ! _ (λ order. heard ! _ (λ bound.
        split ! $ split ! $ move ! (2 ∷ []) $ fsplit ! $ fsplit3 ! $ keep ! (1 ∷ 2 ∷ 4 ∷ 5 ∷ []) $
        enter ! 𝓣.C 𝓣.Λ fn (mut_vals a.0 ++ (uint_vals w64 start ++ uint_vals w64 end)) Post $ alloc_all ! (λ l. pass_all ! refl ((tt, tt), ((tt, record { fits = are.1.0.1 }), ((tt, record { fits = are.1.1.0.1 }), tt))) $
        open_ref ! tt (mem G) {x = s} $ fpick ! (λ us. fsplit ! $ move ! (1 ∷ []) $ peeks ! G (Is G) (shows 𝓛 G) s us (λ is_it.
        let low : Val = vstruct (vcons (slice_val h.ref_ptr (length xs)) (begun v s us is_it).0.0) in
        let word : us ≡ low ∷ [] = (begun v s us is_it).0.1 in
        let room : Room Y (length xs) = (begun v s us is_it).1 in
        let size : ℕ = (mem Y).size in
        let far : start * size < 2 ^ 64 = omega (arith, times_below start (length xs) size (2 ^ 63) (omega arith) room.1) in
        let fitting : Room Y (length mid) = (omega (arith, count xs start end order bound, room.0), times_below (length mid) (length xs) size (2 ^ 63) (omega (arith, count xs start end order bound)) room.1) in
        let begins : start * size + h.ref_ptr.1 ≡ from = ap (λ (n : ℕ). n * size + h.ref_ptr.1) (sym (before xs start end order bound)) ∙ sym (at_mul h.ref_ptr.1 size (length front)) in
        rewrite ! 1 (λ (ws : List Val). ‵ (cell_at full_share G.mir ws b e)) word refl $ rewrite ! 1 (λ (ρs : List Ty). ‵ (cell_raw full_share ρs (low ∷ []) b e)) (is_raw v) refl $
        move ! (1 ∷ []) $ use1 𝓛 (‵ (fat full_share τ b e low)) (𝓛.laws.raw_at full_share τ b e low) $
        sets ! (of_opd ! (load ! (through ! refl (fld ! refl (fld ! refl (stop !)))) (look_in ! 0 (sub ! 1 refl (sub ! 0 refl (all !)))))) refl (tt, record { fits = room.0 }) $
        sets ! (addr ! (through ! refl (fld ! refl (fld ! refl (hop ! (look_in ! 0 (sub ! 0 refl (sub ! 0 refl (all !)))) (stop !)))))) refl (tt, tt) $
        sets ! (agg ! (and_then ! (get ! refl) (and_then ! (get ! refl) (no_more !)))) refl (tt, (tt, (record { fits = room.0 }, tt))) $
        sets ! (is ! (bin ! (get ! refl) (size_word !) (record { fits = subst (λ (n : ℕ). n < 2 ^ 64) (sym (uncapped start size far)) far })) (ap (vint w64) (uncapped start size far))) refl (tt, record { fits = far }) $
        sets ! (is ! (bin ! (get_in ! (fld ! refl (stop !)) (sub ! 0 refl (all !))) (get ! refl) tt) (ap (vptr h.ref_ptr.0) begins)) refl (tt, tt) $
        sets ! (is ! (bin ! (get ! refl) (get ! refl) order) (ap (vint w64) (count xs start end order bound))) refl (tt, record { fits = fitting.0 }) $
        sets ! (addr ! (through ! refl (stop !))) refl (tt, tt) $
        sets ! (agg ! (and_then ! (get ! refl) (and_then ! (get ! refl) (no_more !)))) refl (tt, (tt, (record { fits = fitting.0 }, tt))) $
        use1 𝓛 (‵ (cell_raw full_share (raw_ty τ ∷ []) (low ∷ []) b e)) (𝓛.laws.at_raw full_share τ b e low) $
        rewrite ! 0 (λ (ρs : List Ty). ‵ (cell_raw full_share ρs (low ∷ []) b e)) (sym (is_raw v)) refl $ rewrite ! 0 (λ (ws : List Val). ‵ (cell_at full_share G.mir ws b e)) (sym word) refl $ fjoin ! $
        fpack ! (List Val) (λ ws. fsep (cell_at full_share G.mir ws b e) (G.own_val s ws)) us $ close_ref ! tt (mem G) s $
        use3 𝓛 (later (some (λ (δ : GName). ‵ ((MutSlice (named 0) κ Y).own_val (record { ref_ptr = (h.ref_ptr.0, from); ghost_name = δ; now = mid }) (slice_val (h.ref_ptr.0, from) (length mid) ∷ [])) ⊛ ‵ (flft κ q) ⊛ ‵ (follows G (Array Y 0) γ δ (λ ws. F v s (whole front mid rest ws))))))
        (lends_part_of 𝓛 Y v ν (args v) (types v) (Fs v) (loose v) G (view v) (F v) (same v) (put v) (named 0) κ bounds.0 s b e γ front mid rest (cut xs start end order bound) fitting q) $ await ! tt $ pick ! (λ δ.
        -- [the result; the token; the struct follows it; the other tokens; the locals]
        split3 ! $ returns ! (look_at ! 0 refl) $ free_all ! refl $ move ! (1 ∷ 3 ∷ []) $ join ! $ keep ! (0 ∷ 1 ∷ 2 ∷ []) $
        suffices ! _ (ends_at 𝓛 En hs con y (slice_val (h.ref_ptr.0, from) (length mid)) (record { ref_ptr = (h.ref_ptr.0, from); ghost_name = δ; now = mid }) (tt, (tt, (tt, tt))) (tt, (tt, (tt, tt)))) $
        nothing ! $ nothing ! $ fjoin ! $ nothing ! $ fjoin ! $ nothing ! $ fjoin ! $ move ! (0 ∷ 2 ∷ []) $ join ! $ move ! (1 ∷ 0 ∷ []) $ join ! $ frame ! $ says ! refl $ done !)))))))
