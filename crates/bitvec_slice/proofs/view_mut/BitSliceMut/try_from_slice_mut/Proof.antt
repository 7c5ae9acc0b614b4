-- A view borrows the elements under the name under which they were lent; without one they are given up as they were. A walk of the
-- function's MIR by hand: `bits_in`, the test, and on either way one call, whose result is the function's. Assumes `Logic`.
use Rattle.std.proofs.Common.{◌≡◌, ℕ, ◌*◌, ◌-◌, ◌^◌, ◌≤◌, ◌<◌, min, length, List, [], ◌∷◌, refl, ap, arith, lit<, w64, ltb→lt, nltb→le}
use Rattle.std.specs.Prelude.{Result, Ok, Err, IsOk, IfOk, IfErr, ◌↔◌}
use Rattle.std.specs.Borrow.{RestsIfErr}
use Rattle.std.proofs.raw_atomic.Walks.{proved}
use Rattle.std.proofs.VecSteps.Shapes.{after}
use Rattle.std.proofs.result.Result.TheLaws.{the_row_laws as result_laws}
use seplogic.Ra.Ura.{Ura}
use mir.Syntax.{Width, a_type, dcons, dnil, named, int_big, Fn}
use mir.MapTy.{inst_fn}
use mir.Val.{Val, Fits, vint}
use prog.Wp.{Env}
use base.Logic.{SProp, emp, id⊢, via, guard_i}
use base.Fml.{flft, ftrue, fsep, fobs}
use base.Stored.{coded_list}
use contract.BorrowLft.{◌⊑◌}
use contract.Running.{tables}
use contract.Lifetimes.{toks}
use contract.Monad.{fact, fact_i}
use types.Logic.{Logic}
use types.Kit.{Item, ‵, raw, ◌⊛◌, some, later, prop, at_ret, Sq, ◌$◌, ◌∵◌, !, qed, done, split, move, drop, join, fsplit, fsplit3, feq_l, flt_l, pick, await, rewrite, suffices, group, use0, use1, use2}
use types.Run.{Opd, enter, stop, fld, hop, from, of_opd, bin, and_then, no_more, first, branches, skips, exec, returns, returns_within, addr}
use types.ByLocal.{alloc_all, pass_all, free_all, look_at, look_in_at, get, get_in, sets, lands_as, env}
use types.Part.{whole, sub, agg}
use types.Tokens.{name_done}
use denote.Array.{Array}
use denote.Builtin.{usize}
use denote.FollowSlice.{heres_id}
use denote.Laws.{Is, shows}
use denote.Param.{bounded, copied, param}
use denote.Param.Laws.{copied_laws, param_laws}
use denote.Plain.{uint_Makes, uint_vals}
use denote.RattleType.{RattleType}
use denote.Exit.{no}
use denote.Slice.{MutSlice, mut_slice_vals, mut_slice_Tells}
use denote.Signature.{plain, mut_slice_of, named_lft, type_at}
use denote.Steps.{nothing, heard, owned, only, peeks}
use denote.Triple.Call.{calls_at}
use denote.Triple.Clauses.{lasts}
use denote.Triple.Spec.{triple_of}
use denote.Triple.Table.{framed}
use denote.Triple.Walked.{Stays, walk_of, stay_dropped, Goes-spent_slice, ends_at}
use Rattle.bitvec_base.specs.Window.{max_bits}
use Rattle.bitvec_base.specs.declared.span_error.BitSpanError.{BitSpanError}
use Rattle.bitvec_base.specs.declared.span_error.BitSpanError.TheVariants.{TooLong}
use Rattle.bitvec_base.proofs.span_error.BitSpanError.TheLaws.{the_row_laws as error_laws}
use Rattle.bitvec_slice.specs.Views.{IsWholeOf, name_of}
use Rattle.bitvec_slice.specs.contracts.view_mut.BitSliceMut.try_from_slice_mut as f
use Rattle.bitvec_slice.specs.contracts.constructors.bits_in
use Rattle.bitvec_slice.specs.contracts.view_mut.BitSliceMut.too_long
use Rattle.bitvec_slice.specs.contracts.view_mut.BitSliceMut.all_of
use Rattle.bitvec_slice.proofs.view_mut.BitSliceMut.TheLaws.{the_row_laws as view_laws}
use Rattle.bitvec_slice.proofs.constructors.bits_in.Met.{met as bits_in_met}
use Rattle.bitvec_slice.proofs.view_mut.BitSliceMut.too_long.Met.{met as too_long_met}
use Rattle.bitvec_slice.proofs.view_mut.BitSliceMut.all_of.Met.{met as all_of_met}
use Rattle.bitvec_slice.proofs.view_mut.BitSliceMut.try_from_slice_mut.Statement.{statement}
use Rattle.bitvec_slice.proofs.view_mut.BitSliceMut.try_from_slice_mut.Code as code
use Rattle.bitvec_slice.proofs.Rests.{rests_err, rests_ok}

-- a constant of more digits than `types.Run`'s `lit` takes
big_lit : {M : Type 1} {𝓤 : Ura M} {𝓛 : Logic 𝓤} {K : Type 0} {Γ : List (Item 𝓤)} {E : Env 𝓤 𝓛.H} → K → {w : Width} {n : ℕ} → Fits w n → Opd K 𝓛 Γ E (int_big w n) (vint w n)
big_lit {𝓤 = 𝓤} t {w} {n} z = record { go = λ Kt h. via 𝓤 (Kt (vint w n)) h (guard_i 𝓤 (Fits w n) (Kt (vint w n)) z) }

-- where it is this error, since so many bits are too many
module _ {V : Type 0} (m bits : ℕ) (r : Result V BitSpanError) (counted : bits ≡ min m (2 ^ 64 - 1)) (is : r ≡ Err (TooLong bits)) where
  not_made : max_bits < bits → IsOk r ↔ (m ≤ max_bits)
  not_made big = (λ ok. absurd cc, λ few. absurd (omega arith))

  is_error : IfErr r (λ error. error ≡ TooLong (min m (2 ^ 64 - 1)))
  is_error = rw is (ap TooLong counted)

  no_view : (P : V → Type 0) → IfOk r P
  no_view P = rw is tt

-- where it is a view, since so many bits are few enough
module _ {V : Type 0} (m : ℕ) (r : Result V BitSpanError) (ok : IsOk r) where
  is_made : m ≤ max_bits → IsOk r ↔ (m ≤ max_bits)
  is_made few = (λ _. few, λ _. ok)

no_error : {V E : Type 0} (r : Result V E) (P : E → Type 0) → IsOk r → IfErr r P
no_error (Ok v) P is = tt
no_error (Err e) P is = absurd cc

few_enough : (m bits : ℕ) → bits ≡ min m (2 ^ 64 - 1) → bits ≤ max_bits → m ≤ max_bits
few_enough m bits counted few = omega arith

pub try_from_slice_mut_spec : {M : Type 1} → statement M
try_from_slice_mut_spec 𝓤 𝓛 𝓜 𝓡 wired T O LT LO CT g gd c cd o od mt mc mo =
    let En = f.ended T O g gd c cd o od in
    let con = f.clauses T O g gd c cd o od 𝓛 𝓜.mem 𝓡.returns in
    let X = copied 0 T in
    let Y = param 1 O in
    let hs : Stays En.signature.params En.kept = (stay_dropped (mut_slice_of (0 ∷ []) tt (plain (λ κs. X))) no, tt) in
    let W = walk_of 𝓛 En hs con in
    let 𝓣 = tables 𝓤 𝓛.H 𝓜 𝓡 𝓡.env in
    let args = bounded (a_type ∷ a_type ∷ []) (T, (O, tt)) (dcons gd (dcons cd (dcons od dnil))) in
    let fn : Fn = inst_fn args code.function in
    proved 𝓛 En hs con 𝓜 𝓡 (Goes-spent_slice 𝓛 3 (0 ∷ []) tt (plain (λ κs. X)), tt)
    (f.Key.name args) fn (code.unfolded 𝓤 𝓛.H 𝓜 𝓡 wired (T, (O, tt)) gd cd od)
    (λ κs. (mut_slice_vals, tt)) (λ κs. (mut_slice_Tells (named 0) κs.0 X, tt)) (λ κs qs bounds a gh are.
    let h = a.0 in
    let n = length h.now in
    let m = g.BITS * n in
    let vs = mut_slice_vals h in
    let κ = κs.0 in
    let q = qs.0 in
    let κ₁ = κs.1.0 in
    let q₁ = qs.1.0 in
    let κ₂ = κs.1.1.0 in
    let room = are.0.0.1 in
    let A = Array X 0 in
    let y : W.Ghost = ((κs, qs, bounds, a, (vs, tt)), gh) in
    let Post : Val → SProp 𝓤 = W.post y in
    let Out : RattleType = type_at En.signature.result κs in
    let laws = result_laws _ _ (view_laws (named_lft 3 0 tt κs) X Y g o (copied_laws 0 T LT) (param_laws 1 O LO)) error_laws in
    let Tokens : SProp 𝓤 = toks 𝓛 3 κs qs in
    let Made : (r : Out.Denot) → Type 0 = λ r. IsOk r ↔ (m ≤ max_bits) in
    let Error : (r : Out.Denot) → Type 0 = λ r. IfErr r (λ error. error ≡ TooLong (min m (2 ^ 64 - 1))) in
    let Whole : (r : Out.Denot) → Type 0 = λ r. IfOk r (IsWholeOf h.now h.ghost_name) in
    let ends : (u : Val) (r : Out.Denot) → Made r → Error r → Whole r
    → Sq 𝓛 (‵ (RestsIfErr A h name_of r (λ left. left ≡ h.now)) ∷ ‵ (Out.own_val r (u ∷ [])) ∷ raw Tokens ∷ []) (prop (Post u)) = λ u r made error whole.
    suffices ! _ (ends_at 𝓛 En hs con y u r (tt, tt) (tt, tt)) $
    use0 𝓛 (raw (fact 𝓤 (Whole r))) (fact_i 𝓤 (Whole r) (emp 𝓤) whole) $ use0 𝓛 (raw (fact 𝓤 (Error r))) (fact_i 𝓤 (Error r) (emp 𝓤) error) $ join ! $
    use0 𝓛 (raw (fact 𝓤 (Made r))) (fact_i 𝓤 (Made r) (emp 𝓤) made) $ join ! $ move ! (1 ∷ 0 ∷ []) $ join ! $
    nothing ! $ nothing ! $ join ! $ move ! (3 ∷ 0 ∷ 2 ∷ 1 ∷ []) $ group ! 3 $ done ! in
    qed 𝓛 (((‵ (flft κ q) ⊛ (‵ (flft κ₁ q₁) ⊛ raw (toks 𝓛 1 κs.1.1 qs.1.1))) ⊛ ‵ (fsep ((MutSlice (named 0) κ X).own_val h vs) ftrue)) ∷ (raw (fact 𝓤 (κ₁ ⊑ T.lives)) ⊛ (raw (fact 𝓤 (κ₂ ⊑ O.lives)) ⊛ ‵ ftrue)) ∷ []) ∵
    split ! $ move ! (2 ∷ []) $ split ! $ heard ! _ (λ T_lives. split ! $ heard ! _ (λ O_lives. drop ! $
    split ! $ move ! (1 ∷ []) $ split ! $ move ! (3 ∷ []) $ fsplit ! $ move ! (1 ∷ []) $ drop ! $ move ! (1 ∷ 0 ∷ 3 ∷ 2 ∷ []) $
    -- [T's token; the slice; the token of 'a; the other tokens]
    enter ! 𝓣.C 𝓣.Λ fn vs Post $ alloc_all ! (λ l. pass_all ! refl ((tt, (tt, (record { fits = room.0 }, tt))), tt) $
    sets ! (of_opd ! (get_in ! (fld ! refl (stop !)) (sub ! 1 refl (whole !)))) refl (tt, record { fits = room.0 }) $
    -- let bits = bits_in::<T>(elements.len());
    let G₁ = triple_of 𝓛 (bits_in.ended T g gd c cd).signature (bits_in.spec T g gd c cd 𝓛 𝓜.mem 𝓡.returns) in
    let z₁ : G₁.Ghost = (((κ₁, tt), (q₁, tt), tt, (n, tt), (uint_vals w64 n, tt)), tt) in
    nothing ! $ owned ! usize _ (uint_Makes 𝓛 w64) n _ (refl, room.0) $ join ! $ nothing ! $ move ! (2 ∷ 0 ∷ []) $ join ! $ join ! $
    nothing ! $ use0 𝓛 (raw (fact 𝓤 (κ₁ ⊑ T.lives))) (fact_i 𝓤 (κ₁ ⊑ T.lives) (emp 𝓤) T_lives) $ join ! $ move ! (1 ∷ 0 ∷ []) $
    use2 𝓛 (raw (G₁.pre z₁)) (id⊢ 𝓤 _) $
    calls_at ! (framed 𝓤 𝓛.H 𝓜 𝓣) G₁ (bits_in_met 𝓤 𝓛 𝓜 𝓡 (code.calls-bitvec_slice::constructors::bits_in 𝓡.env wired) T LT CT g gd c cd mt mc) z₁
    (and_then ! (get ! refl) (no_more !)) (λ v.
    use1 𝓛 (later (some (λ (bits : ℕ). ((‵ (flft κ₁ q₁) ⊛ ‵ ftrue) ⊛ ‵ (usize.own_val bits (v ∷ []))) ⊛
    some (λ (ws : Unit {0} × Unit {0}). ‵ (lasts (bits_in.ended T g gd c cd) z₁.0.0 z₁.0.3 ws) ⊛ raw (fact 𝓤 (bits ≡ min m (2 ^ 64 - 1))))))) (id⊢ 𝓤 _) $
    await ! tt $ pick ! (λ bits. split ! $ split ! $ split ! $ move ! (1 ∷ []) $ drop ! $ move ! (1 ∷ []) $ fsplit ! $ feq_l ! (λ is_bits. flt_l ! (λ fits.
    move ! (1 ∷ []) $ pick ! (λ _. split ! $ drop ! $ heard ! _ (λ counted.
    lands_as ! (ap only is_bits) refl (tt, record { fits = fits }) $
    -- if bits > MAX_BITS
    sets ! (bin ! (big_lit ! (record { fits = lit< tt })) (get ! refl) tt) refl (tt, tt) $
    first ! $ branches ! (get ! refl)
    (λ big.
    move ! (1 ∷ []) $ fsplit3 ! $ fsplit ! $ feq_l ! (λ _. drop ! $
    rewrite ! 0 (λ (l : List X.Denot). ‵ (fobs h.ghost_name ((coded_list X.coded).code l))) (heres_id X h.now) refl $ name_done ! tt $ move ! (1 ∷ []) $ drop ! $
    -- [the slice's last value; T's token; the token of 'a; the other tokens];  return BitSliceMut::too_long(bits);
    let G₂ = triple_of 𝓛 (too_long.ended T O g gd c cd o od).signature (too_long.spec T O g gd c cd o od 𝓛 𝓜.mem 𝓡.returns) in
    let z₂ : G₂.Ghost = ((κs, qs, bounds, (bits, tt), (uint_vals w64 bits, tt)), tt) in
    nothing ! $ owned ! usize _ (uint_Makes 𝓛 w64) bits _ (refl, fits) $ join ! $ move ! (2 ∷ 4 ∷ []) $ join ! $ move ! (3 ∷ 0 ∷ []) $ join ! $ join ! $
    nothing ! $ use0 𝓛 (raw (fact 𝓤 (κ₂ ⊑ O.lives))) (fact_i 𝓤 (κ₂ ⊑ O.lives) (emp 𝓤) O_lives) $ join ! $
    use0 𝓛 (raw (fact 𝓤 (κ₁ ⊑ T.lives))) (fact_i 𝓤 (κ₁ ⊑ T.lives) (emp 𝓤) T_lives) $ join ! $ move ! (1 ∷ 0 ∷ []) $
    use2 𝓛 (raw (G₂.pre z₂)) (id⊢ 𝓤 _) $
    calls_at ! (framed 𝓤 𝓛.H 𝓜 𝓣) G₂ (too_long_met 𝓤 𝓛 𝓜 𝓡 (code.calls-bitvec_slice::view_mut::BitSliceMut::too_long 𝓡.env wired) T O LT LO CT g gd c cd o od mt mc mo) z₂
    (and_then ! (get ! refl) (no_more !)) (λ u.
    use1 𝓛 (later (some (λ (r : Out.Denot). (raw Tokens ⊛ ‵ (Out.own_val r (u ∷ []))) ⊛
    some (λ (ws : Unit {0} × Unit {0}). ‵ (lasts (too_long.ended T O g gd c cd o od) κs (bits, tt) ws) ⊛ raw (fact 𝓤 (r ≡ Err (TooLong bits))))))) (id⊢ 𝓤 _) $
    await ! tt $ pick ! (λ r. split ! $ split ! $ move ! (2 ∷ []) $ pick ! (λ _. split ! $ drop ! $ heard ! _ (λ is.
    move ! (1 ∷ []) $ peeks ! Out (Is Out) (shows 𝓛 Out) r (u ∷ []) (λ are_its.
    lands_as ! refl refl (((laws.lawful 𝓛).typed r (u ∷ []) are_its).0) $ returns_within ! Post refl (look_at ! 0 refl) $ free_all ! refl $
    -- [the result; the tokens; the slice's last value]
    move ! (2 ∷ []) $ use1 𝓛 (‵ (RestsIfErr A h name_of r (λ left. left ≡ h.now))) (rests_err A h name_of _ 𝓛 r (TooLong bits) is) $
    ends u r (not_made m bits r counted is (ltb→lt _ bits big)) (is_error m bits r counted is) (no_view m bits r counted is _))))))))
    (λ small.
    let few : m ≤ max_bits = few_enough m bits counted (nltb→le _ bits small) in
    skips ! $ exec ! 𝓣.C 𝓣.Λ (env fn.locals l) (after 4 fn.body) (at_ret _ Post) $
    sets ! (addr ! (from ! (fld ! refl (hop ! (look_in_at ! 1 (sub ! 0 refl (whole !))) (stop !))))) refl (tt, tt) $
    sets ! (agg ! (and_then ! (get ! refl) (and_then ! (get_in ! (fld ! refl (stop !)) (sub ! 1 refl (whole !))) (no_more !)))) refl (tt, (tt, (record { fits = room.0 }, tt))) $
    -- BitSliceMut::all_of(elements)
    let G₃ = triple_of 𝓛 (all_of.ended T O g gd c cd o od).signature (all_of.spec T O g gd c cd o od 𝓛 𝓜.mem 𝓡.returns) in
    let z₃ : G₃.Ghost = ((κs, qs, bounds, (h, tt), (vs, tt)), tt) in
    nothing ! $ move ! (2 ∷ 0 ∷ []) $ join ! $ move ! (1 ∷ 3 ∷ []) $ join ! $ move ! (2 ∷ 0 ∷ []) $ join ! $ join ! $
    use0 𝓛 (raw (fact 𝓤 (m ≤ max_bits))) (fact_i 𝓤 (m ≤ max_bits) (emp 𝓤) few) $
    use0 𝓛 (raw (fact 𝓤 (κ₂ ⊑ O.lives))) (fact_i 𝓤 (κ₂ ⊑ O.lives) (emp 𝓤) O_lives) $ join ! $
    use0 𝓛 (raw (fact 𝓤 (κ₁ ⊑ T.lives))) (fact_i 𝓤 (κ₁ ⊑ T.lives) (emp 𝓤) T_lives) $ join ! $ move ! (1 ∷ 0 ∷ []) $
    use2 𝓛 (raw (G₃.pre z₃)) (id⊢ 𝓤 _) $
    calls_at ! (framed 𝓤 𝓛.H 𝓜 𝓣) G₃ (all_of_met 𝓤 𝓛 𝓜 𝓡 (code.calls-bitvec_slice::view_mut::BitSliceMut::all_of 𝓡.env wired) T O LT LO CT g gd c cd o od mt mc mo) z₃
    (and_then ! (get ! refl) (no_more !)) (λ u.
    use1 𝓛 (later (some (λ (r : Out.Denot). (raw Tokens ⊛ ‵ (Out.own_val r (u ∷ []))) ⊛
    some (λ (ws : Unit {0} × Unit {0}). ‵ (lasts (all_of.ended T O g gd c cd o od) κs (h, tt) ws) ⊛ raw (fact 𝓤 (IsOk r)) ⊛ raw (fact 𝓤 (Whole r)))))) (id⊢ 𝓤 _) $
    await ! tt $ pick ! (λ r. split ! $ split ! $ move ! (2 ∷ []) $ pick ! (λ _. split ! $ drop ! $ split ! $ heard ! _ (λ ok. heard ! _ (λ whole.
    move ! (1 ∷ []) $ peeks ! Out (Is Out) (shows 𝓛 Out) r (u ∷ []) (λ are_its.
    lands_as ! refl refl (((laws.lawful 𝓛).typed r (u ∷ []) are_its).0) $ returns ! (look_at ! 0 refl) $ free_all ! refl $
    -- [the result; the tokens]
    use0 𝓛 (‵ (RestsIfErr A h name_of r (λ left. left ≡ h.now))) (rests_ok A h name_of _ 𝓛 r _ ok whole (λ v is. is.name)) $
    ends u r (is_made m r ok few) (no_error r _ ok) whole)))))))))))))))))
