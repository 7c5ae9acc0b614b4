-- `stored` picks the counts, since they take no bytes.
use Rattle.std.proofs.Common.{[], ◌∷◌, ◌+◌, refl, w64}
use Rattle.std.proofs.raw_atomic.Walks.{proved}
use base.Fml.{ftrue}
use mir.Syntax.{named}
use mir.Val.{vstruct, vnil}
use contract.Monad.{fact_i}
use types.Kit.{‵, raw, ◌⊛◌, ◌$◌, ◌∵◌, !, qed, by, move, drop, split, suffices, frame, group}
use types.Part.{agg}
use types.Run.{enter, returns, no_more}
use types.ByLocal.{alloc_all, pass_all, free_all, look_at, sets}
use denote.Builtin.{usize}
use denote.Exit.{yes}
use denote.Plain.{uint_vals, uint_Tells}
use denote.RattleType.{owns}
use denote.Ref.{shr_vals, shr_Tells}
use denote.Shadow.{pure_i}
use denote.Signature.{plain, types_at}
use denote.Triple.Entry.{alive}
use denote.Triple.Walked.{says, Stays, stay_none, stay_none_ref, Goes-none, Goes-none_ref, walk_of, ends_at}
use Rattle.bitvec_cells.specs.contracts.counts.Counts.{the_row}
use Rattle.bitvec_cells.specs.contracts.counts.Counts.stored as f
use Rattle.bitvec_cells.proofs.counts.Counts.stored.Statement.{statement}
use Rattle.bitvec_cells.proofs.counts.Counts.stored.Code as code

abbrev stayed : Stays f.ended.signature.params f.ended.kept
stayed = (stay_none_ref (0 ∷ []) tt (plain (λ _. the_row)) yes, (stay_none (λ _. usize) yes, tt))

pub stored_spec : {M : Type 1} → statement M
stored_spec 𝓤 𝓛 𝓜 𝓡 wired =
    let c = f.clauses 𝓛 𝓜.mem 𝓡.returns in
    let W = walk_of 𝓛 f.ended stayed c in
    proved 𝓛 f.ended stayed c 𝓜 𝓡 (Goes-none_ref 𝓛 1 (0 ∷ []) tt (plain (λ _. the_row)) yes, (Goes-none 𝓛 1 (λ _. usize) yes (λ κs x g. refl), tt))
    f.Key.name code.function (code.unfolded 𝓤 𝓛.H 𝓜 𝓡 wired)
    (λ κs. (shr_vals, (uint_vals w64, tt))) (λ κs. (shr_Tells (named 0) κs.0 the_row, (uint_Tells w64, tt))) (λ κs qs bounds a n are.
    let y : W.Ghost = ((κs, qs, bounds, a, (shr_vals a.0, (uint_vals w64 a.1.0, tt))), tt) in
    let counts : the_row.Denot = record { loads = a.0.now.loads; stores = a.0.now.stores + a.1.0 } in
    qed 𝓛 ((raw (alive 𝓛 f.signature κs qs) ⊛ ‵ (owns (types_at f.signature.params κs) a y.0.4)) ∷ ‵ ftrue ∷ []) ∵
    move ! (1 ∷ []) $ drop ! $ split ! $
    enter ! _ _ _ _ _ $ alloc_all ! (λ l. pass_all ! refl ((tt, tt), ((tt, record { fits = are.1.0.1 }), tt)) $
    sets ! (agg ! (no_more !)) refl (tt, tt) $
    returns ! (look_at ! 0 refl) $ free_all ! refl $
    suffices ! _ (ends_at 𝓛 f.ended stayed c y (vstruct vnil) counts (tt, (tt, tt)) (tt, (tt, tt))) $
    pure_i ! (the_row.own_val counts (vstruct vnil ∷ [])) ((λ vss. (tt, tt)), tt) ((tt, (refl, tt)), tt) $
    move ! (1 ∷ 2 ∷ 0 ∷ []) $ group ! 3 $ frame ! $ says ! refl $ by ! (fact_i 𝓤 _ _ refl)))
