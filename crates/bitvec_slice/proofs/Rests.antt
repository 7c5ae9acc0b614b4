-- A reference that a result holds, or that was given up as it was: what `RestsIfErr` says of it. Assumes `Logic`.
use Rattle.std.proofs.Common.{◌≡◌, [], ◌∷◌, refl, sym, subst, MutBor}
use Rattle.std.specs.Prelude.{Result, Ok, Err, IsOk, IfOk, IfErr}
use Rattle.std.specs.Borrow.{RestsIfErr, GName, name_if_ok}
use base.Fml.{Fml, fres}
use base.Logic.{ent, emp}
use seplogic.Ra.Ura.{Ura}
use borrow.Follows.Kept.{follows_itself}
use types.Logic.{Logic, sem}
use types.Kit.{‵, ◌$◌, ◌∵◌, !, qed, done, fpack, rewrite, use0}
use denote.Follow.{such_by, follows_by, follows}
use denote.RattleType.{RattleType}

module _ (R : RattleType) (s : MutBor R.Denot) {V : Type 0} (name : V → GName) (E : Type 0) where
  abbrev Rests : Result V E → Fml
  Rests r = RestsIfErr R s name r (λ left. left ≡ s.now)

  abbrev Way : Result V E → Type 0
  Way r = (k : (R.Denot → R.Denot) × R.Denot) × ((w : R.Denot) → IfOk r (λ _. k.0 w ≡ w)) × IfErr r (λ _. k.1 ≡ s.now)

  abbrev Tied : (r : Result V E) → Way r → Fml
  Tied r k = follows_by R.Denot R.Denot R.coded.code R.coded.code s.ghost_name (name_if_ok name r) k.0.0 k.0.1

  module _ {M : Type 1} {𝓤 : Ura M} (𝓛 : Logic 𝓤) where
    open 𝓛 use {A}

    -- the result is an error, and the last value is the one that was had
    rests_at_err : (e : E) → ent 𝓤 (A.res s.ghost_name (R.coded.code s.now)) (sem 𝓛 (Rests (Err e)))
    unfolding such_by follows_by
    rests_at_err e =
        let way : Way (Err e) = ((λ w. w, s.now), (λ w. tt), refl) in
        qed 𝓛 (‵ (fres s.ghost_name (R.coded.code s.now)) ∷ []) ∵ fpack ! (Way (Err e)) (Tied (Err e)) way $ done !

    pub rests_err : (r : Result V E) (e : E) → r ≡ Err e → ent 𝓤 (A.res s.ghost_name (R.coded.code s.now)) (sem 𝓛 (Rests r))
    rests_err r e is = subst (λ (x : Result V E). ent 𝓤 (A.res s.ghost_name (R.coded.code s.now)) (sem 𝓛 (Rests x))) (sym is) (rests_at_err e)

    -- the result holds the reference, which follows itself
    rests_at_ok : (v : V) → name v ≡ s.ghost_name → ent 𝓤 (emp 𝓤) (sem 𝓛 (Rests (Ok v)))
    unfolding such_by follows_by
    rests_at_ok v is =
        let way : Way (Ok v) = ((λ w. w, s.now), (λ w. refl), tt) in
        qed 𝓛 [] ∵ use0 𝓛 (‵ (follows R R s.ghost_name s.ghost_name (λ w. w))) (follows_itself 𝓛 R s.ghost_name) $
        rewrite ! 0 (λ (γ : GName). ‵ (follows R R s.ghost_name γ (λ w. w))) (sym is) refl $ fpack ! (Way (Ok v)) (Tied (Ok v)) way $ done !

    pub rests_ok : (r : Result V E) (P : V → Type 0) → IsOk r → IfOk r P → ((v : V) → P v → name v ≡ s.ghost_name) → ent 𝓤 (emp 𝓤) (sem 𝓛 (Rests r))
    rests_ok (Ok v) P is holds named = rests_at_ok v (named v holds)
    rests_ok (Err e) P is holds named = absurd cc
