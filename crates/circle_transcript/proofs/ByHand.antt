-- Steps of a proof by hand that matches on a `Result`, and lends a reference again inside a
-- lifetime. Assumes `Logic`.
--     one_value      what is owned lies in one machine value, of its type
--     by_result      the two cases of a `Result`, each with its machine value
--     Ends, begins      a new lifetime inside ρ, with its token and the way to end it
--     Goes-blank      an owner that is used up leaves nothing, where its exit says nothing
use mathlib.Core.Path.{◌≡◌, refl, ap, subst, ◌∙◌}
use Prim.Native.Nat.{ℕ}
use mathlib.Core.List.{List, [], ◌∷◌, ◌++◌}
use lib.Dec.{T}
use seplogic.Ra.Ura.{Ura}
use base.Fraction.{full_share}
use base.FractionLaws.{common}
use base.Logic.{SProp, ent, sep, ex, wand, wand_i, apply∗, via}
use base.Fml.{Lft, Share, flft, fdead}
use mir.Syntax.{Ty}
use mir.Val.{Val, of_list, vcons, vnil, has_ty, WT}
use types.Logic.{Logic}
use types.Kit.{Goal, Seq, Item, ‵, raw, ◌⊛◌, ◌$◌, ◌∵◌, !, qed, move, use1, use2, drop, split, show}
use types.Kit.{rewrite, updating, now as at_once, fsplit, fpick, feq_l, done}
use types.Match.{live}
use types.Tokens.{lft_new, lft_end, lft-common}
use contract.BorrowLft.{meet_⊑_left}
use contract.Lifetimes.{Lfts}
use denote.Exit.{Kept, Last, left}
use denote.RattleType.{RattleType}
use denote.Laws.{Is, Typed, shows}
use denote.Param.{layout}
use denote.Param.Laws.{Laws}
use denote.Param.Mute.{blank, had}
use denote.Signature.{Slot}
use denote.Steps.{only, peeks}
use denote.Triple.Walked.{Goes, stay_dropped}
use Rattle.std.specs.Prelude.{Ok, Err}
use Rattle.std.specs.contracts.result.Result as Result

abbrev pub Fits : Ty → Val → Type 0
Fits τ v = T (has_ty τ v) × WT v

alone : (τ : Ty) (vs : List Val) → Typed (τ ∷ []) vs → (v : Val) × ((vs ≡ v ∷ []) × Fits τ v)
alone τ [] t = absurd t
alone τ (v ∷ []) t = (v, (refl, t.0))
alone τ (v ∷ w ∷ vs) t = absurd t.1

module _ {M : Type 1} {𝓤 : Ura M} {𝓛 : Logic 𝓤} {K : Type 0} {Γ : List (Item 𝓤)} {G : Goal 𝓤 𝓛.H}
  where
    pub one_value : K → (X : RattleType) → Laws X → (x : X.Denot) (vs : List Val) →
        ((u : Val) → vs ≡ u ∷ [] → Fits (layout X) u → Seq K 𝓛 (‵ (X.own_val x (u ∷ [])) ∷ Γ) G) →
        Seq K 𝓛 (‵ (X.own_val x vs) ∷ Γ) G
    one_value t X L x vs k =
        peeks t X (Is X) (shows 𝓛 X) x vs (λ is.
        let one =
        alone (layout X) vs (subst (λ τs. Typed τs vs) L.one ((L.lawful 𝓛).typed x vs is)) in
        rewrite t 0 (λ (us : List Val). ‵ (X.own_val x us)) one.1.0 refl $ k one.0 one.1.0 one.1.1)

    pub by_result : K → (X Y : RattleType) → Laws X → Laws Y →
        (r : (Result.the_row X Y).Denot) (v : Val)
        → ((x : X.Denot) (u : Val) → r ≡ Ok x → v ≡ live 0 (vcons u vnil) → Fits (layout X) u →
        Seq K 𝓛 (‵ (X.own_val x (u ∷ [])) ∷ Γ) G)
        → ((y : Y.Denot) (u : Val) → r ≡ Err y → v ≡ live 1 (vcons u vnil) → Fits (layout Y) u →
        Seq K 𝓛 (‵ (Y.own_val y (u ∷ [])) ∷ Γ) G)
        → Seq K 𝓛 (‵ ((Result.the_row X Y).own_val r (v ∷ [])) ∷ Γ) G
    by_result t X Y LX LY (Ok x) v ok err =
        fpick t
        (λ us. fsplit t $ feq_l t
        (λ e. fpick t (λ vss. fsplit t $ feq_l t (λ e'. fsplit t $ move t (1 ∷ []) $ drop t $
        one_value t X LX x vss.0
        (λ u is. ok x u refl
        (ap only e
        ∙ ap (λ (ws : List Val). live 0 (of_list ws))
        (e' ∙ ap (λ (ws : List Val). ws ++ []) is)))))))
    by_result t X Y LX LY (Err y) v ok err =
        fpick t
        (λ us. fsplit t $ feq_l t
        (λ e. fpick t (λ vss. fsplit t $ feq_l t (λ e'. fsplit t $ move t (1 ∷ []) $ drop t $
        one_value t Y LY y vss.0
        (λ u is. err y u refl
        (ap only e
        ∙ ap (λ (ws : List Val). live 1 (of_list ws))
        (e' ∙ ap (λ (ws : List Val). ws ++ []) is)))))))

module _ {M : Type 1} {𝓤 : Ura M} (𝓛 : Logic 𝓤) (ρ : Lft) (q : Share) where
  open 𝓛 use {H, A}

  abbrev pub Ends : ℕ → Share → SProp 𝓤
  Ends a s = wand 𝓤 (A.lft (a ∷ ρ) s) (H.⇛ (sep 𝓤 (A.dead (a ∷ ρ)) (A.lft ρ q)))

  abbrev pub Begun : ℕ × Share → SProp 𝓤
  Begun p = sep 𝓤 (A.lft (p.0 ∷ ρ) p.1) (Ends p.0 p.1)

  pub begins : ent 𝓤 (A.lft ρ q) (H.⇛ (ex 𝓤 Begun))
  begins =
      qed 𝓛 (‵ (flft ρ q) ∷ []) ∵ updating ! $ lft_new ! tt (λ a.
      let s : Share = (common full_share q).0 in
      let Back : SProp 𝓤 =
      wand 𝓤 (A.lft (a ∷ ρ) s) (sep 𝓤 (A.lft (a ∷ []) full_share) (A.lft ρ q)) in
      use2 𝓛 (‵ (flft (a ∷ ρ) s) ⊛ raw Back) (lft-common 𝓛 (a ∷ []) ρ full_share q) $ split ! $ move
      ! (1 ∷ []) $
      use1 𝓛 (raw (Ends a s))
      (wand_i 𝓤 Back (A.lft (a ∷ ρ) s) _
      (qed 𝓛 (raw Back ∷ ‵ (flft (a ∷ ρ) s) ∷ []) ∵ updating ! $ move ! (1 ∷ 0 ∷ []) $
      use2 𝓛 (‵ (flft (a ∷ []) full_share) ⊛ ‵ (flft ρ q))
      (apply∗ 𝓤 (A.lft (a ∷ ρ) s) (sep 𝓤 (A.lft (a ∷ []) full_share) (A.lft ρ q))) $ split ! $
      lft_end ! tt $
      use1 𝓛 (‵ (fdead (a ∷ ρ))) (𝓛.lfts.dead-incl (a ∷ ρ) (a ∷ []) (meet_⊑_left (a ∷ []) ρ)) $
      at_once ! $ done !)) $
      at_once ! $ show ! Begun (a, s) $ move ! (1 ∷ 0 ∷ []) $ done !)

pub Goes-blank : {M : Type 1} {𝓤 : Ura M} (𝓛 : Logic 𝓤) (n : ℕ) (s : Slot n) (k : Kept) →
    ((κs : Lfts n) (x : (s.row κs).Denot) (f : Last ((s.row κs).exit k) x) →
    T (blank (left ((s.row κs).exit k) x f))) → Goes 𝓛 n s k (stay_dropped s k)
Goes-blank {𝓤 = 𝓤} 𝓛 n s k is κs x f vs ok =
    via 𝓤 _ (had 𝓛 (left ((s.row κs).exit k) x f) (is κs x f)) (𝓛.laws.⇛_intro _)
