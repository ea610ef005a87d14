-- `picked` makes the empty struct, with the steps that are picked. Assumes `Logic`.
use mathlib.Core.Path.{refl}
use mathlib.Core.List.{[], ◌∷◌}
use mir.Syntax.{a_type, named}
use mir.MapTy.{inst_fn}
use mir.Val.{vptr, vstruct, vcons, vnil}
use base.Logic.{via, fst∗}
use types.Kit.{‵, raw, ◌$◌, ◌∵◌, !, qed, move, suffices, done}
use types.Run.{no_more, and_then, returns, enter}
use types.Part.{agg}
use types.ByLocal.{alloc_all, pass_all, free_all, look_at, get, sets}
use denote.Exit.{yes}
use denote.Param.{layouts}
use denote.RattleType.{RattleType, owns}
use denote.Ref.{shr_vals, shr_Tells}
use denote.Shadow.{pure_i}
use denote.Signature.{plain, types_at}
use denote.Triple.Entry.{alive}
use denote.Triple.Walked.{says, stay_none_ref, Stays, walk_of, ends_at, Goes-none_ref}
use Rattle.std.proofs.raw_atomic.Walks.{proved}
use Rattle.circle_challenger.specs.contracts.due.StepsDue.picked as f
use Rattle.circle_challenger.proofs.due.StepsDue.picked.Statement.{statement}
use Rattle.circle_challenger.proofs.due.StepsDue.picked.Code as code
use Rattle.circle_challenger.specs.contracts.due.StepsDue as made
use Rattle.circle_challenger.specs.declared.due.StepsDue.{StepsDue}

abbrev stayed : (C T : RattleType) → Stays (f.ended C T).signature.params (f.ended C T).kept
stayed C T = (stay_none_ref (0 ∷ []) tt (plain (λ _. f.T-row C T)) yes, tt)

pub picked_spec : {M : Type 1} → statement M
picked_spec 𝓤 𝓛 𝓜 𝓡 wired C T C_laws T_laws =
    let c = f.clauses C T 𝓛 𝓜.mem 𝓡.returns in
    let of_types = layouts (a_type ∷ a_type ∷ []) (C, (T, tt)) in
    let T_row = plain {n = 3} (λ _. f.T-row C T) in
    proved 𝓛 (f.ended C T) (stayed C T) c 𝓜 𝓡 (Goes-none_ref 𝓛 3 (0 ∷ []) tt T_row yes, tt)
    (f.Key.name of_types) (inst_fn of_types code.function)
    (code.unfolded 𝓤 𝓛.H 𝓜 𝓡 wired (C, (T, tt)))
    (λ κs. (shr_vals, tt)) (λ κs. (shr_Tells (named 0) κs.0 (f.T-row C T), tt))
    (λ κs qs bounds a g are.
    let reference = vptr a.0.ref_ptr.0 a.0.ref_ptr.1 in
    let contract = walk_of 𝓛 (f.ended C T) (stayed C T) c in
    let y : contract.Ghost = ((κs, qs, bounds, a, (reference ∷ [], tt)), g) in
    let tokens = raw (alive 𝓛 (f.signature C T) κs qs) in
    let params = ‵ (owns (types_at (f.signature C T).params κs) a (reference ∷ [], tt)) in
    let kept : StepsDue C.Denot = record { of = record {}; steps = g.0; challenger = g.1 } in
    let value = vstruct (vcons (vstruct vnil) vnil) in
    via 𝓤 _ (fst∗ 𝓤 _ ((c κs a).requires g)) (
    qed 𝓛 (tokens ∷ params ∷ []) ∵ enter ! _ _ _ _ _ $
    alloc_all ! (λ l. pass_all ! refl ((tt, tt), tt) $ sets ! (agg ! (no_more !)) refl (tt, tt) $
    sets ! (agg ! (and_then ! (get ! refl) (no_more !))) refl (tt, (tt, tt)) $
    returns ! (look_at ! 0 refl) $ free_all ! refl $
    suffices ! _ (ends_at 𝓛 (f.ended C T) (stayed C T) c y value kept (tt, tt) (tt, tt)) $
    says ! (refl, refl) $
    pure_i ! ((made.the_row C).own_val kept (value ∷ [])) ((λ vss. (tt, ((λ u. (tt, tt)), tt))), tt)
    ((((vstruct vnil ∷ []), tt), (refl, ((tt, (refl, tt)), tt))), tt) $
    move ! (1 ∷ 2 ∷ 0 ∷ []) $ done !)))
