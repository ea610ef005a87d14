-- `new` seeds the challenger, and lends it to the transcript where memory is not refused. Assumes
-- `Logic`.
use mathlib.Core.Path.{◌≡◌, refl, sym, ap, subst, ◌∙◌}
use Prim.Native.Nat.{ℕ}
use mathlib.Core.List.{List, [], ◌∷◌, ◌++◌}
use seplogic.Ra.Ura.{Ura}
use base.Share
use base.Logic.{SProp, ent, sep, ex, emp, apply∗, id⊢, via, ex_i}
use base.Fml.{Lft, GName, Share, Fml, ftrue, flft, fdead, fres}
use mir.Syntax.{Fn, Args, Dict, Dicts, impl, Body, Callee, a_type, named, method, tnil, dnil, dcons}
use mir.Syntax.{skip, seq, assign, block, loop, cond, switch, exit, return, call, call_v}
use mir.Syntax.{unreachable, lend_static}
use mir.MapTy.{inst_fn}
use mir.Val.{Val, vptr, vcons, vnil}
use prog.Wp.{Env, Wp, WpFn, Tables, after_seq, at_return}
use types.Logic.{Logic, sem}
use types.Kit.{mean, prop, any_q, Post as After, Item, ⋆, ‵, raw, ◌⊛◌, some, given, later, at_ret}
use types.Kit.{◌$◌, ◌∵◌, !, qed, by, move, keep, use0, use1, use2, use3, drop, split, split3, join}
use types.Kit.{group, pick, learn, check, show, rewrite, regoal, await, updating, now as at_once}
use types.Kit.{fsplit, fsplit3, fjoin, feq_i, feq_l, suffices, done}
use types.Match.{live, vrt, in_variant}
use types.Part.{whole, agg}
use types.Run.{stop, fld, addr, of_opd, lit, and_then, no_more, first, switches_on, exec, returns}
use types.Run.{enter}
use types.ByLocal.{alloc_all, pass_all, free_all, look_at, get, get_in, get_tag, through, sets}
use types.ByLocal.{sets_last, lands_as, env}
use contract.BorrowLft.{◌⊑◌, ⊑_refl, ⊑_trans, meet_⊑_right}
use contract.Lifetimes.{Lfts, Outlives, Shares, AllOutlive}
use contract.Monad.{fact, fact_i}
use contract.Running.{tables, tables_of}
use sound.WpLaws.{WpFn-mono, fm_of}
use borrow.Follows.Kept.{follows_itself}
use denote.Builtin.{RefMutOf}
use denote.Exit.{yes, no}
use denote.RattleType.{RattleType, owns}
use denote.Follow.{such_by, follows_by, follows_if, follows}
use denote.Lend.{LentAgain, lends_again, comes_back}
use denote.Param.{layout, bounded}
use denote.Param.Laws.{Laws, param_laws, copied_laws}
use denote.Ref.{MutBor, MutRef}
use denote.Signature.{Slot, types_at, named_lft, plain}
use denote.Steps.{nothing, only}
use denote.Triple.Call.{calls_at}
use denote.Triple.Clauses.{Clauses, Ended, closing, lasts, Lasts}
use denote.Triple.Spec.{Meets, triple_of}
use denote.Triple.Statement.{Contract, Triple}
use denote.Triple.Table.{entered}
use denote.Triple.Walked.{Stays, stay_dropped, walk_of, ends_at, walk_Meets, Goes-spent_ref}
use Rattle.std.proofs.ResultValues.{ok_of, err_of}
use Rattle.std.proofs.RcSteps.{first_Good, some_Good}
use Rattle.std.proofs.VecSteps.Shapes.{after, head, arm_body}
use Rattle.std.proofs.alloc.AllocError.TheLaws as RefusedLaws
use Rattle.std.proofs.alloc.Global.TheLaws as GlobalLaws
use Rattle.std.specs.Prelude.{◌≤◌, IfOk, OnOk, OnErr, Ok, Err, map}
use Rattle.std.specs.Borrow.{RestsIfErr, name_if_ok}
use Rattle.std.specs.contracts.alloc.AllocError as Refused
use Rattle.std.specs.contracts.alloc.Global as Global
use Rattle.std.specs.contracts.result.Result as Result
use Rattle.circle_field.specs.Field.{of_nat}
use Rattle.circle_challenger.specs.Moves.{run_moves}
use Rattle.circle_challenger.specs.Observing.{after_all}
use Rattle.circle_challenger.specs.Step.{Step}
use Rattle.circle_transcript.specs.Numbers.{numbers_of}
use Rattle.circle_transcript.specs.Shape.{steps_of, text_of}
use Rattle.circle_transcript.specs.ShapeOf.{shape_of}
use Rattle.circle_transcript.specs.Transcript.{Borrows}
use Rattle.circle_challenger.specs.declared.challenger.ChallengerState as States
use Rattle.circle_transcript.specs.declared.moves.TranscriptMoves as Moves
use Rattle.circle_transcript.specs.declared.shape.CirclePcsShape.{CirclePcsShape}
use Rattle.circle_transcript.specs.declared.transcript.Numbers.{Numbers}
use Rattle.circle_transcript.specs.contracts.shape.CirclePcsShape as Shape
use Rattle.circle_transcript.specs.contracts.transcript.CircleTranscript as Transcript
use Rattle.circle_transcript.specs.contracts.transcript.CircleTranscript.new as N
use Rattle.circle_transcript.specs.contracts.transcript.CircleTranscript.new.Key.{name}
use Rattle.circle_transcript.specs.contracts.transcript.CircleTranscript.seeded as S
use Rattle.circle_transcript.specs.contracts.transcript.Seeded as Seeded
use Rattle.circle_transcript.proofs.ByHand.{Fits, one_value, by_result, Ends, begins, Goes-blank}
use Rattle.circle_transcript.proofs.shape.CirclePcsShape.TheLaws as ShapeLaws
use Rattle.circle_transcript.proofs.transcript.CircleTranscript.TheLaws as TranscriptLaws
use Rattle.circle_transcript.proofs.transcript.CircleTranscript.new.Code as code
use Rattle.circle_transcript.proofs.transcript.CircleTranscript.new.Statement.{statement}
use Rattle.circle_transcript.proofs.transcript.CircleTranscript.of_seeded.Met as of_seeded
use Rattle.circle_transcript.proofs.transcript.CircleTranscript.seeded.Met as seeded
use Rattle.circle_transcript.proofs.transcript.Seeded.TheLaws as SeededLaws

-- the types of a transcript
record Rows : Type 2 where
  F : RattleType
  EF : RattleType
  C : RattleType
  S : RattleType
  Com : RattleType
  State : RattleType
  moves : Moves.Ghosts C.Denot F.Denot EF.Denot Com.Denot State.Denot
  states : States.Ghosts C.Denot State.Denot

-- what the contracts say of the shape and of the challenger
record Says (R : Rows) : Type 0 where
  steps : CirclePcsShape → List Step
  numbers : CirclePcsShape → Numbers
  state : R.C.Denot → R.State.Denot
  after : R.C.Denot → CirclePcsShape → R.State.Denot

-- what is required of the shape
abbrev few : CirclePcsShape → Type 0
few d = d.log_final_poly_len ≤ 63

-- ---- the code
abbrev none : Dict
none = impl [] tnil dnil

abbrev callee : Body → Callee
callee (call f xs p) = f
callee skip = method none 0 (tnil, dnil)
callee (seq a b) = method none 0 (tnil, dnil)
callee (assign p v) = method none 0 (tnil, dnil)
callee (block b) = method none 0 (tnil, dnil)
callee (loop b) = method none 0 (tnil, dnil)
callee (cond a b c) = method none 0 (tnil, dnil)
callee (switch a b) = method none 0 (tnil, dnil)
callee (exit n) = method none 0 (tnil, dnil)
callee return = method none 0 (tnil, dnil)
callee (call_v a b c d) = method none 0 (tnil, dnil)
callee unreachable = method none 0 (tnil, dnil)
callee (lend_static a b c) = method none 0 (tnil, dnil)

module _ (R : Rows) (ds : Dicts) where
  abbrev args : Args
  args =
      bounded (a_type ∷ a_type ∷ a_type ∷ a_type ∷ a_type ∷ a_type ∷ [])
      (R.F, (R.EF, (R.C, (R.S, (R.Com, (R.State, tt)))))) ds

  abbrev function : Fn
  function = inst_fn args code.function

  -- the match, the call of `seeded` before it, and that of `of_seeded` in its first arm
  abbrev match : Body
  match = head (after 3 function.body)

  abbrev seeded_key : Callee
  seeded_key = callee (head (after 2 function.body))

  abbrev of_seeded_key : Callee
  of_seeded_key = callee (head (after 3 (arm_body 0 match)))

-- ---- the three contracts
module _ (R : Rows) where
  abbrev C-row : RattleType
  C-row = N.C-row R.F R.EF R.C R.S R.Com R.State

  abbrev Made : Lfts 7 → RattleType
  Made κs = Transcript.the_row (named_lft 7 0 tt κs) C-row (N.F-row R.F R.EF R.C R.S R.Com R.State)
      (N.EF-row R.F R.EF R.C R.S R.Com R.State) (N.Com-row R.F R.EF R.C R.S R.Com R.State)
      (N.S-row R.F R.EF R.C R.S R.Com R.State) (N.C-State-row R.F R.EF R.C R.S R.Com R.State)
      R.moves R.states

  -- the challenger's type outlives the reference
  abbrev outlives : List (Outlives 7)
  outlives = record { long = 3; long_ok = tt; short = named 0; short_ok = tt } ∷ []

  abbrev lends : Slot 7
  lends = RefMutOf (0 ∷ []) tt (plain (λ _. C-row)) (λ _. tt)

  abbrev ended : Ended
  ended = record {
    signature = record {
      lifetimes = 7;
      outlives = outlives;
      params = plain (λ _. Global.the_row) ∷ lends ∷ plain (λ _. Shape.the_row) ∷ [];
      result = plain (λ κs. Result.the_row (Made κs) Refused.the_row);
    };
    kept = (yes, (no, (yes, tt)));
  }

  abbrev seeding : Ended
  seeding = record {
    signature = S.signature R.F R.EF R.C R.S R.Com R.State;
    kept = (yes, (yes, (yes, tt)));
  }

  abbrev making : Ended
  making = record {
    signature = record {
      lifetimes = 7;
      outlives = outlives;
      params = lends ∷ plain (λ _. Seeded.the_row C-row) ∷ [];
      result = plain Made;
    };
    kept = (no, (yes, tt));
  }

  abbrev stayed : Stays ended.signature.params ended.kept
  stayed = (
    stay_dropped _ yes,
    (
      stay_dropped lends no,
      (stay_dropped _ yes, tt),
    ),
  )

module _ (R : Rows) (w : Says R) {M : Type 1} {𝓤 : Ura M} (𝓛 : Logic 𝓤) where
  open 𝓛 use {H, A}

  -- the types outlive their lifetimes, and what else is required
  abbrev Asked : Lft → Lft → Lft → Lft → Lft → Lft → SProp 𝓤 → SProp 𝓤
  Asked κF κE κC κS κM κT also =
      sep 𝓤 (fact 𝓤 (κF ⊑ R.F.lives))
      (sep 𝓤 (fact 𝓤 (κE ⊑ R.EF.lives))
      (sep 𝓤 (fact 𝓤 (κC ⊑ R.C.lives))
      (sep 𝓤 (fact 𝓤 (κS ⊑ R.S.lives))
      (sep 𝓤 (fact 𝓤 (κM ⊑ R.Com.lives)) (sep 𝓤 (fact 𝓤 (κT ⊑ R.State.lives)) also)))))

  abbrev held : Clauses 𝓤 (ended R)
  held κs a = record {
    ghost = Unit {0};
    requires = λ _. Asked κs.1.0 κs.1.1.0 κs.1.1.1.0 κs.1.1.1.1.0 κs.1.1.1.1.1.0
        κs.1.1.1.1.1.1.0 (fact 𝓤 (few a.1.1.0));
    ensures =
        λ _ r _. sep 𝓤
        (sem 𝓛 (RestsIfErr (C-row R) a.1.0 (λ t. t.challenger.ghost_name) r (λ n. n ≡ a.1.0.now)))
        (sep 𝓤 (fact 𝓤 (IfOk r (λ t. Borrows t a.1.0)))
        (sep 𝓤 (fact 𝓤 (IfOk r (λ t. t.shape ≡ w.numbers a.1.1.0)))
        (sep 𝓤 (fact 𝓤 (IfOk r (λ t. t.due.steps ≡ w.steps a.1.1.0)))
        (fact 𝓤 (IfOk r (λ t. w.state t.challenger.now ≡ w.after a.1.0.now a.1.1.0))))));
  }

  abbrev seeds : Clauses 𝓤 (seeding R)
  seeds κs a = record {
    ghost = Unit {0};
    requires = λ _. Asked κs.1.1.0 κs.1.1.1.0 κs.1.1.1.1.0 κs.1.1.1.1.1.0 κs.1.1.1.1.1.1.0
        κs.1.1.1.1.1.1.1.0 (fact 𝓤 (few a.1.1.0));
    ensures =
        λ _ r e. sep 𝓤 (fact 𝓤 (OnErr r (e.1.0.now ≡ a.1.0.now)))
        (sep 𝓤 (fact 𝓤 (IfOk r (λ s. s.due.steps ≡ w.steps a.1.1.0)))
        (sep 𝓤 (fact 𝓤 (IfOk r (λ s. s.shape ≡ w.numbers a.1.1.0)))
        (sep 𝓤 (fact 𝓤 (OnOk r (w.state e.1.0.now ≡ w.after a.1.0.now a.1.1.0)))
        (fact 𝓤 (IfOk r (λ s. e.1.0.now ≡ s.due.challenger))))));
  }

  abbrev makes : Clauses 𝓤 (making R)
  makes κs a = record {
    ghost = Unit {0};
    requires = λ _. Asked κs.1.0 κs.1.1.0 κs.1.1.1.0 κs.1.1.1.1.0 κs.1.1.1.1.1.0
        κs.1.1.1.1.1.1.0 (fact 𝓤 (a.0.now ≡ a.1.0.due.challenger));
    ensures =
        λ _ t _. sep 𝓤 (fact 𝓤 (Borrows t a.0))
        (sep 𝓤 (fact 𝓤 (t.challenger.now ≡ a.0.now))
        (sep 𝓤 (fact 𝓤 (t.due.steps ≡ a.1.0.due.steps)) (fact 𝓤 (t.shape ≡ a.1.0.shape))));
  }

  abbrev Walked : Contract 𝓤
  Walked = walk_of 𝓛 (ended R) (stayed R) held

  abbrev Seeding : Contract 𝓤
  Seeding = triple_of 𝓛 (seeding R).signature (closing 𝓛 (seeding R) seeds)

  abbrev Making : Contract 𝓤
  Making = triple_of 𝓛 (making R).signature (closing 𝓛 (making R) makes)

  abbrev lent : Lft → ℕ × ℕ → GName → R.C.Denot → Fml
  lent κ p δ c =
      (MutRef (named 0) κ (C-row R)).own_val (record { ref_ptr = p; ghost_name = δ; now = c })
      (vptr p.0 p.1 ∷ [])

  asked : (κF κE κC κS κM κT : Lft) (also : SProp 𝓤) → κF ⊑ R.F.lives → κE ⊑ R.EF.lives →
      κC ⊑ R.C.lives → κS ⊑ R.S.lives → κM ⊑ R.Com.lives → κT ⊑ R.State.lives →
      ent 𝓤 (emp 𝓤) also → ent 𝓤 (emp 𝓤) (Asked κF κE κC κS κM κT also)
  asked κF κE κC κS κM κT also f e c s m t x =
      qed 𝓛 [] ∵ use0 𝓛 (raw also) x $ use0 𝓛 (raw (fact 𝓤 (κT ⊑ R.State.lives)))
      (fact_i 𝓤 _ (emp 𝓤) t) $ use0 𝓛 (raw (fact 𝓤 (κM ⊑ R.Com.lives)))
      (fact_i 𝓤 _ (emp 𝓤) m) $ use0 𝓛 (raw (fact 𝓤 (κS ⊑ R.S.lives))) (fact_i 𝓤 _ (emp 𝓤) s) $
      use0 𝓛 (raw (fact 𝓤 (κC ⊑ R.C.lives))) (fact_i 𝓤 _ (emp 𝓤) c) $ use0 𝓛
      (raw (fact 𝓤 (κE ⊑ R.EF.lives))) (fact_i 𝓤 _ (emp 𝓤) e) $
      use0 𝓛 (raw (fact 𝓤 (κF ⊑ R.F.lives))) (fact_i 𝓤 _ (emp 𝓤) f) $ done !

  module _ (κs : Lfts 7) (qs : Shares 7) (bounds : AllOutlive 7 (making R).signature.outlives κs)
      (iF : κs.1.0 ⊑ R.F.lives) (iE : κs.1.1.0 ⊑ R.EF.lives) (iC : κs.1.1.1.0 ⊑ R.C.lives)
      (iS : κs.1.1.1.1.0 ⊑ R.S.lives) (iM : κs.1.1.1.1.1.0 ⊑ R.Com.lives)
      (iT : κs.1.1.1.1.1.1.0 ⊑ R.State.lives)
      (p : ℕ × ℕ) (γ : GName) (c : R.C.Denot) (g : (Global.the_row).Denot) (d : CirclePcsShape)
      (v₀ v₂ : Val) (is_few : few d) where
    abbrev Tokens : Item 𝓤
    Tokens = ‵ (flft κs.0 qs.0) ⊛ ‵ (flft κs.1.0 qs.1.0) ⊛ ‵ (flft κs.1.1.0 qs.1.1.0) ⊛ ‵
        (flft κs.1.1.1.0 qs.1.1.1.0) ⊛ ‵ (flft κs.1.1.1.1.0 qs.1.1.1.1.0) ⊛ ‵
        (flft κs.1.1.1.1.1.0 qs.1.1.1.1.1.0) ⊛ ‵
        (flft κs.1.1.1.1.1.1.0 qs.1.1.1.1.1.1.0) ⊛ ‵ ftrue

    -- the tokens of Com and of State, which go together
    abbrev Last : Item 𝓤
    Last = ‵ (flft κs.1.1.1.1.1.0 qs.1.1.1.1.1.0) ⊛ ‵ (flft κs.1.1.1.1.1.1.0 qs.1.1.1.1.1.1.0)

    abbrev self : MutBor R.C.Denot
    self = record { ref_ptr = p; ghost_name = γ; now = c }

    -- ---- the call of `seeded`, with the reference lent again inside the challenger's lifetime
    module _ (κ : Lft) (q : Share) (δ : GName) where
      abbrev at_seeds : Seeding.Ghost
      at_seeds = (
        (
          (κ, (κ, (κs.1.0, (κs.1.1.0, (κ, κs.1.1.1.1))))),
          (
            Share.left q,
            (
              Share.left (Share.right q),
              (qs.1.0, (qs.1.1.0, (Share.right (Share.right q), qs.1.1.1.1))),
            ),
          ),
          (⊑_refl κ, (⊑_refl κ, tt)),
          (g, (record { ref_ptr = p; ghost_name = δ; now = c }, (d, tt))),
          (v₀ ∷ [], (vptr p.0 p.1 ∷ [], (v₂ ∷ [], tt))),
        ),
        tt,
      )

      abbrev Brings : List (Item 𝓤)
      Brings = ‵ (flft κ q) ∷ ‵ (lent κ p δ c) ∷ ‵ (flft κs.1.0 qs.1.0) ∷ ‵ (flft κs.1.1.0 qs.1.1.0)
          ∷ ‵ (flft κs.1.1.1.1.0 qs.1.1.1.1.0) ∷ Last
          ∷ ‵ ((Global.the_row).own_val g (v₀ ∷ [])) ∷ ‵ ((Shape.the_row).own_val d (v₂ ∷ [])) ∷ []

      seeds_goes : κ ⊑ R.C.lives → ent 𝓤 (⋆ 𝓛 Brings) (Seeding.pre at_seeds)
      seeds_goes i =
          qed 𝓛 Brings ∵ use1 𝓛 (‵ (flft κ (Share.left q)) ⊛ ‵ (flft κ (Share.right q)))
          (𝓛.lfts.lft_split κ q) $ split ! $ move ! (1 ∷ []) $
          use1 𝓛
          (‵ (flft κ (Share.left (Share.right q))) ⊛ ‵ (flft κ (Share.right (Share.right q))))
          (𝓛.lfts.lft_split κ (Share.right q)) $ split ! $
          use0 𝓛 (raw (Asked κs.1.0 κs.1.1.0 κ κs.1.1.1.1.0 κs.1.1.1.1.1.0 κs.1.1.1.1.1.1.0
          (fact 𝓤 (few d))))
          (asked κs.1.0 κs.1.1.0 κ κs.1.1.1.1.0 κs.1.1.1.1.1.0 κs.1.1.1.1.1.1.0 (fact 𝓤 (few d))
          iF iE i iS iM iT (fact_i 𝓤 _ (emp 𝓤) is_few)) $ nothing ! $ nothing ! $
          move ! (11 ∷ 6 ∷ 12 ∷ 0 ∷ []) $ group ! 4 $ move ! (5 ∷ 3 ∷ 6 ∷ 7 ∷ 4 ∷ 8 ∷ 9 ∷ 1 ∷ []) $
          move ! (6 ∷ []) $ split ! $ move ! (2 ∷ 3 ∷ 4 ∷ 5 ∷ 6 ∷ 7 ∷ 0 ∷ 1 ∷ 8 ∷ []) $
          group ! 9 $ join ! $ done !

      abbrev Out : RattleType
      Out = Result.the_row (Seeded.the_row (C-row R)) Refused.the_row

      abbrev Told : Out.Denot → R.C.Denot → Type 0
      Told r n = OnErr r (n ≡ c) × IfOk r (λ s. s.due.steps ≡ w.steps d)
          × IfOk r (λ s. s.shape ≡ w.numbers d) × OnOk r (w.state n ≡ w.after c d)
          × IfOk r (λ s. n ≡ s.due.challenger)

      abbrev Gave : Val → Out.Denot × R.C.Denot → Item 𝓤
      Gave v a =
          given (Told a.0 a.1)
          (‵ (flft κ q) ⊛ ‵ (fres δ ((C-row R).coded.code a.1)) ⊛ ‵ (flft κs.1.0 qs.1.0) ⊛ ‵
          (flft κs.1.1.0 qs.1.1.0) ⊛ ‵ (flft κs.1.1.1.1.0 qs.1.1.1.1.0) ⊛ Last
          ⊛ ‵ (Out.own_val a.0 (v ∷ [])))

      seeds_gives : (v : Val) →
          ent 𝓤 (Seeding.post at_seeds v) (H.⇛ (ex 𝓤 (λ a. mean 𝓛 (Gave v a))))
      seeds_gives v =
          qed 𝓛 (raw (Seeding.post at_seeds v) ∷ []) ∵ updating ! $
          use1 𝓛
          (later
          (some
          (λ (r : Out.Denot).
          ((‵ (flft κ (Share.left q)) ⊛ ‵ (flft κ (Share.left (Share.right q))) ⊛ ‵
          (flft κs.1.0 qs.1.0) ⊛ ‵ (flft κs.1.1.0 qs.1.1.0) ⊛ ‵
          (flft κ (Share.right (Share.right q))) ⊛ ‵ (flft κs.1.1.1.1.0 qs.1.1.1.1.0) ⊛ ‵
          (flft κs.1.1.1.1.1.0 qs.1.1.1.1.1.0) ⊛ ‵
          (flft κs.1.1.1.1.1.1.0 qs.1.1.1.1.1.1.0) ⊛ ‵ ftrue) ⊛ ‵ (Out.own_val r (v ∷ [])))
          ⊛ some
          (λ (ws : Lasts (seeding R) at_seeds.0.0 at_seeds.0.3). ‵
          (lasts (seeding R) at_seeds.0.0 at_seeds.0.3 ws)
          ⊛ given (OnErr r (ws.1.0 ≡ c)) (‵ ftrue) ⊛ given (IfOk r (λ s. s.due.steps ≡ w.steps d))
          (‵ ftrue) ⊛ given (IfOk r (λ s. s.shape ≡ w.numbers d)) (‵ ftrue) ⊛ given
          (OnOk r (w.state ws.1.0 ≡ w.after c d)) (‵ ftrue)
          ⊛ given (IfOk r (λ s. ws.1.0 ≡ s.due.challenger)) (‵ ftrue))))) (id⊢ 𝓤 _) $
          await ! tt $ pick !
          (λ r. split ! $ move ! (1 ∷ []) $ pick !
          (λ ws. split ! $ fsplit ! $ drop ! $ fsplit ! $ fsplit ! $ move ! (3 ∷ []) $
          split ! $ learn !
          (λ k₁. drop ! $ split ! $ learn !
          (λ k₂. drop ! $ split ! $ learn ! (λ k₃. drop ! $ split ! $ learn ! (λ k₄. drop ! $
          learn ! (λ k₅. drop ! $
          move ! (3 ∷ []) $ split ! $ split3 ! $ move ! (2 ∷ []) $ split3 ! $ move ! (2 ∷ []) $
          split3 ! $ move ! (2 ∷ []) $ split3 ! $ join ! $
          -- [the tokens of Com and State, none, C, S, F, EF, and the two others of κ; the result;
          -- the last
          -- value]
          move ! (7 ∷ 2 ∷ []) $ use2 𝓛 (‵ (flft κ (Share.right q))) (𝓛.lfts.lft_join
          κ (Share.right q)) $ move ! (6 ∷ 0 ∷ []) $ use2 𝓛 (‵ (flft κ q)) (𝓛.lfts.lft_join κ q)
          $
          at_once ! $ show ! (λ a. mean 𝓛 (Gave v a)) (r, ws.1.0) $ check ! (k₁, k₂, k₃, k₄, k₅) $
          keep ! (0 ∷ 7 ∷ 4 ∷ 5 ∷ 3 ∷ 1 ∷ 6 ∷ []) $ done !)))))))

    -- ---- the call of `of_seeded`, which takes the reference
    module _ (n : R.C.Denot) (x : (Seeded.the_row (C-row R)).Denot) (u : Val) where
      abbrev at_makes : Making.Ghost
      at_makes = (
        (
          κs,
          qs,
          bounds,
          (record { ref_ptr = p; ghost_name = γ; now = n }, (x, tt)),
          (vptr p.0 p.1 ∷ [], (u ∷ [], tt)),
        ),
        tt,
      )

      abbrev Given : List (Item 𝓤)
      Given = Tokens ∷ ‵ (lent κs.0 p γ n) ∷ ‵ ((Seeded.the_row (C-row R)).own_val x (u ∷ [])) ∷ []

      abbrev same : SProp 𝓤
      same = fact 𝓤 (n ≡ x.due.challenger)

      makes_goes : n ≡ x.due.challenger → ent 𝓤 (⋆ 𝓛 Given) (Making.pre at_makes)
      makes_goes paused =
          qed 𝓛 Given ∵ use0 𝓛
          (raw (Asked κs.1.0 κs.1.1.0 κs.1.1.1.0 κs.1.1.1.1.0 κs.1.1.1.1.1.0 κs.1.1.1.1.1.1.0
          same))
          (asked κs.1.0 κs.1.1.0 κs.1.1.1.0 κs.1.1.1.1.0 κs.1.1.1.1.1.0 κs.1.1.1.1.1.1.0 same
          iF iE iC iS iM iT (fact_i 𝓤 _ (emp 𝓤) paused)) $
          nothing ! $ move ! (3 ∷ 4 ∷ 0 ∷ []) $ group ! 3 $ move ! (2 ∷ 0 ∷ []) $ join ! $ done !

      abbrev Formed : Val → (Made R κs).Denot → Item 𝓤
      Formed v t =
          given (Borrows t self × (t.challenger.now ≡ n) × (t.due.steps ≡ x.due.steps)
          × (t.shape ≡ x.shape)) (Tokens ⊛ ‵ ((Made R κs).own_val t (v ∷ [])))

      makes_gives : (v : Val) →
          ent 𝓤 (Making.post at_makes v) (H.⇛ (ex 𝓤 (λ t. mean 𝓛 (Formed v t))))
      makes_gives v =
          qed 𝓛 (raw (Making.post at_makes v) ∷ []) ∵ updating ! $
          use1 𝓛
          (later
          (some (λ (t : (Made R κs).Denot). (Tokens ⊛ ‵ ((Made R κs).own_val t (v ∷ []))) ⊛ some
          (λ (ws : Lasts (making R) κs at_makes.0.3). ‵ (lasts (making R) κs at_makes.0.3 ws)
          ⊛ given (Borrows t self) (‵ ftrue) ⊛ given (t.challenger.now ≡ n) (‵ ftrue) ⊛ given
          (t.due.steps ≡ x.due.steps) (‵ ftrue) ⊛ given (t.shape ≡ x.shape) (‵ ftrue)))))
          (id⊢ 𝓤 _) $
          await ! tt $ pick ! (λ t. split ! $ move ! (1 ∷ []) $ pick ! (λ ws. split ! $ drop ! $
          split ! $ learn !
          (λ k₁. drop ! $ split ! $ learn !
          (λ k₂. drop ! $ split ! $ learn ! (λ k₃. drop ! $ learn ! (λ k₄. drop ! $
          at_once ! $ show ! (λ z. mean 𝓛 (Formed v z)) t $ check ! (k₁, k₂, k₃, k₄) $ done !))))))

    -- ---- the return
    abbrev bound : Walked.Ghost
    bound = (
      (κs, qs, bounds, (g, (self, (d, tt))), (v₀ ∷ [], (vptr p.0 p.1 ∷ [], (v₂ ∷ [], tt)))),
      tt,
    )

    abbrev Post : Val → SProp 𝓤
    Post = Walked.post bound

    abbrev Answer : RattleType
    Answer = Result.the_row (Made R κs) Refused.the_row

    abbrev Rests : Answer.Denot → Fml
    Rests r = RestsIfErr (C-row R) self (λ t. t.challenger.ghost_name) r (λ n. n ≡ c)

    -- how the challenger follows its last value in the transcript, and what it ends as with none
    abbrev Way : Answer.Denot → Type 0
    Way r = (x : (R.C.Denot → R.C.Denot) × R.C.Denot) × ((y : R.C.Denot) → OnOk r (x.0 y ≡ y))
        × OnErr r (x.1 ≡ c)

    abbrev Goes-by : (r : Answer.Denot) → Way r → SProp 𝓤
    Goes-by r s =
        sem 𝓛 (follows_if (C-row R) (C-row R) γ (name_if_ok (λ t. t.challenger.ghost_name) r) s.0.0
        s.0.1)

    rests_ok : (t : (Made R κs).Denot) → t.challenger.ghost_name ≡ γ →
        ent 𝓤 (emp 𝓤) (sem 𝓛 (Rests (Ok t)))
    unfolding such_by follows_by
    rests_ok t same = via 𝓤 (sem 𝓛 (follows (C-row R) (C-row R) γ t.challenger.ghost_name (λ x. x)))
        (subst (λ (z : GName). ent 𝓤 (emp 𝓤) (sem 𝓛 (follows (C-row R) (C-row R) γ z (λ x. x))))
        (sym same) (follows_itself 𝓛 (C-row R) γ))
        (ex_i 𝓤 (Goes-by (Ok t)) (((λ x. x), c), (λ x. refl), tt))

    rests_err : (e : (Refused.the_row).Denot) →
        ent 𝓤 (A.res γ ((C-row R).coded.code c)) (sem 𝓛 (Rests (Err e)))
    unfolding such_by follows_by
    rests_err e = ex_i 𝓤 (Goes-by (Err e)) (((λ x. x), c), (λ x. tt), refl)

    exits : (r : Answer.Denot) (v : Val) → IfOk r (λ t. Borrows t self) →
        IfOk r (λ t. t.shape ≡ w.numbers d) → IfOk r (λ t. t.due.steps ≡ w.steps d) →
        IfOk r (λ t. w.state t.challenger.now ≡ w.after c d)
        → ent 𝓤 (⋆ 𝓛 (Tokens ∷ ‵ (Answer.own_val r (v ∷ [])) ∷ ‵ (Rests r) ∷ [])) (Post v)
    exits r v k₁ k₂ k₃ k₄ =
        qed 𝓛 (Tokens ∷ ‵ (Answer.own_val r (v ∷ [])) ∷ ‵ (Rests r) ∷ []) ∵
        suffices ! _
        (ends_at 𝓛 (ended R) (stayed R) held bound v r (tt, (tt, ((tt, tt), tt)))
        (tt, (tt, (tt, tt)))) $
        use0 𝓛 (raw (fact 𝓤 (IfOk r (λ t. w.state t.challenger.now ≡ w.after c d))))
        (fact_i 𝓤 _ (emp 𝓤) k₄) $ use0 𝓛 (raw (fact 𝓤 (IfOk r (λ t. t.due.steps ≡ w.steps d))))
        (fact_i 𝓤 _ (emp 𝓤) k₃) $
        use0 𝓛 (raw (fact 𝓤 (IfOk r (λ t. t.shape ≡ w.numbers d)))) (fact_i 𝓤 _ (emp 𝓤) k₂) $ use0 𝓛
        (raw (fact 𝓤 (IfOk r (λ t. Borrows t self)))) (fact_i 𝓤 _ (emp 𝓤) k₁) $
        nothing ! $ nothing ! $ fjoin ! $ nothing ! $ fjoin ! $ nothing ! $ fjoin
        ! $ move ! (5 ∷ 0 ∷ 6 ∷ []) $ group ! 3 $ move ! (0 ∷ 5 ∷ []) $ done !

    -- ---- the walk
    module _ (ds : Dicts) (LF : Laws R.F) (LE : Laws R.EF) (LC : Laws R.C) (LS : Laws R.S)
        (LM : Laws R.Com) (LT : Laws R.State)
        (𝓣 : Tables 𝓤 H) (seeds-met : Triple 𝓤 (𝓣.C (seeded_key R ds)) Seeding)
        (makes-met : Triple 𝓤 (𝓣.C (of_seeded_key R ds)) Making)
        (ok₀ : Fits (layout Global.the_row) v₀) (ok₂ : Fits (layout Shape.the_row) v₂) where
      abbrev Had : List (Item 𝓤)
      Had = Tokens ∷ ‵ ((Global.the_row).own_val g (v₀ ∷ [])) ∷ ‵ (lent κs.0 p γ c)
          ∷ ‵ ((Shape.the_row).own_val d (v₂ ∷ [])) ∷ []

      made_laws : Laws (Made R κs)
      made_laws =
          TranscriptLaws.the_row_laws (named_lft 7 0 tt κs) (C-row R)
          (N.F-row R.F R.EF R.C R.S R.Com R.State) (N.EF-row R.F R.EF R.C R.S R.Com R.State)
          (N.Com-row R.F R.EF R.C R.S R.Com R.State) (N.S-row R.F R.EF R.C R.S R.Com R.State)
          (N.C-State-row R.F R.EF R.C R.S R.Com R.State) R.moves R.states
          (param_laws 2 R.C LC) (copied_laws 0 R.F LF) (copied_laws 1 R.EF LE)
          (param_laws 4 R.Com LM) (param_laws 3 R.S LS) (param_laws 5 R.State LT)

      walk : ent 𝓤 (⋆ 𝓛 Had) (WpFn 𝓤 H 𝓣.C 𝓣.Λ (function R ds) (v₀ ∷ vptr p.0 p.1 ∷ v₂ ∷ []) Post)
      walk =
          let κC : Lft = κs.1.1.1.0 in let qC : Share = qs.1.1.1.0 in
          qed 𝓛 Had ∵ enter ! 𝓣.C 𝓣.Λ (function R ds) (v₀ ∷ vptr p.0 p.1 ∷ v₂ ∷ []) _ $ alloc_all !
          (λ l. pass_all ! refl (ok₀, ((tt, tt), (ok₂, tt))) $
          let En : Env 𝓤 H = env (function R ds).locals l in
          let Then : After 𝓤 H =
          any_q
          (after_seq 𝓤 H
          (Wp 𝓤 H 𝓣.C 𝓣.Λ En (after 4 (function R ds).body) (at_return 𝓤 H En Post))
          (at_return 𝓤 H En Post)) in
          split3 ! $ move ! (2 ∷ []) $ split3 ! $ move ! (2 ∷ []) $ split3 ! $ move ! (2 ∷ []) $
          split ! $ move ! (1 ∷ []) $ drop ! $ move ! (2 ∷ 0 ∷ []) $ join ! $ move ! (1 ∷ []) $
          -- [the tokens of S, Com and State, EF, C, the reference, F; the allocator; the reference;
          -- the
          -- shape]
          sets ! (addr ! (through ! refl (stop !))) refl (tt, tt) $ sets ! (of_opd ! (get ! refl))
          refl ok₂ $
          move ! (3 ∷ []) $ use1 𝓛
          (later
          (some (λ (α : ℕ × Share). ‵ (flft (α.0 ∷ κC) α.1) ⊛ raw (Ends 𝓛 κC qC α.0 α.1))))
          (begins 𝓛 κC qC) $ await ! tt $ pick ! (λ α. split ! $
          let κ : Lft = α.0 ∷ κC in
          move ! (8 ∷ 5 ∷ []) $ use2 𝓛
          (later
          (some
          (λ (δ : GName). ‵ (lent κ p δ c) ⊛ ‵
          (LentAgain (C-row R) κs.0 κ qs.0 γ p.0 p.1 δ c))))
          (lends_again 𝓛 (C-row R) (named 0) κs.0 κ qs.0 γ p.0 p.1 (named 0) c) $ await ! tt $
          pick ! (λ δ. split ! $
          -- [the new reference; the way back; its token; the way to end it; the tokens of S, State,
          -- EF, F; the allocator; the shape]
          move ! (2 ∷ 0 ∷ 7 ∷ 6 ∷ 4 ∷ 5 ∷ 8 ∷ 9 ∷ []) $ group ! 8 $ use1 𝓛
          (raw (Seeding.pre (at_seeds κ α.1 δ)))
          (seeds_goes κ α.1 δ (⊑_trans κ κC R.C.lives (meet_⊑_right (α.0 ∷ []) κC) iC)) $
          calls_at ! (fm_of 𝓤 H 𝓛.laws 𝓣) Seeding seeds-met (at_seeds κ α.1 δ)
          (and_then ! (get ! refl)
          (and_then ! (get ! refl) (and_then ! (get ! refl) (no_more !)))) (λ v.
          use1 𝓛 (later (some (Gave κ α.1 δ v))) (seeds_gives κ α.1 δ v) $ await ! tt $ pick !
          (λ r. learn ! (λ told.
          split3 ! $ move ! (2 ∷ []) $ split3 ! $ move ! (2 ∷ []) $ split3 ! $
          -- [the tokens of S, State; the result; the tokens of F, EF, κ; the last value; the way
          -- back; the way to end κ]
          move ! (5 ∷ 8 ∷ []) $ use2 𝓛 (later (‵ (fdead κ) ⊛ ‵ (flft κC qC)))
          (apply∗ 𝓤 (A.lft κ α.1) _) $ await ! tt $ split ! $
          move ! (0 ∷ 8 ∷ 7 ∷ []) $ use3 𝓛 (later (‵ (lent κs.0 p γ r.1) ⊛ ‵ (flft κs.0 qs.0)))
          (comes_back 𝓛 (C-row R) (named 0) κs.0 κ qs.0 γ p.0 p.1 δ c r.1) $ await ! tt $ split
          ! $
          -- [the reference; the tokens of it, C, S, State; the result; the tokens of F, EF]
          move ! (5 ∷ []) $ by_result ! (Seeded.the_row (C-row R)) Refused.the_row
          (SeededLaws.the_row_laws (C-row R) (param_laws 2 R.C LC)) RefusedLaws.the_row_laws r.0 v
          (λ x u is e fits.
          lands_as ! e refl (first_Good (layout (Seeded.the_row (C-row R))) u fits) $ first ! $
          switches_on ! (get_tag ! (vrt ! refl (fld ! refl (stop !))) (whole !)) $ exec ! 𝓣.C
          𝓣.Λ En (arm_body 0 (match R ds)) Then $
          sets !
          (of_opd !
          (get_in ! (vrt ! refl (fld ! refl (stop !))) (in_variant ! 0 0 refl refl (whole !))))
          refl fits $
          sets ! (addr ! (through ! refl (stop !))) refl (tt, tt) $ sets ! (of_opd ! (get ! refl))
          refl fits $
          nothing ! $ move ! (3 ∷ 7 ∷ 8 ∷ 4 ∷ 5 ∷ 6 ∷ 0 ∷ []) $ move ! (5 ∷ []) $ split ! $
          move ! (2 ∷ 3 ∷ 4 ∷ 5 ∷ 6 ∷ 0 ∷ 1 ∷ 7 ∷ []) $ group ! 8 $ move ! (0 ∷ 2 ∷ 1 ∷ [])
          $ group ! 3 $ use1 𝓛 (raw (Making.pre (at_makes r.1 x u)))
          (makes_goes r.1 x u (subst (λ z. IfOk z (λ s. r.1 ≡ s.due.challenger)) is told.4)) $
          calls_at ! (fm_of 𝓤 H 𝓛.laws 𝓣) Making makes-met (at_makes r.1 x u)
          (and_then ! (get ! refl) (and_then ! (get ! refl) (no_more !))) (λ v'.
          use1 𝓛 (later (some (Formed r.1 x u v'))) (makes_gives r.1 x u v') $ await ! tt $ pick !
          (λ t. learn ! (λ formed. split ! $ move ! (1 ∷ []) $
          one_value ! (Made R κs) made_laws t (v' ∷ []) (λ u' is' fits'.
          let ok = first_Good (layout (Made R κs)) u' fits' in
          lands_as ! (ap only is') refl fits' $ sets_last !
          (agg ! (and_then ! (lit ! tt) (and_then ! (get ! refl) (no_more !)))) refl ok $
          exec ! 𝓣.C 𝓣.Λ En (after 4 (function R ds).body) (at_ret En Post) $ sets !
          (of_opd ! (get ! refl)) refl ok $
          use1 𝓛 (‵ (Answer.own_val (Ok t) (live 0 (vcons u' vnil) ∷ [])))
          (ok_of 𝓛 (Made R κs) Refused.the_row t u') $ use0 𝓛 (‵ (Rests (Ok t)))
          (rests_ok t formed.0) $
          returns ! (look_at ! 0 refl) $ free_all ! refl $ keep ! (2 ∷ 1 ∷ 0 ∷ []) $ by !
          (exits (Ok t) (live 0 (vcons u' vnil)) formed.0
          (formed.3 ∙ subst (λ z. IfOk z (λ s. s.shape ≡ w.numbers d)) is told.2)
          (formed.2 ∙ subst (λ z. IfOk z (λ s. s.due.steps ≡ w.steps d)) is told.1)
          (ap w.state formed.1 ∙ subst (λ z. OnOk z (w.state r.1 ≡ w.after c d)) is told.3)))))))
          (λ x u is e fits.
          let ok = some_Good (layout Refused.the_row) u fits in
          lands_as ! e refl ok $ first ! $ switches_on !
          (get_tag ! (vrt ! refl (fld ! refl (stop !))) (whole !)) $ exec ! 𝓣.C 𝓣.Λ En
          (arm_body 1 (match R ds)) Then $
          sets !
          (of_opd !
          (get_in ! (vrt ! refl (fld ! refl (stop !))) (in_variant ! 1 0 refl refl (whole !))))
          refl fits $
          sets_last ! (agg ! (and_then ! (lit ! tt) (and_then ! (get ! refl) (no_more !)))) refl ok
          $
          exec ! 𝓣.C 𝓣.Λ En (after 4 (function R ds).body) (at_ret En Post) $ sets !
          (of_opd ! (get ! refl)) refl ok $
          use1 𝓛 (‵ (Answer.own_val (Err x) (live 1 (vcons u vnil) ∷ [])))
          (err_of 𝓛 (Made R κs) Refused.the_row x u) $
          move ! (1 ∷ []) $ fsplit3 ! $ move ! (1 ∷ []) $ use1 𝓛
          (‵ (fres γ ((C-row R).coded.code r.1))) (𝓛.names.obs-res γ ((C-row R).coded.code r.1))
          $
          rewrite ! 0 (λ (n : R.C.Denot). ‵ (fres γ ((C-row R).coded.code n)))
          (subst (λ z. OnErr z (r.1 ≡ c)) is told.0) refl $ use1 𝓛 (‵ (Rests (Err x)))
          (rests_err x) $
          -- [what the challenger ends as; two parts of the reference; the result; the tokens of the
          -- reference, C, S, State, F, EF]
          nothing ! $ move ! (5 ∷ 9 ∷ 10 ∷ 6 ∷ 7 ∷ 8 ∷ 0 ∷ []) $ move ! (5 ∷ []) $ split ! $
          move ! (2 ∷ 3 ∷ 4 ∷ 5 ∷ 6 ∷ 0 ∷ 1 ∷ 7 ∷ []) $ group ! 8 $
          returns ! (look_at ! 0 refl) $ free_all ! refl $ keep ! (0 ∷ 4 ∷ 1 ∷ []) $ by !
          (exits (Err x) (live 1 (vcons u vnil)) tt tt tt tt))))))))

  module _ (ds : Dicts) (LF : Laws R.F) (LE : Laws R.EF) (LC : Laws R.C) (LS : Laws R.S)
      (LM : Laws R.Com) (LT : Laws R.State)
      (𝓣 : Tables 𝓤 H) (seeds-met : Triple 𝓤 (𝓣.C (seeded_key R ds)) Seeding)
      (makes-met : Triple 𝓤 (𝓣.C (of_seeded_key R ds)) Making) where
    abbrev runs-it : List Val → (Val → SProp 𝓤) → SProp 𝓤
    runs-it = WpFn 𝓤 H 𝓣.C 𝓣.Λ (function R ds)

    meets : Meets 𝓛 (ended R).signature runs-it (closing 𝓛 (ended R) held)
    meets =
        walk_Meets 𝓛 (ended R) (stayed R) (
          Goes-blank 𝓛 7 (plain (λ _. Global.the_row)) yes (λ κs x f. tt),
          (
            Goes-spent_ref 𝓛 7 (0 ∷ []) tt (plain (λ _. C-row R)),
            (Goes-blank 𝓛 7 (plain (λ _. Shape.the_row)) yes (λ κs x f. tt), tt),
          ),
        )
        held runs-it (WpFn-mono 𝓤 H 𝓛.laws 𝓣 (function R ds)) (λ z. let κs = z.0.0 in let qs =
        z.0.1 in let a = z.0.3 in let vss = z.0.4 in let p = a.1.0.ref_ptr in
        qed 𝓛
        (((‵ (flft κs.0 qs.0) ⊛ ‵ (flft κs.1.0 qs.1.0) ⊛ ‵ (flft κs.1.1.0 qs.1.1.0) ⊛ ‵
        (flft κs.1.1.1.0 qs.1.1.1.0) ⊛ ‵ (flft κs.1.1.1.1.0 qs.1.1.1.1.0) ⊛ ‵
        (flft κs.1.1.1.1.1.0 qs.1.1.1.1.1.0) ⊛ ‵
        (flft κs.1.1.1.1.1.1.0 qs.1.1.1.1.1.1.0) ⊛ ‵ ftrue) ⊛ ‵
        (owns (types_at (ended R).signature.params κs) a vss))
        ∷ (given (κs.1.0 ⊑ R.F.lives) (‵ ftrue) ⊛ given (κs.1.1.0 ⊑ R.EF.lives) (‵ ftrue) ⊛ given
        (κs.1.1.1.0 ⊑ R.C.lives) (‵ ftrue) ⊛ given (κs.1.1.1.1.0 ⊑ R.S.lives) (‵ ftrue) ⊛ given
        (κs.1.1.1.1.1.0 ⊑ R.Com.lives) (‵ ftrue) ⊛ given
        (κs.1.1.1.1.1.1.0 ⊑ R.State.lives) (‵ ftrue) ⊛ given (few a.1.1.0) (‵ ftrue)) ∷ []) ∵
        move ! (1 ∷ []) $ split ! $ learn !
        (λ iF. drop ! $ split ! $ learn !
        (λ iE. drop ! $ split ! $ learn !
        (λ iC. drop ! $ split ! $ learn !
        (λ iS. drop ! $ split ! $ learn ! (λ iM. drop ! $ split ! $ learn !
        (λ iT. drop ! $ learn ! (λ is_few. drop ! $
        split ! $ move ! (1 ∷ []) $ fsplit ! $ one_value ! Global.the_row GlobalLaws.the_row_laws
        a.0 vss.0 (λ v₀ e₀ ok₀. move ! (1 ∷ []) $ fsplit ! $ fsplit ! $ feq_l ! (λ e₁.
        feq_i ! (List Val) (vptr p.0 p.1 ∷ []) (vptr p.0 p.1 ∷ []) refl $ fjoin
        ! $ move ! (1 ∷ []) $ fsplit ! $ one_value ! Shape.the_row ShapeLaws.the_row_laws
        a.1.1.0 vss.1.1.0 (λ v₂ e₂ ok₂.
        regoal !
        (λ (us : List Val × List Val × List Val). prop
        (runs-it (us.0 ++ (us.1 ++ (us.2 ++ [])))
        (Walked.post ((κs, qs, z.0.2, a, (us.0, (us.1, (us.2, tt)))), tt))))
        (λ i. (e₀ i, e₁ i, e₂ i)) refl $
        keep ! (4 ∷ 3 ∷ 2 ∷ 0 ∷ []) $ by !
        (walk κs qs z.0.2 iF iE iC iS iM iT p a.1.0.ghost_name a.1.0.now a.0 a.1.1.0 v₀ v₂ is_few
        ds LF LE LC LS LM LT 𝓣 seeds-met makes-met ok₀ ok₂))))))))))))

pub new_spec : {M : Type 1} → statement M
unfolding tables_of
new_spec 𝓤 𝓛 𝓜 𝓡 wired F EF C S Com State LF LE LC LS LM LT PF PE F-Field F-Field-dict F-Operations
    F-Operations-dict F-Clone F-Clone-dict F-Eq F-Eq-dict F-PartialEq F-PartialEq-dict F-Hash
    F-Hash-dict F-Debug F-Debug-dict F-Add F-Add-dict F-Sub F-Sub-dict F-Mul F-Mul-dict F-Neg
    F-Neg-dict EF-ExtensionField EF-ExtensionField-dict EF-Field EF-Field-dict EF-Operations
    EF-Operations-dict EF-Clone EF-Clone-dict EF-Eq EF-Eq-dict EF-PartialEq EF-PartialEq-dict
    EF-Hash EF-Hash-dict EF-Debug EF-Debug-dict EF-Add EF-Add-dict EF-Sub EF-Sub-dict EF-Mul
    EF-Mul-dict EF-Neg EF-Neg-dict C-CanSample C-CanSample-dict C-ChallengerState
    C-ChallengerState-dict C-GrindingChallenger C-GrindingChallenger-dict C-CanObserve-1
    C-CanObserve-1-dict C-CanSampleBits C-CanSampleBits-dict C-CanObserve-2 C-CanObserve-2-dict m0
    m1 m2 m3 m4 m5 m6 m7 m8 m9 m10 m11 m12
    m13 m14 m15 m16 m17 m18 m19 m20 m21 m22 m23 m24 m25 m26 m27 m28 =
    let R : Rows =
    record {
      F = F;
      EF = EF;
      C = C;
      S = S;
      Com = Com;
      State = State;
      moves =
          record {
            run =
                run_moves C-ChallengerState.state C-CanObserve-1.after_observe
                C-CanObserve-2.after_observe C-CanSample.sampled C-CanSample.after_sample
                C-CanSampleBits.sampled_bits C-CanSampleBits.after_bits
                C-GrindingChallenger.found_witness EF-ExtensionField.DEGREE
                EF-ExtensionField.coefficients (of_nat F-Operations.ops) F-Operations.ops.zero;
          };
      states = C-ChallengerState;
    } in
    let w : Says R = record {
      steps = λ d. steps_of EF-ExtensionField.DEGREE (shape_of d);
      numbers = λ d. numbers_of (shape_of d);
      state = C-ChallengerState.state;
      after = λ c d. after_all C-CanObserve-1.after_observe (C-ChallengerState.state c)
          (map (of_nat F-Operations.ops) (text_of EF-ExtensionField.DEGREE (shape_of d)));
    } in
    let ds : Dicts =
    dcons F-Field-dict
    (dcons F-Operations-dict
    (dcons F-Clone-dict
    (dcons F-Eq-dict
    (dcons F-PartialEq-dict
    (dcons F-Hash-dict
    (dcons F-Debug-dict
    (dcons F-Add-dict
    (dcons F-Sub-dict
    (dcons F-Mul-dict
    (dcons F-Neg-dict
    (dcons EF-ExtensionField-dict
    (dcons EF-Field-dict
    (dcons EF-Operations-dict
    (dcons EF-Clone-dict
    (dcons EF-Eq-dict
    (dcons EF-PartialEq-dict
    (dcons EF-Hash-dict
    (dcons EF-Debug-dict
    (dcons EF-Add-dict
    (dcons EF-Sub-dict
    (dcons EF-Mul-dict
    (dcons EF-Neg-dict
    (dcons C-CanSample-dict
    (dcons C-ChallengerState-dict
    (dcons C-GrindingChallenger-dict
    (dcons C-CanObserve-1-dict
    (dcons C-CanSampleBits-dict (dcons C-CanObserve-2-dict (dnil))))))))))))))))))))))))))))) in
    let A = 𝓛.A in
    let 𝓣 : Tables 𝓤 𝓛.H = tables_of 𝓤 𝓛.H 𝓜 (tables 𝓤 𝓛.H 𝓜 𝓡 𝓡.env) in
    entered 𝓤 𝓛.H (triple_of 𝓛 (ended R).signature (closing 𝓛 (ended R) (held R w 𝓛))) 𝓣.C 𝓣.Λ
    (name (args R ds)) (function R ds)
    (code.unfolded 𝓤 𝓛.H 𝓜 𝓡 wired (F, (EF, (C, (S, (Com, (State, tt)))))) F-Field-dict
    F-Operations-dict
    F-Clone-dict F-Eq-dict F-PartialEq-dict F-Hash-dict F-Debug-dict F-Add-dict F-Sub-dict
    F-Mul-dict F-Neg-dict EF-ExtensionField-dict EF-Field-dict EF-Operations-dict EF-Clone-dict
    EF-Eq-dict EF-PartialEq-dict EF-Hash-dict EF-Debug-dict EF-Add-dict EF-Sub-dict EF-Mul-dict
    EF-Neg-dict C-CanSample-dict C-ChallengerState-dict C-GrindingChallenger-dict
    C-CanObserve-1-dict C-CanSampleBits-dict C-CanObserve-2-dict)
    (meets R w 𝓛 ds LF LE LC LS LM LT 𝓣
    (seeded.met 𝓤 𝓛 𝓜 𝓡
    (code.calls-circle_transcript::transcript::CircleTranscript::seeded 𝓡.env wired) F EF C S
    Com State LF LE LC LS LM LT PF PE F-Field F-Field-dict F-Operations F-Operations-dict F-Clone
    F-Clone-dict F-Eq F-Eq-dict F-PartialEq F-PartialEq-dict F-Hash F-Hash-dict F-Debug
    F-Debug-dict F-Add F-Add-dict F-Sub F-Sub-dict F-Mul F-Mul-dict F-Neg F-Neg-dict
    EF-ExtensionField EF-ExtensionField-dict EF-Field EF-Field-dict EF-Operations
    EF-Operations-dict EF-Clone EF-Clone-dict EF-Eq EF-Eq-dict EF-PartialEq EF-PartialEq-dict
    EF-Hash EF-Hash-dict EF-Debug EF-Debug-dict EF-Add EF-Add-dict EF-Sub EF-Sub-dict EF-Mul
    EF-Mul-dict EF-Neg EF-Neg-dict C-CanSample C-CanSample-dict C-ChallengerState
    C-ChallengerState-dict C-GrindingChallenger C-GrindingChallenger-dict C-CanObserve-1
    C-CanObserve-1-dict C-CanSampleBits C-CanSampleBits-dict C-CanObserve-2 C-CanObserve-2-dict m0
    m1 m2 m3 m4 m5 m6 m7 m8 m9 m10 m11
    m12 m13 m14 m15 m16 m17 m18 m19 m20 m21 m22 m23 m24 m25 m26 m27 m28)
    (of_seeded.met 𝓤 𝓛 𝓜 𝓡
    (code.calls-circle_transcript::transcript::CircleTranscript::of_seeded 𝓡.env wired) F EF C S
    Com State LF LE LC LS LM LT PF PE F-Field F-Field-dict F-Operations F-Operations-dict F-Clone
    F-Clone-dict F-Eq F-Eq-dict F-PartialEq F-PartialEq-dict F-Hash F-Hash-dict F-Debug
    F-Debug-dict F-Add F-Add-dict F-Sub F-Sub-dict F-Mul F-Mul-dict F-Neg F-Neg-dict
    EF-ExtensionField EF-ExtensionField-dict EF-Field EF-Field-dict EF-Operations
    EF-Operations-dict EF-Clone EF-Clone-dict EF-Eq EF-Eq-dict EF-PartialEq EF-PartialEq-dict
    EF-Hash EF-Hash-dict EF-Debug EF-Debug-dict EF-Add EF-Add-dict EF-Sub EF-Sub-dict EF-Mul
    EF-Mul-dict EF-Neg EF-Neg-dict C-CanSample C-CanSample-dict C-ChallengerState
    C-ChallengerState-dict C-GrindingChallenger C-GrindingChallenger-dict C-CanObserve-1
    C-CanObserve-1-dict C-CanSampleBits C-CanSampleBits-dict C-CanObserve-2 C-CanObserve-2-dict m0
    m1 m2 m3 m4 m5 m6 m7 m8 m9 m10 m11
    m12 m13 m14 m15 m16 m17 m18 m19 m20 m21 m22 m23 m24 m25 m26 m27 m28))
