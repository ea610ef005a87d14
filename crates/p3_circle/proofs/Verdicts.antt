-- The verifier's verdicts, from those of its parts.
use Rattle.std.proofs.Common.{◌≡◌, Bool, true, false, List, refl, sym, ap, subst, ◌∙◌, inl, inr}
use Rattle.std.specs.Prelude.{Result, Ok, Err, IfErr, MatchResult, ◌⊎◌}
use Rattle.std.specs.Result.{result_map_both}
use Rattle.circle_field.specs.declared.field.Operations.{Ghosts}
use Rattle.circle_challenger.specs.Moves.{RunMoves}
use Rattle.circle_commit.specs.declared.error.FriError.{FriError}
use Rattle.circle_commit.specs.declared.error.FriError.TheVariants.{Memory}
use Rattle.circle_commit.specs.declared.params.FriParameters.{FriParameters}
use Rattle.circle_commit.specs.declared.pcs.CommitmentOpening.{CommitmentOpening}
use Rattle.circle_domain.specs.declared.domain.CircleDomain.{CircleDomain}
use Rattle.circle_domain.specs.Selectors.{IsFinite}
use Rattle.circle_point.specs.Projective.{is_at_infinity}
use Rattle.circle_relation.specs.declared.error.InputError.{InputError}
use Rattle.circle_relation.specs.declared.proof.CirclePcsProof.{CirclePcsProof}
use Rattle.circle_relation.specs.StatementOf.{batch_claims}
use Rattle.circle_relation.specs.Accepts.{Fields, Authenticates, Accepts, AcceptsFrom}
use Rattle.circle_relation.specs.RunOf.{proof_of, run_with}
use Rattle.circle_relation.specs.Taken.{challenges_of, drawn_by}
use Rattle.circle_relation.specs.TestsInOrder.{Test, answer}
use Rattle.circle_relation.proofs.Answering.{passed-value, refused-value}
use Rattle.circle_relation.proofs.Contradictions.{only_memory}
use Rattle.circle_verifier.specs.declared.drawn.DrawnRun.{DrawnRun}
use Rattle.circle_verifier.specs.declared.tested.TestedRun.{TestedRun}
use Rattle.circle_verifier.specs.OfDrawn.{IsAccepted, IsRefused}
use Rattle.circle_verifier.specs.OfTested.{parts_of, IsTestedOf}
use Rattle.circle_verifier.specs.Replay.{AreDrawn, AreNotDrawn, IsMissedIn}
use Rattle.circle_verifier.specs.Tests.{run_tests}
use Rattle.circle_verifier.proofs.Known.{answer-of}
use Rattle.circle_verifier.proofs.Replayed.{queries-drawn}
use Rattle.circle_verifier.proofs.Verified.{tested, challenges-told}
use Rattle.p3_circle.specs.Verdict.{IsRefusedAfter, draw_from}

pub at_err : {T E : Type 0} (P : E → Type 0) (x : Result T E) (e : E) → x ≡ Err e → P e → IfErr x P
at_err P x e is h = subst (λ y. IfErr y P) (sym is) h

pub at_ok : {T E : Type 0} (P : E → Type 0) (x : Result T E) (v : T) → x ≡ Ok v → IfErr x P
at_ok P x v is = subst (λ y. IfErr y P) (sym is) tt

pub not_both : {T E : Type 0} (x : Result T E) (v : T) (e : E) → x ≡ Ok v → x ≡ Err e → ⊥
not_both x v e ok err = let both : Ok v ≡ Err e = sym ok ∙ err in cc

-- one of two is one of three
pub of-three : {A B D : Type 0} → A ⊎ B → A ⊎ (B ⊎ D)
of-three (inl a) = inl a
of-three (inr b) = inr (inl b)

-- a refusal is the first by the tests, or where these refuse nothing by what follows them
pub first-by : {S E : Type 0} (ts : List (Test E)) (Later : Type 0) (e : E) (s : S) →
    answer {A = Unit {0}} ts (tt {0}) ≡ Err e
    → MatchResult (answer {A = Unit {0}} ts (tt {0})) (λ passed. Later)
    (λ first. (e ≡ first) × (s ≡ s))
first-by {E = E} ts Later e s is =
    subst
    (λ (a : Result (Unit {0}) E). MatchResult a (λ passed. Later) (λ first. (e ≡ first) × (s ≡ s)))
    (sym is) (refl, refl)

pub later-by : {S E : Type 0} (ts : List (Test E)) (Later : Type 0) (e : E) (s t : S) →
    answer {A = Unit {0}} ts (tt {0}) ≡ Ok (tt {0}) → Later
    → MatchResult (answer {A = Unit {0}} ts (tt {0})) (λ passed. Later)
    (λ first. (e ≡ first) × (t ≡ s))
later-by {E = E} ts Later e s t is later =
    subst
    (λ (a : Result (Unit {0}) E). MatchResult a (λ passed. Later) (λ first. (e ≡ first) × (t ≡ s)))
    (sym is) later

-- what the tests of a run say of the parts that it is made of
module _ {F E I W IC ID IP IE WC WD WP WE : Type 0} {g over inputs ic ip ie words wc wp we : _}
    (result :
    Result (TestedRun F E I W IC ID IP IE WC WD WP WE g over inputs ic ip ie words wc wp we)
    (FriError WE (InputError IE WE))) (p : FriParameters W)
    (claims : List (CommitmentOpening E IC (CircleDomain F g)))
    (proof : CirclePcsProof F E I W F IC ID IP IE WC WD WP WE)
    (is : IsTestedOf result p claims proof) where
  pub first-refused : (e : FriError WE (InputError IE WE)) → result ≡ Err e →
      answer (run_tests over.fields p claims proof) (tt {0}) ≡ Err e
  first-refused e was =
      refused-value (run_tests over.fields p claims proof) _ e
      (sym is ∙ ap (result_map_both parts_of (λ x. x)) was)

  pub none-refused :
      (t : TestedRun F E I W IC ID IP IE WC WD WP WE g over inputs ic ip ie words wc wp we) →
      result ≡ Ok t → (answer (run_tests over.fields p claims proof) (tt {0}) ≡ Ok (tt {0}))
      × ((p, claims, proof) ≡ parts_of t)
  none-refused t was =
      passed-value (run_tests over.fields p claims proof) _ _
      (sym is ∙ ap (result_map_both parts_of (λ x. x)) was)

-- what is accepted passes the tests, and there is no reason but want of memory to refuse it
module _ {C S F E I W IC ID IP IE WC WD WP WE : Type 0} {g : Ghosts F} {k : Fields F E}
    {m : RunMoves C S F E WC} {p : FriParameters W} {inputs : Authenticates IC F IP}
    {words : Authenticates WC E WP} {old left : S}
    (claims : List (CommitmentOpening E IC (CircleDomain F g)))
    (proof : CirclePcsProof F E I W F IC ID IP IE WC WD WP WE)
    (a : AcceptsFrom k p m inputs words (batch_claims claims) (proof_of proof) old left) where
  pub accepted-passes : ((w : F) → w ≡ k.field.zero → k.is_zero w ≡ true) →
      ((t : E) → IsFinite k.extension t → is_at_infinity k.same k.extension t ≡ false) →
      answer (run_tests k p claims proof) (tt {0}) ≡ Ok (tt {0})
  accepted-passes zero finite =
      answer-of k.two_adicity k.is_zero (λ t. is_at_infinity k.same k.extension t) p
      (batch_claims claims) (proof_of proof) WE IE WE
      (tested k k.is_zero (λ t. is_at_infinity k.same k.extension t) p (batch_claims claims)
      (proof_of proof) a.drawn
      (queries-drawn m p k.extension (batch_claims claims) (proof_of proof) old left a.drawn
      a.draws) zero finite a.accepts)

  pub missed-memory : (e : FriError WE (InputError IE WE)) →
      (e ≡ Memory) ⊎ IsMissedIn (draw_from k m p claims proof old) e → e ≡ Memory
  missed-memory e (inl memory) = memory
  missed-memory e (inr miss) =
      absurd (not_both (draw_from k m p claims proof old) _ _ a.draws miss.missed)

pub reason-memory : {C S F E I W IC ID IP IE WC WD WP WE : Type 0} {g : Ghosts F} {k : Fields F E}
    {m : RunMoves C S F E WC} {inputs : I → Authenticates IC F IP}
    {words : W → Authenticates WC E WP} {mmcs : I} {p : FriParameters W}
    {claims : List (CommitmentOpening E IC (CircleDomain F g))}
    {proof : CirclePcsProof F E I W F IC ID IP IE WC WD WP WE} {input_memory : IE → Bool}
    {word_memory : WE → Bool} {old new left : S} {e : FriError WE (InputError IE WE)} →
    ((a b : E) → m.base.coefficients a ≡ m.base.coefficients b → a ≡ b) →
    IsRefusedAfter k m inputs words mmcs p claims proof input_memory word_memory old new e →
    AcceptsFrom k p m (inputs mmcs) (words p.mmcs) (batch_claims claims) (proof_of proof) old left →
    e ≡ Memory
reason-memory {k = k} {m = m} {inputs = inputs} {words = words} {mmcs = mmcs} {p = p}
    {claims = claims} {proof = proof} {input_memory = input_memory} {word_memory = word_memory}
    {new = new} {left = left} {e = e} told r a =
    let both : Ok (drawn_by m.base.coefficients r.drawn new)
    ≡ Ok (drawn_by m.base.coefficients a.drawn left) = sym r.draws ∙ a.draws in
    let drawn : drawn_by m.base.coefficients r.drawn new ≡ drawn_by m.base.coefficients a.drawn left
    = cc in
    let one = challenges-told m.base.coefficients told r.drawn a.drawn new left drawn in
    let accepts =
    subst (λ d. Accepts k p (run_with claims proof d) (inputs mmcs) (words p.mmcs)) (sym one)
    a.accepts in
    only_memory k p (run_with claims proof r.drawn) (inputs mmcs) (words p.mmcs) input_memory
    word_memory e r.reason accepts.inputs_shape accepts.fit.claimed accepts.fit.large accepts.holds

-- what a run with its challenges says of the parts that it is made of
module _ {C S F E I W IC ID IP IE WC WD WP WE : Type 0}
    {g ext over inputs ic ip ie words wc wp we : _} {m : RunMoves C S F E WC}
    (d : DrawnRun F E I W IC ID IP IE WC WD WP WE g ext over inputs ic ip ie words wc wp we)
    (p : FriParameters W) (claims : List (CommitmentOpening E IC (CircleDomain F g)))
    (proof : CirclePcsProof F E I W F IC ID IP IE WC WD WP WE)
    (same : (p, claims, proof) ≡ parts_of d.run) (mmcs : I) (old new : C)
    (draws : AreDrawn m d.run old d.draws new) where
  pub accepted-of : IsAccepted d mmcs →
      AcceptsFrom over.fields p m (inputs.authenticates mmcs) (words.authenticates p.mmcs)
      (batch_claims claims) (proof_of proof) (m.base.state old) (m.base.state new)
  accepted-of accepts =
      subst
      (λ x. AcceptsFrom over.fields x.0 m (inputs.authenticates mmcs) (words.authenticates x.0.mmcs)
      (batch_claims x.1) (proof_of x.2) (m.base.state old) (m.base.state new)) (sym same)
      (record { drawn = challenges_of d.draws; draws = draws; accepts = accepts })

  pub refused-of : (e : FriError WE (InputError IE WE)) → IsRefused d mmcs e →
      IsRefusedAfter over.fields m inputs.authenticates words.authenticates mmcs p claims proof
      inputs.is_memory words.is_memory (m.base.state old) (m.base.state new) e
  refused-of e reason =
      subst
      (λ x. IsRefusedAfter over.fields m inputs.authenticates words.authenticates mmcs x.0 x.1 x.2
      inputs.is_memory words.is_memory (m.base.state old) (m.base.state new) e) (sym same)
      (record { drawn = challenges_of d.draws; draws = draws; reason = reason })

-- and one whose challenges can't be drawn
pub undrawn-of : {C S F E I W IC ID IP IE WC WD WP WE : Type 0}
    {g over inputs ic ip ie words wc wp we : _} (m : RunMoves C S F E WC)
    (t : TestedRun F E I W IC ID IP IE WC WD WP WE g over inputs ic ip ie words wc wp we)
    (p : FriParameters W) (claims : List (CommitmentOpening E IC (CircleDomain F g)))
    (proof : CirclePcsProof F E I W F IC ID IP IE WC WD WP WE) (old : C)
    (e : FriError WE (InputError IE WE)) → (p, claims, proof) ≡ parts_of t → AreNotDrawn m t old e →
    (e ≡ Memory) ⊎ IsMissedIn (draw_from over.fields m p claims proof (m.base.state old)) e
undrawn-of {over = over} m t p claims proof old e same undrawn =
    subst
    (λ x. (e ≡ Memory)
    ⊎ IsMissedIn (draw_from over.fields m x.0 x.1 x.2 (m.base.state old)) e) (sym same) undrawn
