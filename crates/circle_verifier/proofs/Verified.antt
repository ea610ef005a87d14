-- From what is tested, drawn and checked to the relation, and back.
use Rattle.std.proofs.Common.{◌≡◌, ℕ, Bool, true, false, ◌+◌, ◌≤◌, ◌<◌, ◌^◌, List, [], ◌∷◌, length}
use Rattle.std.proofs.Common.{map, refl, sym, ap, subst, ◌∙◌, arith}
use Rattle.std.specs.Prelude.{All}
use Rattle.std.proofs.lemmas.List.Elements.{All-weaker}
use Rattle.circle_field.specs.declared.field.Operations.{Ghosts}
use Rattle.circle_commit.specs.declared.error.FriError.{FriError}
use Rattle.circle_commit.specs.declared.params.FriParameters.{FriParameters}
use Rattle.circle_domain.specs.Selectors.{IsFinite}
use Rattle.circle_relation.specs.Statement.{BatchClaim, OpeningProof, Challenges, all_matrices}
use Rattle.circle_relation.specs.Accepts.{Fields, Run, Authenticates, HasRounds, HasInputs}
use Rattle.circle_relation.specs.Accepts.{HasSiblings, HoldsWith, Accepts, matrices, top, rounds}
use Rattle.circle_relation.specs.Reasons.{IsReason}
use Rattle.circle_verifier.specs.OfRun.{run_of, IsOpened, Holds, Refuses}
use Rattle.circle_relation.specs.declared.error.InputError.{InputError}
use Rattle.circle_verifier.specs.declared.run.OpenedRun.{OpenedRun}
use Rattle.circle_transcript.specs.Draw.{Drawn, claimed}
use Rattle.circle_verifier.specs.Drawn.{IsDrawn}
use Rattle.circle_verifier.specs.Tested.{IsTested}
use Rattle.circle_relation.specs.Taken.{drawn_by}

module _ {F E M Com WordCom InputProof WordProof : Type 0} (k : Fields F E) (is_zero : F → Bool)
    (is_infinite : E → Bool) (p : FriParameters M)
    (batches : List (BatchClaim Com E)) (proof : OpeningProof F E WordCom InputProof WordProof)
    (drawn : Challenges E) where
  abbrev r : Run F E WordCom Com InputProof WordProof
  r = record { batches = batches; proof = proof; drawn = drawn }

  module _ (count : length drawn.queries ≡ p.num_queries) where
    pub has_rounds : IsTested k.two_adicity is_zero is_infinite p batches proof → HasRounds k p r
    has_rounds t = record {
      commitments = t.commitments;
      witnesses = t.witnesses;
      opened = t.opened;
      siblings =
          All-weaker (λ o. (length o.entries ≡ p.num_queries)
          × All (λ values. length values ≡ 1) o.entries) (HasSiblings k p r 1)
          (λ o h. (h.0 ∙ sym count, h.1)) proof.rounds_opened t.siblings;
      final_poly = t.final_poly;
    }

    pub is_drawn : {high : ℕ} {run : Run F E WordCom Com InputProof WordProof} →
        ((t : E) → is_infinite t ≡ false → IsFinite k.extension t) →
        IsTested k.two_adicity is_zero is_infinite p batches proof → high ≡ top k p r →
        length drawn.betas ≡ rounds k p r → All (λ q. q < 2 ^ high) drawn.queries → run ≡ r →
        IsDrawn k p run high
    is_drawn {high = high} finite t at betas below same =
        subst (λ x. IsDrawn k p x high) (sym same) (record {
          top = at;
          in_group = let low = t.in_group in omega (arith, at, low);
          blowup = t.blowup;
          some_matrix = t.some_matrix;
          large = t.large;
          finite = λ i d lt j e lt'. finite _ (t.finite i d lt j e lt');
          shape = has_rounds t;
          betas = betas;
          below = below;
        })

    pub accepted : {inputs : Authenticates Com F InputProof}
        {words : Authenticates WordCom E WordProof} →
        ((w : F) → is_zero w ≡ true → w ≡ k.field.zero) →
        ((t : E) → is_infinite t ≡ false → IsFinite k.extension t) →
        IsTested k.two_adicity is_zero is_infinite p batches proof → HasInputs k p r →
        All (λ m. 1 ≤ length m.claims) (matrices k p r) →
        All (λ m. p.log_final_poly_len + 2 ≤ m.log_n) (matrices k p r) →
        HoldsWith k p r inputs words → Accepts k p r inputs words
    accepted null finite t shape claimed large holds = record {
      fit = record {
        some_matrix = t.some_matrix;
        large = large;
        in_group = t.in_group;
        batch_work = t.batch_work;
        commit_work = t.commit_work;
        query_work = t.query_work;
        queries = t.queries;
        blowup = t.blowup;
        arity = t.arity;
        finite = λ i d lt j e lt'. finite _ (t.finite i d lt j e lt');
        claimed = claimed;
      };
      rounds_shape = has_rounds t;
      inputs_shape = shape;
      canonical = record {
        batch = λ none. null proof.batch_witness (t.batch_zero none);
        commit = λ none. All-weaker (λ w. is_zero w ≡ true) (λ w. w ≡ k.field.zero) null
            proof.witnesses (t.commit_zero none);
        query = λ none. null proof.query_witness (t.query_zero none);
      };
      holds = holds;
    }

    pub tested : {inputs : Authenticates Com F InputProof}
        {words : Authenticates WordCom E WordProof} →
        ((w : F) → w ≡ k.field.zero → is_zero w ≡ true) →
        ((t : E) → IsFinite k.extension t → is_infinite t ≡ false) →
        Accepts k p r inputs words → IsTested k.two_adicity is_zero is_infinite p batches proof
    tested null finite a =
        let f = a.fit in
        let shape = a.rounds_shape in
        record {
          some_matrix = f.some_matrix;
          large =
              All-weaker (λ m. p.log_final_poly_len + 2 ≤ m.log_n)
              (λ m. p.log_final_poly_len + 1 ≤ m.log_n) (λ m h. omega (arith, h))
              (all_matrices batches) f.large;
          in_group = f.in_group;
          batch_work = f.batch_work;
          commit_work = f.commit_work;
          query_work = f.query_work;
          queries = f.queries;
          blowup = f.blowup;
          arity = f.arity;
          commitments = shape.commitments;
          witnesses = shape.witnesses;
          opened = shape.opened;
          siblings =
              All-weaker (HasSiblings k p r 1) (λ o. (length o.entries ≡ p.num_queries)
              × All (λ values. length values ≡ 1) o.entries)
              (λ o h. (h.0 ∙ count, h.1)) proof.rounds_opened shape.siblings;
          final_poly = shape.final_poly;
          batch_zero = λ none. null proof.batch_witness (a.canonical.batch none);
          commit_zero = λ none. All-weaker (λ w. w ≡ k.field.zero) (λ w. is_zero w ≡ true) null
              proof.witnesses (a.canonical.commit none);
          query_zero = λ none. null proof.query_witness (a.canonical.query none);
          finite = λ i d lt j e lt'. finite _ (f.finite i d lt j e lt');
        }

-- challenges from their parts
abbrev pub challenges : {E : Type 0} → E → E → List E → List ℕ → Challenges E
challenges alpha bivariate betas queries =
    record { alpha = alpha; bivariate = bivariate; betas = betas; queries = queries }

-- a test that isn't true is false
pub not_true : (b : Bool) → (b ≡ true → ⊥) → b ≡ false
not_true true h = absurd (h refl)
not_true false h = refl

pub false_not : (b : Bool) → b ≡ false → b ≡ true → ⊥
false_not b negative positive = let both : true ≡ false = sym positive ∙ negative in cc

-- challenges are told by their coefficients
map-told : {F E : Type 0} (coefficients : E → List F) →
    ((a b : E) → coefficients a ≡ coefficients b → a ≡ b) → (xs ys : List E) → map coefficients xs
    ≡ map coefficients ys → xs ≡ ys
map-told f told [] [] same = refl
map-told f told [] (y ∷ ys) same = cc
map-told f told (x ∷ xs) [] same = cc
map-told f told (x ∷ xs) (y ∷ ys) same =
    let first : f x ≡ f y = cc in
    let rest : map f xs ≡ map f ys = cc in
    ap (λ z. z ∷ xs) (told x y first) ∙ ap (λ zs. y ∷ zs) (map-told f told xs ys rest)

pub challenges-told : {S F E : Type 0} (coefficients : E → List F) →
    ((a b : E) → coefficients a ≡ coefficients b → a ≡ b) → (c d : Challenges E) (s t : S) →
    drawn_by coefficients c s ≡ drawn_by coefficients d t → c ≡ d
challenges-told {S = S} {F = F} f told c d s t same =
    let alpha = told c.alpha d.alpha (ap (λ (x : Drawn S F). x.alpha) same) in
    let bivariate = told c.bivariate d.bivariate (ap (λ (x : Drawn S F). x.bivariate) same) in
    let betas = map-told f told c.betas d.betas (ap (λ (x : Drawn S F). x.betas) same) in
    let queries : c.queries ≡ d.queries = ap (λ (x : Drawn S F). x.indices) same in
    ap (λ x. record { alpha = x; bivariate = c.bivariate; betas = c.betas; queries = c.queries })
    alpha
    ∙ ap (λ x. record { alpha = d.alpha; bivariate = x; betas = c.betas; queries = c.queries })
    bivariate
    ∙ ap (λ x. record { alpha = d.alpha; bivariate = d.bivariate; betas = x; queries = c.queries })
    betas
    ∙ ap (λ x. record { alpha = d.alpha; bivariate = d.bivariate; betas = d.betas; queries = x })
    queries

-- what holds of a run, in terms of its parts
module _ {F E I W IC ID IP IE WC WD WP WE : Type 0} {g : Ghosts F}
    {ext over inputs ic ip ie words wc wp we : _}
    (o : OpenedRun F E I W IC ID IP IE WC WD WP WE g ext over inputs ic ip ie words wc wp we)
    (mmcs : I) (p : FriParameters W) (r : Run F E WC IC IP WP) (same : o.mmcs.now ≡ mmcs)
    (params : o.params.now ≡ p) (run : run_of o ≡ r) where
  moved : (P : I → FriParameters W → Run F E WC IC IP WP → Type 0) →
      P o.mmcs.now o.params.now (run_of o) → P mmcs p r
  moved P h =
      subst (λ x. P mmcs p x) run
      (subst (λ q. P mmcs q (run_of o)) params
      (subst (λ x. P x o.params.now (run_of o)) same h))

  pub shape-of : IsOpened o → HasInputs over.fields p r
  shape-of h = moved (λ x q y. HasInputs over.fields q y) h.shape

  pub claimed-of : IsOpened o → All (λ m. 1 ≤ length m.claims) (matrices over.fields p r)
  claimed-of h = moved (λ x q y. All (λ m. 1 ≤ length m.claims) (matrices over.fields q y))
      h.claimed

  pub large-of : IsOpened o →
      All (λ m. p.log_final_poly_len + 2 ≤ m.log_n) (matrices over.fields p r)
  large-of h =
      moved (λ x q y. All (λ m. q.log_final_poly_len + 2 ≤ m.log_n) (matrices over.fields q y))
      h.large

  pub holds-of : Holds o →
      HoldsWith over.fields p r (inputs.authenticates mmcs) (words.authenticates p.mmcs)
  holds-of h =
      moved
      (λ x q y. HoldsWith over.fields q y (inputs.authenticates x) (words.authenticates q.mmcs)) h

  pub reason-of : (e : FriError WE (InputError IE WE)) → Refuses o e →
      IsReason over.fields p r (inputs.authenticates mmcs) (words.authenticates p.mmcs)
      inputs.is_memory words.is_memory e
  reason-of e h =
      moved
      (λ x q y. IsReason over.fields q y (inputs.authenticates x) (words.authenticates q.mmcs)
      inputs.is_memory words.is_memory e) h
