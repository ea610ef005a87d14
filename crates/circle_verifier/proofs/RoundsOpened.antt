-- What is opened of a round.
use Rattle.std.specs.Prelude.{◌≡◌, ℕ, ◌+◌, ◌-◌, ◌*◌, ◌/◌, ◌%◌, ◌^◌, ◌<◌, ◌≤◌, List, [], ◌∷◌, length}
use Rattle.std.specs.Prelude.{map, zip, All, slice_index_or}
use Rattle.std.specs.List.{range_with_len}
use Rattle.std.proofs.Common.{suc, sym, ◌∙◌, ap, subst, arith}
use Rattle.std.proofs.Math.Nat.{pow-suc, mod-eq_of_lt}
use Rattle.std.proofs.lemmas.List.{length-map, get_or-map, get_or_default}
use Rattle.std.proofs.lemmas.List.FromFn.{length-range_with_len, get_or-range_with_len}
use Rattle.std.proofs.lemmas.Slice.Zip.{length-zip, get_or-zip}
use Rattle.circle_domain.proofs.Powers.{pow_within}
use Rattle.circle_domain.proofs.Twiddles.{map-map}
use Rattle.circle_relation.specs.Statement.{Opened}
use Rattle.circle_relation.specs.Accepts.{Fields, top, at_queries, round_pair}
use Rattle.circle_relation.specs.Accepts.{HasSiblings, RoundAuthenticates, RoundsAuthenticate}
use Rattle.circle_relation.specs.declared.proof.CircleCommitPhaseMultiStep.{CircleCommitPhaseMultiStep}
use Rattle.circle_verifier.specs.declared.run.OpenedRun.{OpenedRun}
use Rattle.circle_relation.specs.RunOf.{opened_round}
use Rattle.circle_verifier.specs.OfRun.{run_of}
use Rattle.circle_relation.proofs.AtQueries.{placed, zip-placed, map-placed, listed-placed}
use Rattle.circle_verifier.specs.Rounds.{siblings_in, HasRound}

-- one shifted to the left
pub shifted-one : (e : ℕ) → e < 63 → 1 * 2 ^ e % 2 ^ 64 ≡ 2 ^ e
shifted-one e lt =
    let room : 2 ^ suc e ≤ 2 ^ 64 = pow_within (suc e) 64 (omega arith) in
    let below : 1 * 2 ^ e < 2 ^ 64 = omega (arith, room, pow-suc 2 e) in
    mod-eq_of_lt below ∙ (let same : 1 * 2 ^ e ≡ 2 ^ e = omega arith in same)

module _ {F E I W IC ID IP IE WC WD WP WE : Type 0} {g ext over inputs ic ip ie words wc wp we : _}
    (o : OpenedRun F E I W IC ID IP IE WC WD WP WE g ext over inputs ic ip ie words wc wp we) where
  abbrev k : Fields F E
  k = over.fields

  abbrev queries : List ℕ
  queries = o.indices.now

  abbrev commits : List WC
  commits = o.proof.now.fri_proof.commit_phase_commits.items

  abbrev steps : List (CircleCommitPhaseMultiStep E W WC WD WP WE)
  steps = o.proof.now.fri_proof.commit_phase_openings.items

  abbrev opened : List (WC × Opened (List E) WP)
  opened = zip commits (map opened_round steps)

  abbrev all_rounds : List (ℕ × (WC × Opened (List E) WP))
  all_rounds = zip (range_with_len 0 (length opened)) opened

  pub of-commits : (n : ℕ) → n < length o.betas.now → n < length commits
  of-commits n lt = omega (arith, lt, o.drawn.betas, o.drawn.shape.commitments)

  pub of-steps : (n : ℕ) → n < length o.betas.now → n < length steps
  of-steps n lt =
      omega (arith, lt, o.drawn.betas, o.drawn.shape.opened, length-map steps opened_round)

  pub of-rounds : (n : ℕ) → n < length all_rounds → n < length o.betas.now
  of-rounds n lt =
      let long = length-zip (range_with_len 0 (length opened)) opened in
      let counted = length-zip commits (map opened_round steps) in
      omega (
        arith,
        lt,
        long,
        length-range_with_len 0 (length opened),
        counted,
        o.drawn.betas,
        o.drawn.shape.commitments,
      )

  module _ (n : ℕ) (lt : n < length o.betas.now) (c : WC)
      (p : CircleCommitPhaseMultiStep E W WC WD WP WE) (is_c : c ≡ slice_index_or commits n c)
      (is_p : p ≡ slice_index_or steps n p) where
    step-here : slice_index_or (map opened_round steps) n (opened_round p) ≡ opened_round p
    step-here = get_or-map opened_round steps n p (opened_round p) (of-steps n lt)
        ∙ ap opened_round (sym is_p)

    within-opened : n < length opened
    within-opened =
        omega (
          arith,
          length-zip commits (map opened_round steps),
          of-commits n lt,
          of-steps n lt,
          length-map steps opened_round,
        )

    within : n < length all_rounds
    within =
        omega (
          arith,
          length-zip (range_with_len 0 (length opened)) opened,
          length-range_with_len 0 (length opened),
          within-opened,
        )

    round-here : slice_index_or all_rounds n (n, (c, opened_round p)) ≡ (n, (c, opened_round p))
    round-here =
        let m = length opened in
        let none : 0 + n ≡ n = omega arith in
        get_or-zip (range_with_len 0 m) opened n (n, (c, opened_round p))
        (omega (arith, length-range_with_len 0 m, within-opened)) within-opened
        ∙ ap (λ i. (i, slice_index_or opened n (c, opened_round p)))
        (get_or-range_with_len 0 m n n within-opened ∙ none)
        ∙ ap (λ x. (n, x))
        (get_or-zip commits (map opened_round steps) n (c, opened_round p) (of-commits n lt)
        (omega (arith, of-steps n lt, length-map steps opened_round))
        ∙ ap (λ x. (x, slice_index_or (map opened_round steps) n (opened_round p))) (sym is_c)
        ∙ ap (λ x. (c, x)) step-here)

    -- what the scheme is to show, and what the relation says
    module _ (height : ℕ) (places : List ℕ)
        (rows : List (List (List E))) (is_height : height ≡ 2 ^ (o.log_max_height - 2 - n))
        (are_places : places ≡ map (λ q. q / 2 ^ (n + 2)) queries)
        (are_rows : rows
        ≡ at_queries k o.params.now (run_of o)
        (λ j q. round_pair k o.params.now (run_of o) j q n ∷ [])) where
      abbrev asks : ℕ → List ℕ → List (List (List E)) → Type 0
      asks h ps rs = words.authenticates o.params.now.mmcs c (record { width = 2; height = h } ∷ [])
          ps rs
          p.opening_proof

      abbrev shows : ℕ × (WC × Opened (List E) WP) → Type 0
      shows x = RoundAuthenticates k o.params.now (run_of o) (words.authenticates o.params.now.mmcs)
          x

      abbrev due_height : ℕ
      due_height = 2 ^ (top k o.params.now (run_of o) - 2 - n)

      abbrev due_places : List ℕ
      due_places = map (λ q. q / 2 ^ (n + 2)) queries

      abbrev due_rows : List (List (List E))
      due_rows =
          at_queries k o.params.now (run_of o) (λ j q. round_pair k o.params.now (run_of o) j q n
          ∷ [])

      same-height : height ≡ due_height
      same-height = is_height ∙ ap (λ h. 2 ^ (h - 2 - n)) o.drawn.top

      pub shown-round : asks height places rows → HasRound o n
      shown-round told = λ d lt_all.
          let whole : asks due_height due_places due_rows =
          subst (asks due_height due_places) are_rows
          (subst (λ ps. asks due_height ps rows) are_places
          (subst (λ h. asks h places rows) same-height told)) in
          subst shows
          (sym (get_or_default all_rounds n d (n, (c, opened_round p)) lt_all ∙ round-here))
          whole

      pub round-shown : RoundsAuthenticate k o.params.now (run_of o)
          (words.authenticates o.params.now.mmcs) →
          asks height places rows
      round-shown all =
          let whole : asks due_height due_places due_rows =
          subst shows round-here (all n (n, (c, opened_round p)) within) in
          subst (λ h. asks h places rows) (sym same-height)
          (subst (λ ps. asks due_height ps rows) (sym are_places)
          (subst (asks due_height due_places) (sym are_rows) whole))

  module _ (n : ℕ) (lt : n < length o.betas.now) (p : CircleCommitPhaseMultiStep E W WC WD WP WE)
      (is_p : p ≡ slice_index_or steps n p) where
    abbrev siblings : List (List E)
    siblings = map (λ row. row.items) p.sibling_values.items

    step-there : slice_index_or (map opened_round steps) n (opened_round p) ≡ opened_round p
    step-there = get_or-map opened_round steps n p (opened_round p) (of-steps n lt)
        ∙ ap opened_round (sym is_p)

    of-siblings : HasSiblings k o.params.now (run_of o) 1 (opened_round p)
    of-siblings =
        subst (HasSiblings k o.params.now (run_of o) 1) step-there
        (o.drawn.shape.siblings n (opened_round p)
        (omega (arith, of-steps n lt, length-map steps opened_round)))

    pub one-sibling : All (λ row. length row ≡ 1) siblings
    one-sibling = of-siblings.1

    pub siblings-are : map (λ row. slice_index_or row.items 0 k.extension.zero)
        p.sibling_values.items ≡ siblings_in o n
    siblings-are =
        let head = λ (row : List E). slice_index_or row 0 k.extension.zero in
        let entries : Opened (List E) WP → List (List E) = λ x. x.entries in
        let of : List (List (List E)) → ℕ → ℕ → E =
        λ all j q. head (slice_index_or (slice_index_or all n []) j []) in
        let rounds_opened = map opened_round steps in
        let there : slice_index_or (map entries rounds_opened) n [] ≡ siblings =
        get_or-map entries rounds_opened n (opened_round p) []
        (omega (arith, of-steps n lt, length-map steps opened_round)) ∙ ap entries step-there in
        sym (map-map head (λ row. row.items) p.sibling_values.items)
        ∙ ap (map head) (listed-placed siblings [] queries of-siblings.0)
        ∙ map-placed head (λ j q. slice_index_or siblings j []) 0 queries
        ∙ ap (λ xs. placed (λ j q. head (slice_index_or xs j [])) 0 queries) (sym there)
        ∙ sym (zip-placed (of (map entries rounds_opened)) 0 queries)
