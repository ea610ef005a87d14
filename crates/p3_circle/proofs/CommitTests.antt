-- The tests of what is committed to, and what they establish.
use Rattle.std.proofs.Common.{◌≡◌, ℕ, ◌+◌, ◌^◌, ◌<◌, ◌≤◌, ◌&&◌, ◌||◌, ◌==◌, Bool, true, false, List}
use Rattle.std.proofs.Common.{[], ◌∷◌, length, get_or, refl, sym, ap, ◌∙◌, arith, subst}
use Rattle.std.proofs.lemmas.Bool.{lt-ltb, le-ltb, ltb-false, leb-false}
use Rattle.std.proofs.lemmas.List.Elements.{All-weaker}
use Rattle.std.specs.Prelude.{Ok, Err, All, nat_lt, ◌↔◌}
use Rattle.std.specs.Result.{result_and}
use Rattle.circle_commit.specs.RowMajorMatrix.{height_of}
use Rattle.circle_commit.specs.declared.matrix.RowMajorMatrix.{RowMajorMatrix}
use Rattle.circle_commit.specs.declared.params.FriParameters.{FriParameters}
use Rattle.circle_domain.proofs.Powers.{pow_within, pow_order}
use Rattle.circle_domain.specs.Domain.{log_size, shift_of, IsGenuineDomain}
use Rattle.circle_domain.specs.declared.domain.CircleDomain.{CircleDomain}
use Rattle.circle_field.specs.Circle.{Coordinates, times}
use Rattle.circle_field.specs.Field.{FieldOps}
use Rattle.p3_circle.specs.Committing.{HaveRowsForPoints, IsExtendable, target_tests, domain_tests}
use Rattle.p3_circle.specs.Committing.{evaluation_tests}
use Rattle.circle_prover.specs.Requesting.{height_tests}
use Rattle.circle_relation.specs.TestsInOrder.{Test, answer}
use Rattle.circle_relation.specs.declared.error.ProverError.{ProverError}
use Rattle.circle_relation.specs.declared.error.ProverError.TheVariants.{DomainSmallerThanTrace}
use Rattle.circle_relation.proofs.Answering.{answer-append, answer-none, both-pass, each-passes}
use Rattle.circle_relation.proofs.Answering.{passing, refusing, skipped}
use Rattle.circle_prover.proofs.CommittedHeights.{height-passed, log_small, pow_below}

or-false : (a b : Bool) → (a || b) ≡ false → (a ≡ false) × (b ≡ false)
or-false true b is = cc
or-false false b is = (refl, is)

and-both : (a b : Bool) → a ≡ true → b ≡ true → (a && b) ≡ true
and-both true b x y = y
and-both false b x y = cc

module _ {F M : Type 0} {g : _} (eq : F → F → Bool) (same : (a b : F) → (eq a b ≡ true) ↔ (a ≡ b))
    (k : FieldOps F) (two : ℕ) (p : FriParameters M) where
  -- a domain that passes is large, its extension is in the group, and it is genuine
  pub domain-passed : (d : CircleDomain F g) → answer (domain_tests two p eq k d) (tt {0})
      ≡ Ok (tt {0}) →
      (2 + p.log_final_poly_len ≤ log_size d) × (log_size d + p.log_blowup < two) × IsGenuineDomain
      k d
  domain-passed d passed =
      let first = passing _ _ passed in
      let second = passing _ _ first.1 in
      let third = passing _ _ second.1 in
      let large : 2 + p.log_final_poly_len ≤ log_size d =
      ltb-false (log_size d) (2 + p.log_final_poly_len) first.0 in
      let turned = times k (2 ^ log_size d) (shift_of d) in
      let meets = eq turned.x k.one && eq turned.y k.zero in
      let apart : meets ≡ false = (or-false (log_size d == 0) meets third.0).1 in
      let positive : 1 ≤ log_size d = omega (arith, large) in
      let below : log_size d + p.log_blowup < two =
      leb-false two (log_size d + p.log_blowup) second.0 in (
        large,
        below,
        (
          positive,
          λ bad.
              let x : eq turned.x k.one ≡ true =
              (same turned.x k.one).1 (ap (λ (q : Coordinates F). q.x) bad) in
              let y : eq turned.y k.zero ≡ true =
              (same turned.y k.zero).1 (ap (λ (q : Coordinates F). q.y) bad) in
              let met : meets ≡ true = and-both (eq turned.x k.one) (eq turned.y k.zero) x y in
              let no : true ≡ false = sym met ∙ apart in absurd (cc),
        ),
      )

-- and so has each of those with a row for each point
pub item-small : {F : Type 0} {g : _} (es : List (CircleDomain F g × RowMajorMatrix F)) (i : ℕ)
    (e : CircleDomain F g × RowMajorMatrix F) →
    HaveRowsForPoints es → i < length es → e ≡ get_or es i e → log_size e.0 ≤ 63
item-small es i e have within is =
    let tall : height_of e.1 ≡ 2 ^ log_size e.0 =
    subst (λ x. height_of x.1 ≡ 2 ^ log_size x.0) (sym is) (have i e within) in
    log_small e.1 (log_size e.0) tall

-- where no test refuses, all can be extended
pub all-extendable : {F M : Type 0} {g : _} (eq : F → F → Bool) (same : (a b : F) →
    (eq a b ≡ true) ↔ (a ≡ b)) (k : FieldOps F) (two : ℕ) (p : FriParameters M)
    (es : List (CircleDomain F g × RowMajorMatrix F)) →
    answer (evaluation_tests two p eq k es) (tt {0}) ≡ Ok (tt {0}) →
    All (λ e. IsExtendable k two p.log_blowup e.0) es
all-extendable eq same k two p es passed =
    All-weaker (λ e. answer (domain_tests two p eq k e.0) (tt {0}) ≡ Ok (tt {0}))
    (λ e. IsExtendable k two p.log_blowup e.0)
    (λ e ok. let all = domain-passed eq same k two p e.0 ok in (all.1, all.2)) es
    (each-passes (λ e. domain_tests two p eq k e.0) es passed)

module _ {M : Type 0} (two : ℕ) (p : FriParameters M) (height h : ℕ) (tall : 2 ^ h ≡ height) (n : ℕ)
  where
    -- a matrix whose height passes, on a domain
    target-last : answer (height_tests two p height) (tt {0}) ≡ Ok (tt {0}) →
        answer (target_tests two p height n) (tt {0})
        ≡ answer ((nat_lt (2 ^ (n + p.log_blowup)) height, DomainSmallerThanTrace) ∷ []) (tt {0})
    target-last passed =
        let last : List (Test ProverError) =
        (nat_lt (2 ^ (n + p.log_blowup)) height, DomainSmallerThanTrace) ∷ [] in
        answer-append (height_tests two p height) last (tt {0})
        ∙ ap (λ r. result_and r (answer last (tt {0}))) passed

    pub target_small : answer (height_tests two p height) (tt {0}) ≡ Ok (tt {0}) →
        n + p.log_blowup < h → answer (target_tests two p height n) (tt {0})
        ≡ Err DomainSmallerThanTrace
    target_small passed small = target-last passed
        ∙ refusing _ _ (tt {0})
        (lt-ltb _ _ (omega (arith, pow_below (n + p.log_blowup) h small, tall)))

    pub target_fits : answer (height_tests two p height) (tt {0}) ≡ Ok (tt {0}) →
        h ≤ n + p.log_blowup → answer (target_tests two p height n) (tt {0}) ≡ Ok (tt {0})
    target_fits passed large = target-last passed
        ∙ skipped _ _ (tt {0})
        (le-ltb _ _ (omega (arith, pow_within h (n + p.log_blowup) large, tall)))
        ∙ answer-none (tt {0})

    pub target_refused : (e : ProverError) → answer (height_tests two p height) (tt {0}) ≡ Err e →
        answer (target_tests two p height n) (tt {0}) ≡ Err e
    target_refused e refused =
        let last : List (Test ProverError) =
        (nat_lt (2 ^ (n + p.log_blowup)) height, DomainSmallerThanTrace) ∷ [] in
        answer-append (height_tests two p height) last (tt {0})
        ∙ ap (λ r. result_and r (answer last (tt {0}))) refused

    pub target-passed : answer (target_tests two p height n) (tt {0}) ≡ Ok (tt {0}) →
        (p.log_blowup + 2 + p.log_final_poly_len ≤ h) × (h < two) × (h ≤ n + p.log_blowup)
    target-passed passed =
        let last : List (Test ProverError) =
        (nat_lt (2 ^ (n + p.log_blowup)) height, DomainSmallerThanTrace) ∷ [] in
        let both = both-pass (answer (height_tests two p height) (tt {0})) (answer last (tt {0}))
        (sym (answer-append (height_tests two p height) last (tt {0})) ∙ passed) in
        let fits = height-passed two p height h tall both.0 in
        let large : height ≤ 2 ^ (n + p.log_blowup) =
        ltb-false (2 ^ (n + p.log_blowup)) height (passing _ _ both.1).0 in
        (fits.0, fits.1, pow_order h (n + p.log_blowup) (omega (arith, large, tall)))
