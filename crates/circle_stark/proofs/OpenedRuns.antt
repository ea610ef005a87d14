-- What is requested of a trace and of chunks, and in what lists it is returned.
use Rattle.std.specs.Prelude.{◌≡◌, ℕ, ◌*◌, ◌%◌, ◌^◌, ◌≤◌, List, [], ◌∷◌, length, map, replicate}
use Rattle.std.specs.Prelude.{zip, All}
use Rattle.std.specs.List.{AllZip}
use Rattle.std.proofs.Common.{zero, suc, sym, ◌∙◌, ap, refl, subst, arith}
use Rattle.std.proofs.lemmas.List.{length-replicate}
use Rattle.std.proofs.lemmas.List.Elements.{All-nil, All-cons}
use Rattle.circle_codewords.proofs.Opened.{counted}
use Rattle.circle_codewords.specs.Requests.{AreAnswers, AreValuesOf}
use Rattle.circle_commit.specs.Honest.{requested_points}
use Rattle.circle_commit.specs.Pcs.{Openings}
use Rattle.circle_commit.specs.declared.matrix.RowMajorMatrix.{RowMajorMatrix}
use Rattle.circle_commit.specs.declared.pcs.OpeningRequest.{OpeningRequest}
use Rattle.circle_relation.specs.Accepts.{Fields}
use Rattle.circle_stark.specs.Opened.{IsOpenedOf, IsOpenedRun, opened_lists}
use Rattle.circle_stark.specs.Statement.{OpenedValues}
use Rattle.circle_stark.proofs.Heads.{heads, rests}

-- what holds of both data holds of the data of each request
pub of-both : {D E : Type 0} (P : D → Type 0) (a b : D) → P a → P b →
    (requests : List (OpeningRequest D E)) →
    map (λ r. r.prover_data.now) requests ≡ a ∷ b ∷ [] → All (λ r. P r.prover_data.now) requests
of-both P a b first second [] same = absurd (let l = ap length same in omega (arith, l))
of-both P a b first second (q ∷ []) same = absurd (let l = ap length same in omega (arith, l))
of-both P a b first second (q ∷ s ∷ []) same =
    All-cons (λ r. P r.prover_data.now) q (s ∷ []) (subst P (sym (heads _ _ _ _ same)) first)
    (All-cons (λ r. P r.prover_data.now) s []
    (subst P (sym (heads _ _ _ _ (rests _ _ _ _ same))) second)
    (All-nil (λ r. P r.prover_data.now)))
of-both P a b first second (q ∷ s ∷ o ∷ rest) same =
    absurd (let l = ap length same in omega (arith, l))

module _ {F E : Type 0} (k : Fields F E) (blowup : ℕ) where
  -- of matrices that are opened at one point each, one list of values each
  each-one : (ms : List (RowMajorMatrix F)) (count : ℕ) (zeta : E) (values : List (List (List E))) →
      length values ≡ count →
      AllZip (λ m rest. AreValuesOf k blowup m rest.0 rest.1) ms
      (zip (replicate count (zeta ∷ [])) values) → All (λ chunk. length chunk ≡ 1) values
  each-one ms zero zeta [] long are = All-nil (λ chunk. length chunk ≡ 1)
  each-one ms zero zeta (v ∷ values) long are = absurd (omega (arith, long))
  each-one ms (suc count) zeta [] long are = absurd (omega (arith, long))
  each-one [] (suc count) zeta (v ∷ values) long are = absurd are
  each-one (m ∷ ms) (suc count) zeta (v ∷ values) long are =
      All-cons (λ chunk. length chunk ≡ 1) v values are.0.count
      (each-one ms count zeta values (omega (arith, long)) are.1)

  -- of one matrix that is opened at two points
  one-of : (ms : List (RowMajorMatrix F)) → length ms ≡ 1 → (zeta next : E)
      (values : List (List (List E))) → length values ≡ 1 →
      AllZip (λ m rest. AreValuesOf k blowup m rest.0 rest.1) ms
      (zip ((zeta ∷ next ∷ []) ∷ []) values) →
      (trace : List (List E)) × (values ≡ trace ∷ []) × (length trace ≡ 2)
  one-of [] one zeta next values long are = absurd (omega (arith, one))
  one-of (m ∷ ms) one zeta next [] long are = absurd (omega (arith, long))
  one-of (m ∷ ms) one zeta next (v ∷ []) long are = (v, refl, are.0.count)
  one-of (m ∷ ms) one zeta next (v ∷ w ∷ values) long are = absurd (omega (arith, long))

  module _ {D : Type 0} (kept : D → List (RowMajorMatrix F)) (a b : D) (one : length (kept a) ≡ 1)
      (zeta next : E) (count : ℕ) where
    two-requests : (q s : OpeningRequest D E) → q.prover_data.now ≡ a →
        requested_points q ≡ (zeta ∷ next ∷ []) ∷ [] →
        requested_points s ≡ replicate count (zeta ∷ []) → (v w : List (List (List E))) →
        AreAnswers kept k blowup q v → AreAnswers kept k blowup s w → IsOpenedOf (v ∷ w ∷ [])
    two-requests q s named points chunks v w first second =
        let of_trace = one-of (kept q.prover_data.now) (ap (λ d. length (kept d)) named ∙ one) zeta
        next v (first.1 ∙ ap length points)
        (subst (λ ps. AllZip (λ m rest. AreValuesOf k blowup m rest.0 rest.1)
        (kept q.prover_data.now) (zip ps v)) points first.0) in
        record {
          trace = of_trace.0;
          quotient = w;
          batches = ap (λ t. t ∷ w ∷ []) of_trace.1;
          both = of_trace.2;
          each = each-one (kept s.prover_data.now) count zeta w
              (second.1 ∙ ap length chunks ∙ length-replicate count (zeta ∷ []))
              (subst (λ ps. AllZip (λ m rest. AreValuesOf k blowup m rest.0 rest.1)
              (kept s.prover_data.now) (zip ps w)) chunks second.0);
        }

    -- so of requests and values as they are returned
    pub are-opened : (requests : List (OpeningRequest D E)) (values : Openings E) →
        map (λ r. r.prover_data.now) requests ≡ a ∷ b ∷ [] →
        map requested_points requests
        ≡ ((zeta ∷ next ∷ []) ∷ []) ∷ replicate count (zeta ∷ []) ∷ [] →
        AllZip (AreAnswers kept k blowup) requests values → IsOpenedOf values
    are-opened [] values named points are = absurd (let l = ap length named in omega (arith, l))
    are-opened (q ∷ []) values named points are =
        absurd (let l = ap length named in omega (arith, l))
    are-opened (q ∷ s ∷ []) [] named points are = absurd are
    are-opened (q ∷ s ∷ []) (v ∷ []) named points are = absurd are.1
    are-opened (q ∷ s ∷ []) (v ∷ w ∷ []) named points are =
        two-requests q s (heads _ _ _ _ named) (heads _ _ _ _ points)
        (heads _ _ _ _ (rests _ _ _ _ points)) v w are.0 are.1.0
    are-opened (q ∷ s ∷ []) (v ∷ w ∷ x ∷ values) named points are = absurd are.1.1
    are-opened (q ∷ s ∷ o ∷ rest) values named points are =
        absurd (let l = ap length named in omega (arith, l))

-- the points of requests for 2^n chunks, as they are requested
pub points-of : {E : Type 0} (n : ℕ) → n ≤ 62 → (zeta next after : E) → next ≡ after →
    (points : List (List (List E))) →
    points
    ≡ ((zeta ∷ next ∷ []) ∷ [])
    ∷ replicate (1 * 2 ^ n % 18446744073709551616) (zeta ∷ []) ∷ [] →
    points ≡ ((zeta ∷ after ∷ []) ∷ []) ∷ replicate (2 ^ n) (zeta ∷ []) ∷ []
points-of n small zeta next after same points are =
    are
    ∙ ap (λ i. ((zeta ∷ next ∷ []) ∷ []) ∷ replicate i (zeta ∷ []) ∷ []) (counted n small)
    ∙ ap (λ t. ((zeta ∷ t ∷ []) ∷ []) ∷ replicate (2 ^ n) (zeta ∷ []) ∷ []) same

-- values that are returned are those of the record
pub run-of : {S D E Proof : Type 0}
    (Gives : List (OpeningRequest D E) → S → Openings E → Proof → S → Type 0)
    (AreTrue : List (OpeningRequest D E) → Openings E → Type 0) (trace quotient : D) (count : ℕ)
    (zeta next : E) (v : OpenedValues E) (proof : Proof) (old new : S)
    (requests : List (OpeningRequest D E)) (values : Openings E) → values ≡ opened_lists v →
    map (λ r. r.prover_data.now) requests ≡ trace ∷ quotient ∷ [] →
    map requested_points requests
    ≡ ((zeta ∷ next ∷ []) ∷ []) ∷ replicate count (zeta ∷ []) ∷ [] →
    Gives requests old values proof new → AreTrue requests values →
    IsOpenedRun Gives AreTrue trace quotient count zeta next v proof old new
run-of Gives AreTrue trace quotient count zeta next v proof old new requests values same named
    points given are =
    record {
      requests = requests;
      kept = named;
      points = points;
      given = subst (λ vs. Gives requests old vs proof new) same given;
      values = subst (AreTrue requests) same are;
    }
