-- What is opened of a trace and of its quotient's chunks is accepted by the scheme.
use Rattle.std.specs.Prelude.{◌≡◌, ℕ, ◌+◌, ◌-◌, ◌^◌, ◌<◌, ◌≤◌, List, [], ◌∷◌, length, map, All}
use Rattle.std.specs.Prelude.{replicate}
use Rattle.std.specs.List.{AllByRecursion}
use Rattle.std.proofs.Common.{zero, suc, refl, sym, ◌∙◌, ap, subst, arith}
use Rattle.std.proofs.lemmas.List.Elements.{All-from_recursion}
use Rattle.circle_challenger.specs.Moves.{RunMoves}
use Rattle.circle_codewords.specs.Requests.{batch_committed, claimed, committed, log_of}
use Rattle.circle_codewords.specs.Words.{claim_of}
use Rattle.circle_codewords.proofs.Logs.{log_of-power}
use Rattle.circle_commit.specs.DotProduct.{pairwise}
use Rattle.circle_commit.specs.Honest.{requested_points}
use Rattle.circle_commit.specs.RowMajorMatrix.{height_of}
use Rattle.circle_commit.specs.declared.matrix.RowMajorMatrix.{RowMajorMatrix}
use Rattle.circle_commit.specs.declared.params.FriParameters.{FriParameters}
use Rattle.circle_commit.specs.declared.pcs.OpeningRequest.{OpeningRequest}
use Rattle.circle_completeness.proofs.Accepted.{accepts-openings}
use Rattle.circle_completeness.proofs.ReadRows.{low-read}
use Rattle.circle_domain.specs.Domain.{log_size}
use Rattle.circle_domain.proofs.Blocks.{all-append}
use Rattle.circle_domain.specs.declared.domain.CircleDomain.{CircleDomain}
use Rattle.circle_field.specs.Circle.{AreGenerators}
use Rattle.circle_field.specs.Field.{FieldLaws, IsEmbedding}
use Rattle.circle_field.specs.declared.field.Operations.{Ghosts}
use Rattle.circle_relation.specs.Accepts.{AcceptsFrom, Authenticates, Fields}
use Rattle.circle_relation.specs.RunOf.{proof_of}
use Rattle.circle_relation.specs.Statement.{MatrixClaim, all_matrices}
use Rattle.circle_relation.specs.declared.proof.CirclePcsProof.{CirclePcsProof}
use Rattle.p3_circle.specs.Committing.{AreExtensions, IsExtension}
use Rattle.p3_circle.specs.Scheme.{IsCommitted, IsGiven}
use Rattle.p3_circle.specs.SchemeLaws.HonestOpenings.{commits, kept-low}
use Rattle.circle_stark.specs.Claims.{at, claims_at, claimed as claimed_of}
use Rattle.circle_stark.specs.Opened.{opened_lists}
use Rattle.circle_stark.specs.Statement.{OpenedValues, Proved}
use Rattle.circle_stark.proofs.Heads.{heads, rests}

-- rows on domains
abbrev pub Batch : (F : Type 0) → Ghosts F → Type 0
Batch F g = List (CircleDomain F g × RowMajorMatrix F)

module _ {F E M : Type 0} {g : Ghosts F} (k : Fields F E) (p : FriParameters M) (n : ℕ)
    (small : n + p.log_blowup < 64) where
  -- the logarithm of the number of rows before the blowup
  log-kept : (x : CircleDomain F g × RowMajorMatrix F) (m : RowMajorMatrix F) → log_size x.0 ≡ n →
      IsExtension k.field k.gen p.log_blowup x.0 x.1 m → log_of (height_of m) - p.log_blowup ≡ n
  log-kept x m size extension =
      let is : log_of (height_of m) ≡ n + p.log_blowup =
      ap log_of (extension.height ∙ ap (λ i. 2 ^ (i + p.log_blowup)) size)
      ∙ log_of-power (n + p.log_blowup) small in
      omega (arith, is)

  -- what is claimed of one matrix
  claim-kept : (x : CircleDomain F g × RowMajorMatrix F) (m : RowMajorMatrix F) (points : List E)
      (values : List (List E)) → log_size x.0 ≡ n →
      IsExtension k.field k.gen p.log_blowup x.0 x.1 m →
      claimed_of n (pairwise claim_of points values)
      ≡ claimed p.log_blowup (committed k p.log_blowup m points values)
  claim-kept x m points values size extension =
      ap (λ i. claimed_of i (pairwise claim_of points values)) (sym (log-kept x m size extension))

  -- of the trace
  trace-claims : (x : CircleDomain F g × RowMajorMatrix F) (ms : List (RowMajorMatrix F))
      (zeta next : E) (local after : List E) → log_size x.0 ≡ n →
      AreExtensions k.field k.gen p.log_blowup (x ∷ []) ms →
      claimed_of n (at zeta local ∷ at next after ∷ []) ∷ []
      ≡ map (claimed p.log_blowup) (batch_committed k p.log_blowup ms
      ((zeta ∷ next ∷ []) ∷ []) ((local ∷ after ∷ []) ∷ []))
  trace-claims x [] zeta next local after size made = absurd made
  trace-claims x (m ∷ []) zeta next local after size made =
      ap (λ c. c ∷ [])
      (claim-kept x m (zeta ∷ next ∷ []) (local ∷ after ∷ []) size made.0)
  trace-claims x (m ∷ n' ∷ ms) zeta next local after size made = absurd made.1

  -- of the chunks
  chunk-claims : (batch : Batch F g) (ms : List (RowMajorMatrix F)) (zeta : E) (count : ℕ)
      (chunks : List (List E)) → AllByRecursion (λ c. log_size c.0 ≡ n) batch →
      AreExtensions k.field k.gen p.log_blowup batch ms → length batch ≡ count →
      length chunks ≡ count →
      map (λ chunk. claimed_of n (at zeta chunk ∷ [])) chunks
      ≡ map (claimed p.log_blowup) (batch_committed k p.log_blowup ms
      (replicate count (zeta ∷ [])) (map (λ chunk. chunk ∷ []) chunks))
  chunk-claims [] [] zeta zero [] sizes made long as_long = refl
  chunk-claims [] [] zeta zero (c ∷ chunks) sizes made long as_long =
      absurd (omega (arith, as_long))
  chunk-claims [] [] zeta (suc count) chunks sizes made long as_long = absurd (omega (arith, long))
  chunk-claims [] (m ∷ ms) zeta count chunks sizes made long as_long = absurd made
  chunk-claims (x ∷ batch) [] zeta count chunks sizes made long as_long = absurd made
  chunk-claims (x ∷ batch) (m ∷ ms) zeta zero chunks sizes made long as_long =
      absurd (omega (arith, long))
  chunk-claims (x ∷ batch) (m ∷ ms) zeta (suc count) [] sizes made long as_long =
      absurd (omega (arith, as_long))
  chunk-claims (x ∷ batch) (m ∷ ms) zeta (suc count) (c ∷ chunks) sizes made long as_long =
      ap (λ first. first ∷ map (λ chunk. claimed_of n (at zeta chunk ∷ [])) chunks)
      (claim-kept x m (zeta ∷ []) (c ∷ []) sizes.0 made.0)
      ∙ ap (λ rest. claimed p.log_blowup (committed k p.log_blowup m (zeta ∷ []) (c ∷ [])) ∷ rest)
      (chunk-claims batch ms zeta count chunks sizes.1 made.1 (omega (arith, long))
      (omega (arith, as_long)))

-- each matrix is claimed at a point
chunks-pointed : {E : Type 0} (n : ℕ) (zeta : E) (chunks : List (List E)) →
    AllByRecursion (λ (m : MatrixClaim E). 1 ≤ length m.claims)
    (map (λ chunk. claimed_of n (at zeta chunk ∷ [])) chunks)
chunks-pointed n zeta [] = tt
chunks-pointed n zeta (c ∷ chunks) = (omega arith, chunks-pointed n zeta chunks)

module _ {C S D F E I M IC ID IP IE WC WD WP WE : Type 0} {g : Ghosts F} (k : Fields F E)
    (base : FieldLaws k.field) (laws : FieldLaws k.extension)
    (e : IsEmbedding k.field k.extension k.embed)
    (gens : AreGenerators k.field k.two_adicity k.gen) (small : k.two_adicity ≤ 62)
    (r : RunMoves C S F E WC) (below : (s : S) (n : ℕ) → n ≤ 63 → r.base.sampled_bits s n < 2 ^ n)
    (p : FriParameters M) (kept : D → List (RowMajorMatrix F))
    (Commits : List (RowMajorMatrix F) → IC → Type 0) (inputs : Authenticates IC F IP)
    (WordCommits : List (RowMajorMatrix E) → WC → Type 0) (words : Authenticates WC E WP) (n : ℕ)
    (fits : n + p.log_blowup < k.two_adicity) (td qd : D) (tc qc : IC)
    (x : CircleDomain F g × RowMajorMatrix F) (size : log_size x.0 ≡ n)
    (trace : IsCommitted k.field k.gen p.log_blowup Commits (x ∷ []) tc (kept td))
    (batch : Batch F g) (sizes : AllByRecursion (λ c. log_size c.0 ≡ n) batch) (count : ℕ)
    (long : length batch ≡ count)
    (quotient : IsCommitted k.field k.gen p.log_blowup Commits batch qc (kept qd))
    (zeta next : E) (v : OpenedValues E) (as_long : length v.chunks ≡ count)
    (proof : CirclePcsProof F E I M F IC ID IP IE WC WD WP WE) (old new : S) where
  abbrev proved : Proved F E IC WC IP WP
  proved = record { trace = tc; quotient = qc; opened = v; opening = proof_of proof }

  abbrev Known : OpeningRequest D E → Type 0
  Known q = (own : Batch F g) × (commitment : IC)
      × commits {g = g} k k.two_adicity p kept Commits own commitment q.prover_data.now

  -- the claims are those of what is opened, whatever the requests are of that name the named
  both : (q s : OpeningRequest D E) → q.prover_data.now ≡ td → s.prover_data.now ≡ qd →
      requested_points q ≡ (zeta ∷ next ∷ []) ∷ [] →
      requested_points s ≡ replicate count (zeta ∷ []) →
      IsGiven p kept k r Commits inputs WordCommits words k.two_adicity (q ∷ s ∷ []) old
      (opened_lists v) proof new →
      AcceptsFrom k p r inputs words (claims_at n proved zeta next) (proof_of proof) old new
  both q s one other points chunks given =
      let low_n : n + p.log_blowup < 64 = omega (arith, fits, small) in
      let first : IsCommitted k.field k.gen p.log_blowup Commits (x ∷ []) tc
      (kept q.prover_data.now) =
      subst (λ d. IsCommitted k.field k.gen p.log_blowup Commits (x ∷ []) tc (kept d)) (sym one)
      trace in
      let second : IsCommitted k.field k.gen p.log_blowup Commits batch qc
      (kept s.prover_data.now) =
      subst (λ d. IsCommitted k.field k.gen p.log_blowup Commits batch qc (kept d)) (sym other)
      quotient in
      let requests = q ∷ s ∷ [] in
      let known : All Known requests =
      All-from_recursion Known requests ((x ∷ [], tc, first), ((batch, qc, second), tt)) in
      let low = kept-low k k.two_adicity p kept Commits requests known given.asked in
      accepts-openings k base laws e gens small r below p kept Commits inputs WordCommits words
      requests given.parameters given.arity given.asked (low-read k p kept requests low)
      (opened_lists v) given.answers (proof_of proof) old new given.opening
      (claims_at n proved zeta next) (
        record {
          committed = first.committed;
          matrices =
              trace-claims k p n low_n x (kept q.prover_data.now) zeta next v.local v.next size
              first.extended
              ∙ ap (λ ps. map (claimed p.log_blowup) (batch_committed k p.log_blowup
              (kept q.prover_data.now) ps ((v.local ∷ v.next ∷ []) ∷ []))) (sym points);
        },
        (
          record {
            committed = second.committed;
            matrices =
                chunk-claims k p n low_n batch (kept s.prover_data.now) zeta count v.chunks sizes
                second.extended long as_long
                ∙ ap (λ ps. map (claimed p.log_blowup) (batch_committed k p.log_blowup
                (kept s.prover_data.now) ps (map (λ chunk. chunk ∷ []) v.chunks))) (sym chunks);
          },
          tt,
        ),
      )
      (All-from_recursion (λ (m : MatrixClaim E). 1 ≤ length m.claims)
      (all_matrices (claims_at n proved zeta next)) (
        omega arith,
        all-append (λ (m : MatrixClaim E). 1 ≤ length m.claims)
            (map (λ chunk. claimed_of n (at zeta chunk ∷ [])) v.chunks) []
            (chunks-pointed n zeta v.chunks) tt,
      ))

  -- so of a list of requests that are two
  pub accepts-opened : (requests : List (OpeningRequest D E)) →
      map (λ q. q.prover_data.now) requests ≡ td ∷ qd ∷ [] →
      map requested_points requests
      ≡ ((zeta ∷ next ∷ []) ∷ []) ∷ replicate count (zeta ∷ []) ∷ [] →
      IsGiven p kept k r Commits inputs WordCommits words k.two_adicity requests old
      (opened_lists v) proof new →
      AcceptsFrom k p r inputs words (claims_at n proved zeta next) (proof_of proof) old new
  accepts-opened [] named points given =
      absurd (let l = ap length named in omega (arith, l))
  accepts-opened (q ∷ []) named points given =
      absurd (let l = ap length named in omega (arith, l))
  accepts-opened (q ∷ s ∷ []) named points given =
      let d = rests _ _ _ _ named in
      let t = rests _ _ _ _ points in
      both q s (heads _ _ _ _ named) (heads _ _ _ _ d) (heads _ _ _ _ points) (heads _ _ _ _ t)
      given
  accepts-opened (q ∷ s ∷ o ∷ rest) named points given =
      absurd (let l = ap length named in omega (arith, l))
