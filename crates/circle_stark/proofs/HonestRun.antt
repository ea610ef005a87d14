-- An honest run is accepted: the scheme accepts what is opened, and the identity holds of it.
use Rattle.std.specs.Prelude.{◌≡◌, ℕ, ◌+◌, ◌^◌, ◌<◌, ◌≤◌, List, [], ◌∷◌, length, map}
use Rattle.std.specs.Prelude.{slice_get, slice_index_or}
use Rattle.std.specs.List.{AllByRecursion, range_with_len}
use Rattle.std.proofs.Common.{sym, ◌∙◌, ap, refl, subst, arith}
use Rattle.std.proofs.lemmas.List.{length-map}
use Rattle.std.proofs.lemmas.List.FromFn.{length-range_with_len}
use Rattle.std.proofs.lemmas.List.Elements.{recursion_from_All}
use Rattle.circle_air.specs.Satisfies.{Satisfies}
use Rattle.circle_air.specs.Valid.{IsValid}
use Rattle.circle_challenger.specs.Moves.{RunMoves}
use Rattle.circle_commit.specs.DotProduct.{dot}
use Rattle.circle_commit.specs.Honest.{AreTrueValues}
use Rattle.circle_commit.specs.RowMajorMatrix.{rows, width_of}
use Rattle.circle_commit.specs.declared.matrix.RowMajorMatrix.{RowMajorMatrix}
use Rattle.circle_commit.specs.declared.params.FriParameters.{FriParameters}
use Rattle.circle_domain.specs.Domain.{log_size}
use Rattle.circle_domain.specs.Order.{natural_order}
use Rattle.circle_domain.specs.Selectors.{next_from}
use Rattle.circle_domain.specs.Splitting.{split_rows}
use Rattle.circle_domain.specs.Values.{lifted_values_at, values_at}
use Rattle.circle_domain.specs.declared.domain.CircleDomain.{CircleDomain}
use Rattle.circle_field.specs.Circle.{AreGenerators, Coordinates}
use Rattle.circle_field.specs.Extension.{AreCoefficients}
use Rattle.circle_field.specs.Field.{FieldLaws, IsEmbedding}
use Rattle.circle_field.specs.declared.field.Operations.{Ghosts}
use Rattle.circle_point.specs.Basis.{vanishing}
use Rattle.circle_point.specs.Projective.{from_line, to_line}
use Rattle.circle_point.proofs.Projections.{from_line-on_circle, line_norm-zero}
use Rattle.circle_quotient.specs.Basis.{AreBasis}
use Rattle.circle_quotient.specs.Fit.{IsFit}
use Rattle.circle_quotient.specs.Recomposition.{part_values, recomposed}
use Rattle.circle_quotient.specs.Window.{IsWindowOf, next_point}
use Rattle.circle_relation.specs.Accepts.{Authenticates, Fields}
use Rattle.circle_relation.specs.RunOf.{proof_of}
use Rattle.circle_relation.specs.declared.proof.CirclePcsProof.{CirclePcsProof}
use Rattle.p3_circle.specs.Committing.{HaveNaturalValues}
use Rattle.p3_circle.specs.Honest.{AreValuesOfBatch}
use Rattle.p3_circle.specs.Scheme.{IsGiven}
use Rattle.p3_circle.specs.SchemeLaws.HonestOpenings.{commits}
use Rattle.circle_stark.specs.Accepts.{HasIdentity, IsCompositionAt, StarkAccepts}
use Rattle.circle_stark.specs.Draw.{AreDrawn, Described}
use Rattle.circle_stark.specs.Honest.{IsQuotientCommitted, IsTraceCommitted}
use Rattle.circle_stark.specs.Opened.{IsOpenedRun}
use Rattle.circle_stark.specs.OpensRows.{OpensRows}
use Rattle.circle_stark.specs.Provable.{HasShape, IsProvable}
use Rattle.circle_stark.specs.Statement.{OpenedValues, Statement}
use Rattle.circle_stark.proofs.ChunkPolynomials.{AreBaseChunksOf}
use Rattle.circle_stark.proofs.HonestIdentity.{honest-identity}
use Rattle.circle_stark.proofs.OpenedClaims.{accepts-opened}
use Rattle.circle_stark.proofs.PointWindows.{composition-there}
use Rattle.circle_stark.proofs.TrueValues.{AreOfCoefficients, AreTrueOf, chunks-wide}
use Rattle.circle_stark.proofs.TrueValues.{counted, of-batch, opened_of, parts-at, true-of}

-- as many parts as asked for
length-split : {T : Type 0} (c height : ℕ) (all : List (List T)) →
    length (split_rows c height all) ≡ c
length-split c height all = length-map (range_with_len 0 c) _ ∙ length-range_with_len 0 c

module _ {C S D F E I M IC ID IP IE WC WD WP WE : Type 0} {g : Ghosts F} (k : Fields F E)
    (base : FieldLaws k.field) (laws : FieldLaws k.extension)
    (e : IsEmbedding k.field k.extension k.embed)
    (gens : AreGenerators k.field k.two_adicity k.gen) (small : k.two_adicity ≤ 62)
    (own : RunMoves C S F E IC) (r : RunMoves C S F E WC)
    (below : (s : S) (n : ℕ) → n ≤ 63 → r.base.sampled_bits s n < 2 ^ n)
    (told : AreCoefficients k.field k.extension k.embed own.base.degree own.base.coefficients)
    (p : FriParameters M) (kept : D → List (RowMajorMatrix F))
    (Commits : List (RowMajorMatrix F) → IC → Type 0) (inputs : Authenticates IC F IP)
    (WordCommits : List (RowMajorMatrix E) → WC → Type 0) (words : Authenticates WC E WP)
    (s : Statement F) (kk : ℕ) (provable : IsProvable k.two_adicity p s kk)
    (valid : IsValid s.parts) (x : RowMajorMatrix F) (width : width_of x ≡ s.parts.width)
    (satisfied : Satisfies k.field s.parts (rows x) s.public_values) (td qd : D) (tc qc : IC)
    (alpha zeta : E)
    (trace : IsTraceCommitted g k.field k.gen p.log_blowup Commits s.log_n x tc (kept td))
    (quotient : IsQuotientCommitted g k p.log_blowup Commits own.base.coefficients
    own.base.degree s kk (kept td) alpha qc (kept qd))
    (fit : IsFit k.extension k.embed k.gen s.log_n zeta) (v : OpenedValues E)
    (proof : CirclePcsProof F E I M F IC ID IP IE WC WD WP WE) (between new : S) where
  abbrev next : E
  next = to_line k.extension (next_from k.extension k.embed k.gen s.log_n zeta)

  abbrev Opened : Type 0
  Opened = IsOpenedRun
      (IsGiven p kept k r Commits inputs WordCommits words k.two_adicity)
      (AreTrueValues (commits {g = g} k k.two_adicity p kept Commits) (AreValuesOfBatch k))
      td qd (2 ^ kk) zeta next v proof between new

  module _ (opened : Opened) where
    abbrev chunks-of : List (CircleDomain F g × RowMajorMatrix F)
    chunks-of = quotient.chunks.batch

    parts-long : length chunks-of ≡ 2 ^ kk
    parts-long =
        sym (length-map chunks-of (λ c. rows c.1)) ∙ ap length quotient.chunks.rows
        ∙ length-split (2 ^ kk) (2 ^ (s.log_n + kk)) (map own.base.coefficients quotient.values)

    as_long : length v.chunks ≡ 2 ^ kk
    as_long =
        counted k p.log_blowup kept zeta next (2 ^ kk) v opened.requests opened.points
        opened.given.answers

    sizes : AllByRecursion (λ c. log_size c.0 ≡ s.log_n) chunks-of
    sizes = recursion_from_All (λ c. log_size c.0 ≡ s.log_n) chunks-of quotient.chunks.sizes

    truths : AreTrueOf k td qd (commits {g = g} k k.two_adicity p kept Commits) zeta next (2 ^ kk) v
        ((trace.domain, x) ∷ []) chunks-of
    truths =
        true-of k td qd (commits {g = g} k k.two_adicity p kept Commits) zeta next (2 ^ kk) v
        ((trace.domain, x) ∷ []) chunks-of tc qc trace.committed quotient.chunks.committed
        opened.requests opened.kept opened.points opened.values

    chunks-are : AreOfCoefficients k s.log_n own.base.degree zeta chunks-of v.chunks
    chunks-are =
        of-batch k s.log_n own.base.degree zeta chunks-of (2 ^ kk) v.chunks sizes
        (recursion_from_All (λ c. width_of c.1 ≡ own.base.degree) chunks-of quotient.chunks.widths)
        parts-long as_long truths.of_chunks

    -- what is opened of the trace
    opened-rows : (d : Described F) (old : S) → AreDrawn own d tc qc old alpha zeta between →
        OpensRows g k own d s.log_n x old
        (record { trace = tc; quotient = qc; opened = v; opening = proof_of proof })
    opened-rows d old drawn = record {
      alpha = alpha;
      zeta = zeta;
      between = between;
      drawn = drawn;
      domain = trace.domain;
      standard = trace.standard;
      values = truths.of_trace.0;
    }

    -- the trace's coefficients
    abbrev coeffs : List (List F)
    coeffs = truths.of_trace.0.coeffs

    has : HaveNaturalValues k.field k.gen s.log_n (k.gen (s.log_n + 1)) (width_of x) coeffs (rows x)
    has =
        subst (λ i. HaveNaturalValues k.field k.gen i (k.gen (i + 1)) (width_of x) coeffs (rows x))
        trace.standard.0
        (subst (λ t. HaveNaturalValues k.field k.gen (log_size trace.domain) t (width_of x) coeffs
        (rows x)) trace.standard.1 truths.of_trace.0.told)

    abbrev at_line : E → List E
    at_line t =
        lifted_values_at k.field.zero k.extension k.embed coeffs s.parts.width
        (from_line k.extension t)

    local-is : v.local ≡ at_line zeta
    local-is =
        truths.of_trace.0.values.0
        ∙ ap (λ w. lifted_values_at k.field.zero k.extension k.embed coeffs w
        (from_line k.extension zeta)) width

    next-is : v.next ≡ at_line next
    next-is =
        truths.of_trace.0.values.1.0
        ∙ ap (λ w. lifted_values_at k.field.zero k.extension k.embed coeffs w
        (from_line k.extension next)) width

    line-long : (t : E) → length (at_line t) ≡ s.parts.width
    line-long t =
        length-map (range_with_len 0 s.parts.width) _ ∙ length-range_with_len 0 s.parts.width

    shape : HasShape own.base.degree s.parts.width kk v
    shape = record {
      local = ap length local-is ∙ line-long zeta;
      next = ap length next-is ∙ line-long next;
      chunks = as_long;
      columns = chunks-wide k s.log_n own.base.degree zeta chunks-of v.chunks chunks-are;
    }

    -- the coefficients of each chunk
    base-chunks : AreBaseChunksOf k.field k.gen s.log_n kk own.base.degree own.base.coefficients
        quotient.values chunks-are.coeffs
    base-chunks = λ j t there.
        let at_part = parts-at k s.log_n own.base.degree zeta chunks-of chunks-are.coeffs
        chunks-are.has j t (ap (λ ps. slice_get ps j) quotient.chunks.shifts ∙ there) in (
          at_part.height,
          at_part.widths,
          at_part.values ∙ ap (λ rs. slice_index_or rs j []) quotient.chunks.rows,
        )

    extended-is : rows quotient.extended
        ≡ map (values_at k.field coeffs s.parts.width)
        (natural_order k.field k.gen (s.log_n + kk) (k.gen (s.log_n + kk + 1)))
    extended-is =
        (quotient.continues trace.domain x trace.standard trace.committed.extended).values coeffs
        has
        ∙ ap (λ w. map (values_at k.field coeffs w)
        (natural_order k.field k.gen (s.log_n + kk) (k.gen (s.log_n + kk + 1)))) width

    given-is : map (values_at k.field coeffs s.parts.width)
        (natural_order k.field k.gen s.log_n (k.gen (s.log_n + 1))) ≡ rows x
    given-is =
        ap (λ w. map (values_at k.field coeffs w)
        (natural_order k.field k.gen s.log_n (k.gen (s.log_n + 1)))) (sym width) ∙ has.values

    module _ (on_next : from_line k.extension next
        ≡ next_from k.extension k.embed k.gen s.log_n zeta) (basis : List E)
        (of_basis : AreBasis k.field own.base.coefficients own.base.degree basis) where
      abbrev point : Coordinates E
      point = from_line k.extension zeta

      -- both sides of the identity have a value
      composed : (value : E)
          × IsCompositionAt k.field k.gen k.extension k.embed s v alpha zeta value
      composed =
          composition-there base laws e gens s (omega (arith, provable.domains.positive))
          (omega (arith, provable.domains.in_group)) valid provable.domains.periods v alpha zeta

      abbrev combined : E
      combined =
          recomposed k.extension (map k.embed (part_values k.field k.gen s.log_n kk))
          (map (dot k.extension basis) v.chunks) (vanishing k.extension s.log_n point)

      reads : IsWindowOf k.field k.gen k.extension k.embed s.log_n s.parts s.public_values point
          (lifted_values_at k.field.zero k.extension k.embed coeffs s.parts.width point)
          (lifted_values_at k.field.zero k.extension k.embed coeffs s.parts.width
          (next_point k.field k.gen k.extension k.embed s.log_n point)) composed.1.window
      reads =
          subst (λ here. IsWindowOf k.field k.gen k.extension k.embed s.log_n s.parts
          s.public_values point here (lifted_values_at k.field.zero k.extension k.embed coeffs
          s.parts.width (next_point k.field k.gen k.extension k.embed s.log_n point))
          composed.1.window) local-is
          (subst (λ after. IsWindowOf k.field k.gen k.extension k.embed s.log_n s.parts
          s.public_values point v.local after composed.1.window)
          (next-is ∙ ap (lifted_values_at k.field.zero k.extension k.embed coeffs s.parts.width)
          on_next) composed.1.reads)

      identity : HasIdentity k.field k.gen k.extension k.embed s own.base.coefficients
          own.base.degree kk v alpha zeta
      identity = record {
        value = composed.0;
        quotient = combined;
        composed = composed.1;
        recomposed = (basis, of_basis, refl);
        equal =
            composed.1.sum
            ∙ honest-identity base laws e gens told s.log_n kk
            (omega (arith, provable.domains.positive)) provable.domains.chunks.positive
            provable.domains.in_group s.parts valid (rows x) s.public_values satisfied
            provable.domains.chunks.enough provable.domains.periods coeffs has.height given-is
            (rows quotient.extended) extended-is alpha quotient.values quotient.quotients
            chunks-are.coeffs
            (sym (length-map chunks-are.coeffs
            (opened_of k own.base.degree zeta)) ∙ sym (ap length chunks-are.opened)
            ∙ as_long)
            base-chunks point
            (from_line-on_circle laws zeta (λ z. fit.finite (line_norm-zero laws zeta z)))
            fit.off_domain composed.1.window reads basis of_basis
            ∙ ap (λ cs. k.extension.mul (vanishing k.extension s.log_n point)
            (recomposed k.extension (map k.embed (part_values k.field k.gen s.log_n kk))
            (map (dot k.extension basis) cs) (vanishing k.extension s.log_n point)))
            (sym chunks-are.opened);
      }

      accepted : (d : Described F) (old : S) → AreDrawn own d tc qc old alpha zeta between →
          StarkAccepts k p own r inputs words d s
          (record { trace = tc; quotient = qc; opened = v; opening = proof_of proof }) old new
      accepted d old drawn = record {
        log_chunks = kk;
        provable = provable;
        shape = shape;
        alpha = alpha;
        zeta = zeta;
        between = between;
        drawn = drawn;
        fit = fit;
        opens =
            accepts-opened k base laws e gens small r below p kept Commits inputs WordCommits words
            s.log_n provable.extended td qd tc qc (trace.domain, x) trace.standard.0
            trace.committed chunks-of sizes (2 ^ kk) parts-long quotient.chunks.committed zeta next
            v as_long proof between new opened.requests opened.kept opened.points opened.given;
        identity = identity;
      }

      -- the proof is accepted, and opens the rows
      pub proved : (d : Described F) (old : S) → AreDrawn own d tc qc old alpha zeta between →
          StarkAccepts k p own r inputs words d s
          (record { trace = tc; quotient = qc; opened = v; opening = proof_of proof }) old new
          × OpensRows g k own d s.log_n x old
          (record { trace = tc; quotient = qc; opened = v; opening = proof_of proof })
      proved d old drawn = (accepted d old drawn, opened-rows d old drawn)
