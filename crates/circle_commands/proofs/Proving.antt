-- Rows that are placed on domains, and what is committed to.
use Rattle.std.proofs.Common.{◌≡◌, ℕ, ◌+◌, ◌^◌, ◌≤◌, List, [], ◌∷◌, length, All, ap, subst}
use Rattle.std.proofs.Common.{sym, ◌∙◌, Vec, Global}
use Rattle.std.specs.List.{AllZip}
use Rattle.std.proofs.lemmas.List.Elements.{All-nil, All-cons}
use Rattle.circle_commit.specs.Matrix.{IsPowerOfTwo}
use Rattle.circle_commit.specs.Mmcs.{HaveHeightsOfPowers}
use Rattle.circle_commit.specs.declared.pcs.OpeningRequest.{OpeningRequest}
use Rattle.circle_field.specs.declared.cubic.Cubic.{Cubic}
use Rattle.circle_commit.specs.RowMajorMatrix.{height_of, width_of, length-rows}
use Rattle.circle_commit.specs.declared.matrix.RowMajorMatrix.{RowMajorMatrix}
use Rattle.circle_domain.proofs.Powers.{pow_order}
use Rattle.circle_domain.specs.Domain.{log_size, shift_of}
use Rattle.circle_domain.specs.declared.domain.CircleDomain.{CircleDomain}
use Rattle.circle_field.specs.Mersenne31.{operations, generators}
use Rattle.circle_field.specs.declared.mersenne31.Mersenne31.{Mersenne31}
use Rattle.circle_merkle.specs.declared.mmcs.ShaMmcs.{ShaMmcs}
use Rattle.p3_circle.specs.Committing.{AreExtensions, HaveRowsForPoints, IsExtension, IsExtensionOf}
use Rattle.circle_commands.specs.Chosen.{preset}
use Rattle.circle_commands.specs.Proved.{AreCommitted, ArePlaced, IsExtended, IsRequested}
use Rattle.circle_commands.specs.Rows.{lists}
use Rattle.circle_commands.specs.Traces.{HasFittingRows}
use Rattle.circle_commands.specs.declared.prove.Committed.{Committed}
use Rattle.circle_commands.specs.declared.prove.Trace.{Trace}

-- a number of rows that fits leaves room in the group
pub log_fits : (h n : ℕ) → 2 ^ h ≡ n → n ≤ 2 ^ 24 → h ≤ 24
log_fits h n is fits = pow_order h 24 (subst (λ m. m ≤ 2 ^ 24) (sym is) fits)

module _ {g : _} where
  -- each matrix has a row for each point
  pub rows_for_points : (ts : List Trace)
      (es : List (CircleDomain Mersenne31 g × RowMajorMatrix Mersenne31)) →
      AllZip (λ t e. ArePlaced t.rows.items e) ts es → HaveRowsForPoints es
  rows_for_points [] [] all = All-nil (λ e. height_of e.1 ≡ 2 ^ log_size e.0)
  rows_for_points [] (e ∷ es) all = absurd all
  rows_for_points (t ∷ ts) [] all = absurd all
  rows_for_points (t ∷ ts) (e ∷ es) all =
      All-cons (λ e. height_of e.1 ≡ 2 ^ log_size e.0) e es all.0.height
      (rows_for_points ts es all.1)

  -- what is committed to extends the given rows
  pub is_extended : (blowup : ℕ) (given : List (Vec Mersenne31 Global)) (e : CircleDomain
      Mersenne31 g × RowMajorMatrix Mersenne31) (made : RowMajorMatrix Mersenne31)
      → ArePlaced given e → IsExtension operations generators blowup e.0 e.1 made →
      IsExtended blowup (lists given) made
  is_extended blowup given e made placed x =
      let n = log_size e.0 in
      record {
        log_n = n;
        width = width_of e.1;
        height = ap length (sym placed.content) ∙ length-rows e.1 ∙ placed.height;
        extends =
            subst (λ s. IsExtensionOf operations generators blowup n s (width_of e.1) (lists given)
            made) placed.standard
            (subst (λ rs. IsExtensionOf operations generators blowup n (shift_of e.0) (width_of e.1)
            rs made) placed.content x);
      }

  pub are_extended : (blowup : ℕ) (ts : List Trace)
      (es : List (CircleDomain Mersenne31 g × RowMajorMatrix Mersenne31))
      (ms : List (RowMajorMatrix Mersenne31))
      → AllZip (λ t e. ArePlaced t.rows.items e) ts es →
      AreExtensions operations generators blowup es ms →
      AllZip (λ t made. IsExtended blowup (lists t.rows.items) made) ts ms
  are_extended blowup [] [] [] p x = tt
  are_extended blowup [] [] (m ∷ ms) p x = absurd x
  are_extended blowup [] (e ∷ es) ms p x = absurd p
  are_extended blowup (t ∷ ts) [] ms p x = absurd p
  are_extended blowup (t ∷ ts) (e ∷ es) [] p x = absurd x
  are_extended blowup (t ∷ ts) (e ∷ es) (m ∷ ms) p x =
      (is_extended blowup t.rows.items e m p.0 x.0, are_extended blowup ts es ms p.1 x.1)

  -- the heights of what is committed to are powers of two
  pub extended_heights : (blowup : ℕ)
      (es : List (CircleDomain Mersenne31 g × RowMajorMatrix Mersenne31))
      (ms : List (RowMajorMatrix Mersenne31)) → AreExtensions operations generators blowup es ms →
      HaveHeightsOfPowers ms
  extended_heights blowup [] [] x = All-nil (λ m. IsPowerOfTwo (height_of m))
  extended_heights blowup [] (m ∷ ms) x = absurd x
  extended_heights blowup (e ∷ es) [] x = absurd x
  extended_heights blowup (e ∷ es) (m ∷ ms) x =
      All-cons (λ m. IsPowerOfTwo (height_of m)) m ms (log_size e.0 + blowup, x.0.height)
      (extended_heights blowup es ms x.1)

module _ (mmcs : ShaMmcs Mersenne31) (blowup : ℕ) where
  -- the matrices of committed batches were fitting
  pub committed_fit : (bs : List (Vec Trace Global)) (cs : List Committed) →
      AreCommitted mmcs blowup bs cs → All (λ c. All HasFittingRows c.traces.now) cs
  committed_fit [] [] p = All-nil (λ c. All HasFittingRows c.traces.now)
  committed_fit [] (c ∷ cs) p = absurd p
  committed_fit (b ∷ bs) [] p = absurd p
  committed_fit (b ∷ bs) (c ∷ cs) p =
      All-cons (λ c. All HasFittingRows c.traces.now) c cs
      (subst (All HasFittingRows) (sym p.0.given) p.0.fitting) (committed_fit bs cs p.1)

  -- the heights of requested matrices are powers of two
  pub requested_powers : (bs : List (Vec Trace Global)) (cs : List Committed)
      (rs : List (OpeningRequest preset.Kept Cubic)) → AreCommitted mmcs blowup bs cs →
      AllZip IsRequested cs rs →
      All (λ r. HaveHeightsOfPowers (preset.schemes.kept r.prover_data.now)) rs
  requested_powers [] [] [] p q =
      All-nil (λ r. HaveHeightsOfPowers (preset.schemes.kept r.prover_data.now))
  requested_powers [] [] (r ∷ rs) p q = absurd q
  requested_powers [] (c ∷ cs) rs p q = absurd p
  requested_powers (b ∷ bs) [] rs p q = absurd p
  requested_powers (b ∷ bs) (c ∷ cs) [] p q = absurd q
  requested_powers (b ∷ bs) (c ∷ cs) (r ∷ rs) p q =
      All-cons (λ r. HaveHeightsOfPowers (preset.schemes.kept r.prover_data.now)) r rs
      (subst HaveHeightsOfPowers (sym q.0.matrices) p.0.powers)
      (requested_powers bs cs rs p.1 q.1)
