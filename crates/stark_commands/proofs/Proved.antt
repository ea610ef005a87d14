-- What the command `prove` hands to the prover, and what it refuses.
use Rattle.std.proofs.Common.{◌≡◌, ℕ, ◌^◌, ◌⊎◌, ⊎_elim, List, Vec, Global, ap, inl, inr}
use Rattle.std.proofs.Common.{length}
use Rattle.std.proofs.Common.{arith, replicate, subst, sym, ◌∙◌}
use Rattle.std.specs.Prelude.{None}
use Rattle.circle_air.specs.Degrees.{IsLogOfChunks, degree_of_parts}
use Rattle.circle_air.specs.Parts.{Parts, parts_of}
use Rattle.circle_air.specs.Refusal.{refusal}
use Rattle.circle_air.specs.Satisfies.{Satisfies}
use Rattle.circle_codewords.specs.Requests.{log_of}
use Rattle.circle_commands.proofs.Rows.{length-lists}
use Rattle.circle_commands.specs.Rows.{lists, IsRectangular}
use Rattle.circle_commit.specs.Matrix.{IsPowerOfTwo}
use Rattle.circle_commit.specs.Parameters.{with_scheme}
use Rattle.circle_commit.specs.declared.params.FriParameters.{FriParameters}
use Rattle.circle_field.specs.Mersenne31.{operations}
use Rattle.circle_field.specs.declared.cubic.Cubic.{Cubic}
use Rattle.circle_field.specs.declared.mersenne31.Mersenne31.{Mersenne31}
use Rattle.circle_merkle.specs.declared.mmcs.ShaMmcs.{ShaMmcs}
use Rattle.circle_stark.specs.Statement.{Statement}
use Rattle.circle_stark.specs.declared.error.StarkProverError.{StarkProverError}
use Rattle.circle_stark.specs.declared.error.StarkProverError.TheVariants as prover
use Rattle.stark_commands.proofs.Verified.{Accepts, verified, verified-new}
use Rattle.stark_commands.specs.Proved.{AreFittingRows, HasAir, IsFitting, IsProved, IsProvedFrom}
use Rattle.stark_commands.specs.Proved.{IsRefusalOfRows, IsRefusedByProver, IsTooLarge}
use Rattle.stark_commands.specs.Proved.{IsUnproved, IsUnprovedBy, IsUnprovedFrom, parts_given}
use Rattle.stark_commands.specs.Proved.{rows_given, statement_proved}
use Rattle.stark_commands.specs.Refused.{IsRefusalOfTrace}
use Rattle.stark_commands.specs.Verified.{statement_given}
use Rattle.stark_commands.specs.declared.prove.Input.{Input}
use Rattle.stark_commands.specs.declared.prove.Refusal.{Refusal}
use Rattle.stark_commands.specs.declared.prove.Refusal.TheVariants.{Air, RaggedRows}
use Rattle.stark_commands.specs.declared.prove.Refusal.TheVariants.{HeightNotPowerOfTwo}
use Rattle.stark_commands.specs.declared.prove.Refusal.TheVariants.{HeightTooLarge, Prover, Memory}
use Rattle.stark_commands.specs.declared.verify.Input.{Input as Claim}

-- a degree fixes the logarithm of the number of chunks
one_log : (degree j k : ℕ) → IsLogOfChunks degree j → IsLogOfChunks degree k → j ≡ k
one_log degree j k a b =
    omega (arith, a.least k b.positive b.enough, b.least j a.positive a.enough)

-- what is proved of 2^log_n rows, and of so many
abbrev pub statement_of : Parts Mersenne31 → ℕ → List Mersenne31 → Statement Mersenne31
statement_of parts log_n public = record {
  parts = parts;
  log_n = log_n;
  public_values = public;
}

abbrev pub stated_by : Parts Mersenne31 → ℕ → List Mersenne31 → Statement Mersenne31
stated_by parts height public = statement_of parts (log_of height) public

-- equal parts make equal statements
same_statement : (p q : Parts Mersenne31) (m n : ℕ) (v w : List Mersenne31) → p ≡ q → m ≡ n →
    v ≡ w → statement_of p m v ≡ statement_of q n w
same_statement p q m n v w parts log public =
    ap (λ (x : Parts Mersenne31). statement_of x m v) parts
    ∙ ap (λ (x : ℕ). statement_of q x v) log
    ∙ ap (λ (x : List Mersenne31). statement_of q n x) public

module _ (Refuses : StarkProverError → Type 0) (input : Input) where
  many : length (rows_given input) ≡ length input.rows.items
  many = length-lists input.rows.items

  first_refused : (k : ℕ) → IsLogOfChunks (degree_of_parts (parts_given input)) k → HasAir input →
      (e : Refusal) → IsRefusalOfRows input.params.log_blowup k input.rows.items e →
      IsUnprovedBy Refuses input e
  first_refused k log air (Air error) h = absurd h
  first_refused k log air RaggedRows h = (air, h)
  first_refused k log air HeightNotPowerOfTwo h =
      ((air, h.0), λ p. h.1 (subst IsPowerOfTwo many p))
  first_refused k log air HeightTooLarge h = (
    ((air, h.0), subst IsPowerOfTwo (sym many) h.1.0),
    (
      k,
      log,
      subst (λ (n : ℕ). IsTooLarge (log_of n) input.params.log_blowup k) (sym many) h.1.1,
    ),
  )
  first_refused k log air (Prover error) h = absurd h
  first_refused k log air Memory h = absurd h

  -- rows that are refused before the prover sees them
  pub rows_refused : (k : ℕ) (rows : List (Vec Mersenne31 Global)) (e : Refusal) →
      rows ≡ input.rows.items → IsLogOfChunks (degree_of_parts (parts_given input)) k →
      HasAir input → IsRefusalOfRows input.params.log_blowup k rows e →
      IsUnprovedBy Refuses input e
  rows_refused k rows e same log air refused =
      first_refused k log air e
      (subst (λ (rs : List (Vec Mersenne31 Global)). IsRefusalOfRows input.params.log_blowup k rs e)
      same refused)

  -- what the prover refuses, but where it is memory that is refused
  pub trace_refused : (error : StarkProverError) (reason : Refusal) →
      IsRefusalOfTrace Prover Memory error reason → IsFitting input →
      ((¬ (error ≡ prover.Memory)) → Refuses error) →
      (reason ≡ Memory) ⊎ IsUnprovedBy Refuses input reason
  trace_refused error reason is fitting refused =
      ⊎_elim (λ memory. inl memory.1)
      (λ other. inr (subst (IsUnprovedBy Refuses input) (sym other.1)
      (fitting, refused other.0))) is

-- what is refused for some errors is so for others that these are
unproved_by : (Refuses Other : StarkProverError → Type 0) (input : Input) →
    ((error : StarkProverError) → Refuses error → Other error) → (e : Refusal) →
    IsUnprovedBy Refuses input e → IsUnprovedBy Other input e
unproved_by Refuses Other input then (Air error) h = h
unproved_by Refuses Other input then RaggedRows h = h
unproved_by Refuses Other input then HeightNotPowerOfTwo h = h
unproved_by Refuses Other input then HeightTooLarge h = h
unproved_by Refuses Other input then (Prover error) h = (h.0, then error h.1)
unproved_by Refuses Other input then Memory h = absurd h

-- what is refused from a new challenger
pub unproved-new : (input : Input) (old new : List ℕ) → old ≡ replicate 32 0 → (e : Refusal) →
    (e ≡ Memory) ⊎ IsUnprovedFrom input old new e → (e ≡ Memory) ⊎ IsUnproved input e
unproved-new input old new begun e refused =
    ⊎_elim (λ none. inl none)
    (λ u. inr (unproved_by (IsRefusedByProver input old new)
    (λ error. (left : List ℕ) × IsRefusedByProver input (replicate 32 0) left error) input
    (λ error r. (new, subst (λ (s : List ℕ). IsRefusedByProver input s new error) begun r)) e u))
    refused

module _ (input : Input) where
  -- the AIR's logarithm of the number of chunks is that of its parts
  pub chunks_of : (k : ℕ) (p : Parts Mersenne31) → p ≡ parts_given input →
      IsLogOfChunks (degree_of_parts p) k → IsLogOfChunks (degree_of_parts (parts_given input)) k
  chunks_of k p same log =
      subst (λ (q : Parts Mersenne31). IsLogOfChunks (degree_of_parts q) k) same log

  -- the number of rows
  pub height_is : (rows : List (Vec Mersenne31 Global)) (n : ℕ) → rows ≡ input.rows.items →
      n ≡ length rows → n ≡ length (rows_given input)
  height_is rows n same is = is ∙ ap length same ∙ sym (length-lists input.rows.items)

  -- rows that the prover sees
  pub fitting : (k n : ℕ) (p : Parts Mersenne31) (rows : List (Vec Mersenne31 Global)) →
      rows ≡ input.rows.items → p ≡ parts_given input → IsLogOfChunks (degree_of_parts p) k →
      HasAir input → AreFittingRows input.params.log_blowup k rows n → IsFitting input
  fitting k n p rows same is log air fits =
      let many : length (rows_given input) ≡ length rows =
      length-lists input.rows.items ∙ sym (ap length same) in (
        (
          (
            air,
            subst (λ (rs : List (Vec Mersenne31 Global)). IsRectangular (lists rs)) same
                fits.rectangular,
          ),
          (n, many ∙ fits.height),
        ),
        λ large. fits.small
            (subst (λ (m : ℕ). IsTooLarge m input.params.log_blowup k)
            (ap log_of many ∙ sym fits.log)
            (subst
            (λ (j : ℕ). IsTooLarge (log_of (length (rows_given input))) input.params.log_blowup j)
            (one_log _ large.0 k large.1 (chunks_of k p is log)) large.2)),
      )

  -- it is handed the input's statement
  pub stated : (parts : Parts Mersenne31) (height : ℕ) (public : List Mersenne31) →
      parts ≡ parts_given input → height ≡ length (rows_given input) →
      public ≡ input.public_values.items → stated_by parts height public ≡ statement_proved input
  stated parts height public same many given =
      same_statement parts (parts_given input) (log_of height) (log_of (length (rows_given input)))
      public input.public_values.items same (ap log_of many) given

-- and so does what the claim has of it
pub claimed : (claim : Claim) (parts : Parts Mersenne31) (height : ℕ) (public : List Mersenne31) →
    parts_of claim.air ≡ parts → claim.log_n ≡ log_of height →
    public ≡ claim.public_values.items → stated_by parts height public ≡ statement_given claim
claimed claim parts height public air log given =
    same_statement parts (parts_of claim.air) (log_of height) claim.log_n public
    claim.public_values.items (sym air) (sym log) given

module _ (input : Input) (claim : Claim) where
  -- the claim of what is proved of the input's rows
  pub proved : (s : Statement Mersenne31) (rows : List (List Mersenne31))
      (mmcs : ShaMmcs Mersenne31) (scheme : ShaMmcs Cubic)
      (params : FriParameters (ShaMmcs Cubic)) (old new : List ℕ) →
      s ≡ statement_proved input → s ≡ statement_given claim → rows ≡ rows_given input →
      claim.params ≡ input.params → claim.public_values ≡ input.public_values →
      length (rows_given input) ≡ 2 ^ claim.log_n →
      params ≡ with_scheme claim.params scheme → HasAir input →
      Satisfies operations s.parts rows s.public_values →
      Accepts claim mmcs params s old new → IsProvedFrom input claim old new
  proved s rows mmcs scheme params old new is claimed given same public height with air holds
      accepts =
      let parts : parts_of claim.air ≡ parts_given input =
      ap (λ (t : Statement Mersenne31). t.parts) (sym claimed ∙ is) in record {
        claims =
            record {
              air = parts;
              height = height;
              params = same;
              public = public;
              satisfies =
                  subst (λ (t : Statement Mersenne31). Satisfies operations t.parts
                  (rows_given input) t.public_values) is
                  (subst (λ (rs : List (List Mersenne31)). Satisfies operations s.parts rs
                  s.public_values) given holds);
            };
        verified =
            verified claim s mmcs scheme params old new claimed with
            (subst (λ (p : Parts Mersenne31). refusal p ≡ None) (sym parts) air) accepts;
      }

  -- so from a new challenger
  pub proved-new : (old new : List ℕ) → old ≡ replicate 32 0 → IsProvedFrom input claim old new →
      IsProved input claim
  proved-new old new begun is = record {
    claims = is.claims;
    verified = verified-new claim old new begun is.verified;
  }
