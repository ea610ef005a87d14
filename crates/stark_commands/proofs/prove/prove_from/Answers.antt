use Rattle.std.proofs.Common.{◌∙◌, ap, inr, refl, subst, sym, List, Vec, Global}
use Rattle.circle_air.specs.Air.{air_of}
use Rattle.circle_air.specs.Parts.{parts_of}
use Rattle.circle_air.specs.Refusal.{refusal}
use Rattle.circle_challenger.specs.Sha256Challenger.{state_of}
use Rattle.circle_codewords.specs.Requests.{log_of}
use Rattle.circle_commands.specs.Rows.{lists, IsRectangular}
use Rattle.circle_commit.specs.RowMajorMatrix.{height_of, rows as rows_of}
use Rattle.circle_field.specs.declared.mersenne31.Mersenne31.{Mersenne31}
use Rattle.stark_commands.proofs.Proved.{chunks_of, claimed, fitting, height_is, proved}
use Rattle.stark_commands.proofs.Proved.{rows_refused, stated, stated_by, trace_refused}
use Rattle.stark_commands.proofs.Refused.{air_refused, refused_by}
use Rattle.stark_commands.specs.Proved.{IsRefusalOfRows, IsUnprovedBy}
use Rattle.stark_commands.specs.declared.prove.Refusal.TheVariants.{Air, Memory}
use Rattle.stark_commands.specs.declared.verify.Input.{Input as Claim}
use Rattle.stark_commands.proofs.prove.prove_from.Goals as goal

pub matrix-requires-clause-rectangular : goal.matrix-requires-clause-rectangular
matrix-requires-clause-rectangular c =
    subst (λ (rs : List (Vec Mersenne31 Global)). IsRectangular (lists rs))
    (c.deref.ensures.value ∙ sym c.deref-2.ensures.value) c.in_ok-log_n.ensures.rectangular

pub returns-in_err-air-clause-refused : goal.returns-in_err-air-clause-refused
returns-in_err-air-clause-refused c =
    refused_by _ _ c.from_residual.result c.from_residual.ensures.1
    (λ reason is. air_refused Air Memory (refusal (parts_of c.args.input.air))
    c.in_err-air.field-0.0 reason c.in_err-air.ensures.refuses is (IsUnprovedBy _ c.args.input)
    (λ some. some))

pub returns-in_err-log_n-clause-refused : goal.returns-in_err-log_n-clause-refused
returns-in_err-log_n-clause-refused c =
    refused_by _ _ c.from_residual-in_err-log_n.result c.from_residual-in_err-log_n.ensures.1
    (λ reason is. inr (rows_refused _ c.args.input c.log_num_quotient_chunks.result
    c.deref.result.now reason c.deref.ensures.value
    (chunks_of c.args.input c.log_num_quotient_chunks.result (air_of c.in_ok-air.air)
    c.in_ok-air.ensures.same c.log_num_quotient_chunks.ensures)
    c.in_ok-air.ensures.accepts
    (subst (IsRefusalOfRows c.args.input.params.log_blowup c.log_num_quotient_chunks.result
    c.deref.result.now) (sym is) c.in_err-log_n.ensures)))

pub returns-in_err-proof-clause-refused : goal.returns-in_err-proof-clause-refused
returns-in_err-proof-clause-refused c =
    let i = c.args.input in
    refused_by _ _ c.from_residual-in_err-proof.result c.from_residual-in_err-proof.ensures.1
    (λ reason is. trace_refused _ i c.in_err-proof.field-0.0 reason is
    (fitting i c.log_num_quotient_chunks.result c.in_ok-log_n.log_n (air_of c.in_ok-air.air)
    c.deref.result.now c.deref.ensures.value c.in_ok-air.ensures.same
    c.log_num_quotient_chunks.ensures c.in_ok-air.ensures.accepts c.in_ok-log_n.ensures)
    (λ reported. record {
      scheme = c.new-scheme.result;
      trace =
          record {
            air = record { ref_ptr = (0, 0); now = c.in_ok-air.air };
            rows = c.in_ok-matrix.field-0;
            public_values = c.deref-3.result;
          };
      start = c.args.challenger.now;
      left = c.prove.new.challenger;
      params = c.new-scheme.ensures.params ∙ c.with_mmcs.ensures;
      stated =
          stated i (air_of c.in_ok-air.air) (height_of c.in_ok-matrix.field-0)
          c.deref-3.result.now c.in_ok-air.ensures.same
          (height_is i c.deref-2.result.now _ c.deref-2.ensures.value
          c.in_ok-matrix.ensures.height) c.deref-3.ensures.value;
      rows =
          c.in_ok-matrix.ensures.content
          ∙ ap (λ (rs : List (Vec Mersenne31 Global)). lists rs) c.deref-2.ensures.value;
      begun = refl;
      ended = refl;
      reported = reported;
      refuses = c.in_err-proof.ensures.reason;
    }))

pub returns-in_err-proof-clause-kept : goal.returns-in_err-proof-clause-kept
returns-in_err-proof-clause-kept c =
    refused_by _ _ c.from_residual-in_err-proof.result c.from_residual-in_err-proof.ensures.1
    (λ reason is unfit. absurd (unfit
    (fitting c.args.input c.log_num_quotient_chunks.result c.in_ok-log_n.log_n
    (air_of c.in_ok-air.air) c.deref.result.now c.deref.ensures.value c.in_ok-air.ensures.same
    c.log_num_quotient_chunks.ensures c.in_ok-air.ensures.accepts c.in_ok-log_n.ensures)))

pub returns-in_err-parts-clause-kept : goal.returns-in_err-parts-clause-kept
returns-in_err-parts-clause-kept c =
    refused_by _ _ c.from_residual-in_err-parts.result c.from_residual-in_err-parts.ensures.1
    (λ reason is unfit. absurd (unfit
    (fitting c.args.input c.log_num_quotient_chunks.result c.in_ok-log_n.log_n
    (air_of c.in_ok-air.air) c.deref.result.now c.deref.ensures.value c.in_ok-air.ensures.same
    c.log_num_quotient_chunks.ensures c.in_ok-air.ensures.accepts c.in_ok-log_n.ensures)))

pub returns-clause-proved : goal.returns-clause-proved
returns-clause-proved c =
    let i = c.args.input in
    let claim : Claim = record {
      air = c.in_ok-parts.field-0;
      log_n = c.in_ok-log_n.log_n;
      params = i.params;
      proof = c.in_ok-proof.proof;
      public_values = i.public_values;
    } in
    let many = height_is i c.deref-2.result.now _ c.deref-2.ensures.value
    c.in_ok-matrix.ensures.height in
    proved i claim (stated_by (air_of c.in_ok-air.air) (height_of c.in_ok-matrix.field-0)
    c.deref-3.result.now) (rows_of c.in_ok-matrix.field-0) c.new-scheme.result.mmcs
    c.new-scheme.result.fri_params.mmcs c.new-scheme.result.fri_params
    (state_of c.args.challenger.now) (state_of c.prove.new.challenger)
    (stated i (air_of c.in_ok-air.air) (height_of c.in_ok-matrix.field-0) c.deref-3.result.now
    c.in_ok-air.ensures.same many c.deref-3.ensures.value)
    (claimed claim (air_of c.in_ok-air.air) (height_of c.in_ok-matrix.field-0) c.deref-3.result.now
    c.in_ok-parts.ensures
    (c.in_ok-log_n.ensures.log
    ∙ ap log_of
    (height_is i c.deref.result.now _ c.deref.ensures.value refl ∙ sym many))
    c.deref-3.ensures.value)
    (c.in_ok-matrix.ensures.content
    ∙ ap (λ (rs : List (Vec Mersenne31 Global)). lists rs) c.deref-2.ensures.value) refl refl
    (sym (height_is i c.deref.result.now _ c.deref.ensures.value refl)
    ∙ c.in_ok-log_n.ensures.height)
    (c.new-scheme.ensures.params ∙ c.with_mmcs.ensures) c.in_ok-air.ensures.accepts
    c.in_ok-proof.ensures.satisfied c.in_ok-proof.ensures.accepted
