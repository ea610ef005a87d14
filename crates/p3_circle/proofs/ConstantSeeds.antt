-- Where the final polynomial is a constant, the shape and the seed name none.
use Rattle.std.specs.Prelude.{◌≡◌, ℕ, ◌+◌, ◌-◌, ◌==◌, if◌then◌else◌, [], ◌∷◌, ◌++◌, codes}
use Rattle.std.proofs.Common.{◌∙◌, ap, arith}
use Rattle.circle_challenger.specs.Separator.{Separator, seed_text, separator}
use Rattle.circle_challenger.specs.Step.{be64}
use Rattle.circle_commit.specs.declared.params.FriParameters.{FriParameters}
use Rattle.circle_transcript.specs.Shape.{batch_steps, claimed_widths, first_layer_steps, layout}
use Rattle.circle_transcript.specs.Shape.{query_steps, rounds_steps}
use Rattle.circle_transcript.specs.ShapeOf.{shape_of}
use Rattle.circle_transcript.specs.declared.shape.CirclePcsShape.{CirclePcsShape}
use Rattle.p3_circle.specs.Constant.{HasConstantText, HaveConstantShape}

pub constant-shape : {M : Type 0} (params : FriParameters M) → HaveConstantShape params
constant-shape params is widths height extra =
    let with : ℕ → ℕ → CirclePcsShape = λ rounds f. record {
      opened_widths = widths;
      num_commit_rounds = rounds;
      batch_pow_bits = params.batch_proof_of_work_bits;
      commit_pow_bits = params.commit_proof_of_work_bits;
      query_pow_bits = params.query_proof_of_work_bits;
      num_queries = params.num_queries;
      index_bits = height - 1 + extra;
      log_blowup = params.log_blowup;
      log_final_poly_len = f;
    } in
    let most = height - 1 - params.log_blowup in
    let whole : most - 0 ≡ most = omega arith in
    ap (λ f. with (most - f) f) is ∙ ap (λ rounds. with rounds 0) whole

pub constant-text : (degree : ℕ) (shape : CirclePcsShape) → HasConstantText degree shape
unfolding query_steps
constant-text degree shape is =
    let s = shape_of shape in
    let made : ℕ → Separator = λ f.
    separator (if f == 0 then 1 else 2) (codes "p3-circle-pcs")
    (batch_steps degree (claimed_widths s) s.batch_pow_bits
    ++
    (first_layer_steps degree
    ++ (rounds_steps degree s.commit_pow_bits s.num_commit_rounds
    ++ query_steps degree f s.query_pow_bits s.index_bits s.num_queries)))
    (be64 s.log_blowup ∷ layout s.opened_widths ∷ (if f == 0 then [] else be64 f ∷ [])) in
    ap (λ f. seed_text (made f)) is
