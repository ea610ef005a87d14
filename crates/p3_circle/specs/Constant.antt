-- Where folding goes on to a constant: the shape of a run and its seed, and the relation, by which
-- each query's chain ends in one value.
use Rattle.std.specs.Prelude.{◌≡◌, ℕ, ◌+◌, ◌-◌, ◌++◌, List, [], ◌∷◌, All, Vec, codes}
use Rattle.std.specs.declared.alloc.Global.{Global}
use Rattle.circle_challenger.specs.Separator.{Separator, seed_text, separator}
use Rattle.circle_challenger.specs.Step.{Step, be64, step}
use Rattle.circle_challenger.specs.declared.interaction.Hierarchy.TheVariants.{Atomic}
use Rattle.circle_challenger.specs.declared.interaction.Kind.TheVariants.{Message}
use Rattle.circle_challenger.specs.declared.interaction.Length.TheVariants.{Scalar}
use Rattle.circle_challenger.specs.declared.interaction.ValueType.TheVariants.{Algebra}
use Rattle.circle_commit.specs.declared.params.FriParameters.{FriParameters}
use Rattle.circle_field.specs.Field.{FieldOps}
use Rattle.circle_relation.specs.Accepts.{Fields, Run, Authenticates, AreApart, HoldsWith}
use Rattle.circle_relation.specs.Accepts.{InputsAuthenticate, FirstLayerAuthenticates}
use Rattle.circle_relation.specs.Accepts.{RoundsAuthenticate, round_value, rounds, placed_queries}
use Rattle.circle_relation.specs.RunOf.{run_with}
use Rattle.circle_relation.specs.Statement.{Challenges}
use Rattle.circle_relation.specs.declared.proof.CirclePcsProof.{CirclePcsProof}
use Rattle.circle_commit.specs.declared.pcs.CommitmentOpening.{CommitmentOpening}
use Rattle.circle_domain.specs.declared.domain.CircleDomain.{CircleDomain}
use Rattle.circle_transcript.specs.Shape.{Shape, batch_steps, claimed_widths, first_layer_steps}
use Rattle.circle_transcript.specs.Shape.{guarded_numbers_steps, layout, rounds_steps, text_of}
use Rattle.circle_transcript.specs.ShapeOf.{shape_for, shape_of}
use Rattle.circle_transcript.specs.declared.shape.CirclePcsShape.{CirclePcsShape}

-- the shape of a run that folds on to a constant, with these parameters over claims of these
-- numbers of columns, from the logarithm of the greatest height and the number of further bits of
-- an index
abbrev pub constant_shape_for : {M : Type 0} → FriParameters M
    → Vec (Vec (Vec ℕ Global) Global) Global → ℕ → ℕ → CirclePcsShape
constant_shape_for params opened_widths log_max_height extra_query_index_bits = record {
  opened_widths = opened_widths;
  num_commit_rounds = log_max_height - 1 - params.log_blowup;
  batch_pow_bits = params.batch_proof_of_work_bits;
  commit_pow_bits = params.commit_proof_of_work_bits;
  query_pow_bits = params.query_proof_of_work_bits;
  num_queries = params.num_queries;
  index_bits = log_max_height - 1 + extra_query_index_bits;
  log_blowup = params.log_blowup;
  log_final_poly_len = 0;
}

-- its steps: the final polynomial is a single element
abbrev pub constant_steps : ℕ → Shape → List Step
constant_steps degree s =
    batch_steps degree (claimed_widths s) s.batch_pow_bits
    ++ (first_layer_steps degree
    ++ (rounds_steps degree s.commit_pow_bits s.num_commit_rounds
    ++ step Atomic Message (Algebra degree) (codes "final_poly") Scalar
    ∷ guarded_numbers_steps (codes "query_pow") s.query_pow_bits (codes "query_indices")
    s.index_bits s.num_queries))

-- what it is seeded with, of version 1, with two labels: the logarithm of the blowup, and how the
-- claims are grouped
abbrev pub constant_separator : ℕ → Shape → Separator
constant_separator degree s =
    separator 1 (codes "p3-circle-pcs") (constant_steps degree s)
    (be64 s.log_blowup ∷ layout s.opened_widths ∷ [])

-- a shape whose final polynomial is a constant has this seed's text
abbrev pub HasConstantText : ℕ → CirclePcsShape → Type 0
HasConstantText degree shape =
    shape.log_final_poly_len ≡ 0
    → text_of degree (shape_of shape) ≡ seed_text (constant_separator degree (shape_of shape))

-- parameters whose final polynomial is a constant have this shape
abbrev pub HaveConstantShape : {M : Type 0} → FriParameters M → Type 0
HaveConstantShape params =
    params.log_final_poly_len ≡ 0
    → (widths : Vec (Vec (Vec ℕ Global) Global) Global) (height extra : ℕ)
    → shape_for params widths height extra ≡ constant_shape_for params widths height extra

module _ {F E M Com InputCom InputProof WordProof : Type 0} (k : Fields F E)
    (params : FriParameters M) (r : Run F E Com InputCom InputProof WordProof)
    (inputs : Authenticates InputCom F InputProof) (words : Authenticates Com E WordProof) where
  pub record HoldsWithConstant (constant : E) : Type 0 where
    pub inputs_authenticate : InputsAuthenticate k params r inputs
    pub apart : AreApart k params r
    pub first_layer : FirstLayerAuthenticates k params r words
    pub rounds_authenticate : RoundsAuthenticate k params r words
    pub chains : All (λ p. round_value k params r p.0 p.1 (rounds k params r) ≡ constant)
        (placed_queries k params r)

  -- where the final polynomial is a constant, both relations are the same
  pub record IsSameOfConstants : Type 0 where
    pub to : (c : E) → r.proof.final_poly ≡ c ∷ [] → HoldsWith k params r inputs words
        → HoldsWithConstant c
    pub from : (c : E) → r.proof.final_poly ≡ c ∷ [] → HoldsWithConstant c
        → HoldsWith k params r inputs words

-- likewise for claims and a proof, under any challenges and whatever field l extends; I and W are
-- the schemes of the batches and of the codewords, each with its commitments, data, proofs and
-- errors
abbrev pub AreSameOfConstants : {F E I W IC ID IP IE WC WD WP WE : Type 0} {g : _} → FieldOps E
    → FriParameters W → List (CommitmentOpening E IC (CircleDomain F g))
    → CirclePcsProof F E I W F IC ID IP IE WC WD WP WE → Authenticates IC F IP
    → Authenticates WC E WP → Type 0
AreSameOfConstants {F = F} {E = E} l params claims proof inputs words =
    (k : Fields F E) (drawn : Challenges E) → k.extension ≡ l
    → IsSameOfConstants k params (run_with claims proof drawn) inputs words
