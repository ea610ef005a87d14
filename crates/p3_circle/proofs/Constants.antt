-- A final polynomial of one coefficient has one value.
use Rattle.std.specs.Prelude.{◌≡◌, ℕ, [], ◌∷◌, slice_index_or}
use Rattle.std.proofs.Common.{sym, ap, ◌∙◌}
use Rattle.circle_commit.specs.declared.params.FriParameters.{FriParameters}
use Rattle.circle_field.specs.Field.{FieldOps, RingLaws}
use Rattle.circle_point.specs.Basis.{x_value}
use Rattle.circle_relation.specs.Accepts.{Fields, Run, Authenticates, final_value, last_x}
use Rattle.circle_relation.specs.Accepts.{placed_queries}
use Rattle.p3_circle.specs.Constant.{IsSameOfConstants}

one_value : {E : Type 0} (l : FieldOps E) → RingLaws l → (c x : E) → x_value l (c ∷ []) x ≡ c
one_value l laws c x = laws.add_comm (l.mul c l.one) l.zero ∙ laws.zero_add (l.mul c l.one)
    ∙ laws.mul_comm c l.one ∙ laws.one_mul c

module _ {F E M Com InputCom InputProof WordProof : Type 0} (fields : Fields F E)
    (params : FriParameters M) (r : Run F E Com InputCom InputProof WordProof)
    (inputs : Authenticates InputCom F InputProof) (words : Authenticates Com E WordProof)
    (laws : RingLaws fields.extension) where
  ends : (c : E) → r.proof.final_poly ≡ c ∷ [] → (j q : ℕ) → final_value fields params r j q ≡ c
  ends c is j q = ap (λ cs. x_value fields.extension cs (fields.embed (last_x fields params r j q)))
      is ∙ one_value fields.extension laws c (fields.embed (last_x fields params r j q))

  pub same_of_constants : IsSameOfConstants fields params r inputs words
  same_of_constants = record {
    to = λ c is h. record {
      inputs_authenticate = h.inputs_authenticate;
      apart = h.apart;
      first_layer = h.first_layer;
      rounds_authenticate = h.rounds_authenticate;
      chains = λ i d lt. let p = slice_index_or (placed_queries fields params r) i d in
          h.chains i d lt ∙ ends c is p.0 p.1;
    };
    from = λ c is h. record {
      inputs_authenticate = h.inputs_authenticate;
      apart = h.apart;
      first_layer = h.first_layer;
      rounds_authenticate = h.rounds_authenticate;
      chains = λ i d lt. let p = slice_index_or (placed_queries fields params r) i d in
          h.chains i d lt ∙ sym (ends c is p.0 p.1);
    };
  }
