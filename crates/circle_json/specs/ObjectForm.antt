-- The form of a value as an object of its parts.
use Rattle.std.specs.Prelude.{◌≡◌, ℕ, List, Some}
use Rattle.std.proofs.Common.{◌∙◌, ap, subst, ⊎_elim, refl, arith}
use Rattle.circle_json.specs.declared.error.JsonError.{JsonError}
use Rattle.circle_json.specs.declared.error.JsonError.TheVariants.{Memory}
use Rattle.circle_json.specs.Form.{Form}
use Rattle.circle_json.specs.Objects.{Fields, none_left, field, keys_of, Lacks, RefusesKeys}
use Rattle.circle_json.specs.Objects.{ReadsFields, RefusesFields, SameFields, members_written}
use Rattle.circle_json.specs.Objects.{object_written, ReadsObject, RefusesObject}
use Rattle.serde_json.specs.Data.{Data, null, boolean, number, string, array, object, member}
use Rattle.serde_json.specs.Find.{get}

-- a key has one member
one_member : (key : List ℕ) (value d e : Data) → get key value ≡ Some d → get key value ≡ Some e →
    d ≡ e
one_member key value d e p q = cc

module _ {T : Type 0} where
  pub fields_read_one : (fields : Fields T) (value : Data) (x y : T) → ReadsFields fields value x →
      ReadsFields fields value y → SameFields fields x y
  fields_read_one none_left value x y p q = tt
  fields_read_one (field key part form others) value x y p q =
      let same : q.0.0 ≡ p.0.0 = one_member key value q.0.0 p.0.0 q.0.1 p.0.1 in
      let alike = subst (λ (d : Data). form.reads d (part y)) same q.0.2 in (
        form.reads_one p.0.0 (part x) (part y) p.0.2 alike,
        fields_read_one others value x y p.1 q.1,
      )

  pub members_alike : (fields : Fields T) (x y : T) → SameFields fields x y →
      members_written fields x ≡ members_written fields y
  members_alike none_left x y same = refl
  members_alike (field key part form others) x y same =
      ap (λ d. member key d (members_written others x)) (form.writes_same (part x) (part y) same.0)
      ∙ ap (λ ms. member key (form.written (part y)) ms) (members_alike others x y same.1)

  pub fields_refuse_others : (fields : Fields T) (value : Data) (x : T) (error : JsonError) →
      ReadsFields fields value x → RefusesFields fields value error → error ≡ Memory
  fields_refuse_others none_left value x error p r = absurd r
  fields_refuse_others (field key part form others) value x error p r = ⊎_elim
      (λ m. ⊎_elim (λ lacks. let e = p.0.1 in let n = lacks.0 in absurd (cc))
      (λ h. let same : p.0.0 ≡ h.0 = one_member key value p.0.0 h.0 p.0.1 h.1 in
      form.refuses_others h.0 (part x) error
      (subst (λ (d : Data). form.reads d (part x)) same p.0.2) h.2) m)
      (λ h. fields_refuse_others others value x error p.1 h) r

  fields_lack_none : (fields : Fields T) (value : Data) (x : T) → ReadsFields fields value x →
      Lacks (keys_of fields) value → ⊥
  fields_lack_none none_left value x p l = l
  fields_lack_none (field key part form others) value x p l =
      ⊎_elim (λ h. let e = p.0.1 in absurd (cc)) (λ h. fields_lack_none others value x p.1 h) l

  pub keys_refuse_none : (fields : Fields T) (value : Data) (x : T) (error : JsonError) →
      ReadsObject fields value x → RefusesKeys (keys_of fields) value error → error ≡ Memory
  keys_refuse_none fields null x error p r = absurd p.0
  keys_refuse_none fields (boolean _) x error p r = absurd p.0
  keys_refuse_none fields (number _) x error p r = absurd p.0
  keys_refuse_none fields (string _) x error p r = absurd p.0
  keys_refuse_none fields (array _) x error p r = absurd p.0
  keys_refuse_none fields (object ms) x error p r = ⊎_elim
      (λ h. absurd (fields_lack_none fields (object ms) x p.1 h.0))
      (λ h. let few = p.0 in let many = h.1 in absurd (omega arith)) r

  -- an object whose members have these keys, in ascending order, and stand for these parts
  abbrev pub object_form : Fields T → Form T
  object_form fields = record {
    same = SameFields fields;
    written = object_written fields;
    reads = ReadsObject fields;
    refuses = RefusesObject fields;
    reads_one = λ value x y p q. fields_read_one fields value x y p.1 q.1;
    writes_same = λ x y same. ap object (members_alike fields x y same);
    refuses_others = λ value x error p r. ⊎_elim (λ h. h)
        (λ h. ⊎_elim (λ k. keys_refuse_none fields value x error p k)
        (λ k. fields_refuse_others fields value x error p.1 k.1) h) r;
  }
