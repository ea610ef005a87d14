-- Standard domains of different sizes have no point in common.
use Rattle.std.specs.Prelude.{◌≡◌, ◌≢◌, ℕ, ◌+◌, ◌^◌, ◌<◌, ◌≤◌, slice_index_or}
use Rattle.std.proofs.Common.{zero, suc, sym, ◌∙◌, ap, arith, ⊎_elim}
use Rattle.std.proofs.lemmas.Bool.{cases_lt}
use Rattle.std.proofs.lemmas.Option.{slice_get-get_or}
use Rattle.circle_field.specs.Field.{FieldOps, FieldLaws}
use Rattle.circle_field.specs.Circle.{Coordinates, IsOnCircle, AreGenerators, plus, times}
use Rattle.circle_field.specs.CircleGroup.{plus-on_circle}
use Rattle.circle_point.specs.Projective.{half_turn}
use Rattle.circle_point.proofs.Multiples.{times-one}
use Rattle.circle_domain.specs.Order.{natural_order}
use Rattle.circle_domain.specs.Selectors.{AreDisjoint}
use Rattle.circle_domain.proofs.Blocks.{times-pow-suc}
use Rattle.circle_domain.proofs.Walking.{finite_by_doublings, standard-half_turn}
use Rattle.circle_domain.proofs.Walking.{standard-on_circle}

module _ {F : Type 0} {k : FieldOps F} (laws : FieldLaws k) where
  -- the doublings of a point come to the half turn once
  once : (a b : ℕ) (p : Coordinates F) → a < b → IsOnCircle k p → times k (2 ^ a) p ≡ half_turn k →
      times k (2 ^ b) p ≡ half_turn k → ⊥
  once zero b p h c ea eb =
      finite_by_doublings laws b p h c eb
      (ap (λ (r : Coordinates F). r.x) (sym (times-one laws.ring p) ∙ ea))
  once (suc a) zero p h c ea eb = absurd (omega arith)
  once (suc a) (suc b) p h c ea eb =
      once a b (plus k p p) (omega arith) (plus-on_circle laws.ring p p c c)
      (sym (times-pow-suc laws.ring a p) ∙ ea) (sym (times-pow-suc laws.ring b p) ∙ eb)

  pub standards-disjoint : {gen : ℕ → Coordinates F} {bits : ℕ} (gens : AreGenerators k bits gen)
      (a b : ℕ) → a ≢ b → 1 ≤ a → a < bits → 1 ≤ b → b < bits →
      AreDisjoint (natural_order k gen a (gen (a + 1))) (natural_order k gen b (gen (b + 1)))
  standards-disjoint {gen} gens a b different pa fa pb fb = λ i d hi j d' hj e.
      let first = natural_order k gen a (gen (a + 1)) in
      let second = natural_order k gen b (gen (b + 1)) in
      let p = slice_index_or first i d in
      let there = slice_get-get_or first i d hi in
      let here : times k (2 ^ a) p ≡ half_turn k =
      standard-half_turn laws.ring gens a pa fa i p there in
      let also : times k (2 ^ b) p ≡ half_turn k = ap (times k (2 ^ b)) e
      ∙ standard-half_turn laws.ring gens b pb fb j (slice_index_or second j d')
      (slice_get-get_or second j d' hj) in
      let c = standard-on_circle laws.ring gens a pa fa i p there in
      ⊎_elim (λ lt. once a b p lt c here also)
      (λ le. once b a p (let lt : b < a = omega (arith, le, different) in lt) c also here)
      (cases_lt a b)
