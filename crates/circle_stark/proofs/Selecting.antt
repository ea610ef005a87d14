-- The selectors of the standard domain of a trace.
use Rattle.std.specs.Prelude.{◌≡◌, ℕ, ◌+◌}
use Rattle.std.proofs.Common.{◌∙◌, ap}
use Rattle.circle_field.specs.Field.{FieldOps}
use Rattle.circle_field.specs.Circle.{Coordinates, lifted}
use Rattle.circle_commit.specs.declared.space.LagrangeSelectors.{LagrangeSelectors}
use Rattle.circle_domain.specs.Selectors.{first_row, last_row, transition}
use Rattle.circle_quotient.specs.Composition.{Selectors}
use Rattle.circle_quotient.specs.Records.{selectors_of}
use Rattle.circle_quotient.specs.Window.{selectors_at}

abbrev selectors : {E : Type 0} → E → E → E → Selectors E
selectors first last transition = record {
  first = first;
  last = last;
  transition = transition;
}

module _ {F E : Type 0} (k : FieldOps F) (gen : ℕ → Coordinates F) (l : FieldOps E) (m : F → E)
    (n size : ℕ) (shift : Coordinates F) (same : size ≡ n) (there : shift ≡ gen (n + 1))
    (q : Coordinates E) where
  -- what is said of a domain is so of its size and its shift
  moved : (f : ℕ → Coordinates E → Coordinates E → E) →
      f size (lifted m shift) q ≡ f n (lifted m (gen (n + 1))) q
  moved f = ap (λ i. f i (lifted m shift) q) same ∙ ap (λ s. f n (lifted m s) q) there

  pub same-selectors : (s : LagrangeSelectors E) →
      s.is_first_row ≡ first_row l size (lifted m shift) q →
      s.is_last_row ≡ last_row l size (lifted m shift) q →
      s.is_transition ≡ transition l size (lifted m shift) q →
      selectors_of s ≡ selectors_at k gen l m n q
  same-selectors s first last other =
      ap (λ x. selectors x s.is_last_row s.is_transition) (first ∙ moved (first_row l))
      ∙ ap (λ x. selectors (first_row l n (lifted m (gen (n + 1))) q) x s.is_transition)
      (last ∙ moved (last_row l))
      ∙ ap
      (selectors (first_row l n (lifted m (gen (n + 1))) q)
      (last_row l n (lifted m (gen (n + 1))) q)) (other ∙ moved (transition l))
