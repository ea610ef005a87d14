-- Calls of a builder keep the numbers of columns and of public values.
use Rattle.std.proofs.Common.{◌≡◌, ℕ, ◌<◌, ◌≤◌, ◌⊎◌, ⊎_elim, Bool, true, false, inl, inr, refl, ap}
use Rattle.std.proofs.Common.{arith, ◌∙◌, Result, Ok, Err, List}
use Rattle.std.proofs.lemmas.Bool.{cases_lt}
use Rattle.circle_air.specs.Builder.{IsAppended, IsAppendedPeriodic, IsChanged, IsRefusedAs}
use Rattle.circle_air.specs.Builder.{with_constraint, with_node}
use Rattle.circle_air.specs.Parts.{Parts}
use Rattle.circle_air.specs.declared.builder.Expr.{Expr}
use Rattle.circle_air.specs.declared.error.AirError.{AirError}
use Rattle.circle_air.specs.declared.node.Constraint.{Constraint}
use Rattle.circle_air.specs.declared.node.Node.{Node}
use Rattle.circle_airs.specs.Shape.{KeepsShape}

module _ {F : Type 0} where
  equal_keeps : (old new due : Parts F) → new ≡ due → KeepsShape old due → KeepsShape old new
  equal_keeps old new due e keeps = record {
    width = ap (λ p. p.width) e ∙ keeps.width;
    public = ap (λ p. p.num_public_values) e ∙ keeps.public;
  }

  itself_keeps : (old : Parts F) → KeepsShape old old
  itself_keeps old = record { width = refl; public = refl }

  pub keeps_more : (old middle new : Parts F) → KeepsShape old middle → KeepsShape middle new →
      KeepsShape old new
  keeps_more old middle new first second = record {
    width = second.width ∙ first.width;
    public = second.public ∙ first.public;
  }

  refused_keeps : {T : Type 0} (error : AirError) (old new : Parts F) (r : Result T AirError) →
      IsRefusedAs error old new r → KeepsShape old new
  refused_keeps error old new r refused = equal_keeps old new old refused.1 (itself_keeps old)

  pub node_keeps : (old new : Parts F) (node : Node F) (r : Result Expr AirError) →
      IsAppended old node new r → KeepsShape old new
  node_keeps old new node (Ok e) h =
      equal_keeps old new (with_node old node) h.0 (record { width = refl; public = refl })
  node_keeps old new node (Err e) h = equal_keeps old new old h.0 (itself_keeps old)

  -- a node that reads one of so many
  pub read_keeps : (old new : Parts F) (node : Node F) (error : AirError) (limit at : ℕ)
      (r : Result Expr AirError) → (limit ≤ at → IsRefusedAs error old new r) →
      (at < limit → IsAppended old node new r) → KeepsShape old new
  read_keeps old new node error limit at r refused appended =
      ⊎_elim (λ below. node_keeps old new node r (appended below))
      (λ past. refused_keeps error old new r (refused past)) (cases_lt at limit)

  periodic_appended : (old new : Parts F) (column : List F) (r : Result Expr AirError) →
      IsAppendedPeriodic old column new r → KeepsShape old new
  periodic_appended old new column (Ok e) h =
      equal_keeps old new _ h.0 (record { width = refl; public = refl })
  periodic_appended old new column (Err e) h = equal_keeps old new old h.0 (itself_keeps old)

  -- a periodic column
  pub periodic_keeps : (old new : Parts F) (column : List F) (error : AirError) (test : Bool)
      (r : Result Expr AirError) → (test ≡ false → IsRefusedAs error old new r) →
      (test ≡ true → IsAppendedPeriodic old column new r) → KeepsShape old new
  periodic_keeps old new column error true r refused appended =
      periodic_appended old new column r (appended refl)
  periodic_keeps old new column error false r refused appended =
      refused_keeps error old new r (refused refl)

  -- what takes two nodes of so many
  two_keep : (old new : Parts F) (count left right : ℕ) →
      ((count ≤ left) ⊎ (count ≤ right) → KeepsShape old new) →
      (left < count → right < count → KeepsShape old new) → KeepsShape old new
  two_keep old new count left right refused appended =
      ⊎_elim (λ lt. ⊎_elim (λ rt. appended lt rt) (λ past. refused (inr past))
      (cases_lt right count)) (λ past. refused (inl past)) (cases_lt left count)

  -- a node of two
  pub pair_keeps : (old new : Parts F) (node : Node F) (error : AirError) (count left right : ℕ)
      (r : Result Expr AirError) →
      ((count ≤ left) ⊎ (count ≤ right) → IsRefusedAs error old new r) →
      (left < count → right < count → IsAppended old node new r) → KeepsShape old new
  pair_keeps old new node error count left right r refused appended =
      two_keep old new count left right (λ h. refused_keeps error old new r (refused h))
      (λ lt rt. node_keeps old new node r (appended lt rt))

  changed_keeps : (old due new : Parts F) (r : Result Unit AirError) → KeepsShape old due →
      IsChanged old due new r → KeepsShape old new
  changed_keeps old due new (Ok _) keeps h = equal_keeps old new due h keeps
  changed_keeps old due new (Err e) keeps h = equal_keeps old new old h.0 (itself_keeps old)

  -- two nodes that are required to be equal
  pub assert_keeps : (old new : Parts F) (node : Node F) (constraint : Constraint)
      (error : AirError) (count left right : ℕ) (r : Result Unit AirError) →
      ((count ≤ left) ⊎ (count ≤ right) → IsRefusedAs error old new r) →
      (left < count → right < count →
      IsChanged old (with_constraint (with_node old node) constraint) new r) → KeepsShape old new
  assert_keeps old new node constraint error count left right r refused appended =
      two_keep old new count left right (λ h. refused_keeps error old new r (refused h))
      (λ lt rt. changed_keeps old _ new r (record { width = refl; public = refl })
      (appended lt rt))
