-- Values of nodes under an embedding of fields.
use Rattle.std.proofs.Common.{◌≡◌, ℕ, zero, suc, List, [], ◌∷◌, ◌++◌, map, refl, ◌∙◌, ap}
use Rattle.std.specs.Prelude.{fold}
use Rattle.std.proofs.lemmas.List.{map_push}
use Rattle.circle_field.specs.Field.{FieldOps, IsEmbedding, sub}
use Rattle.circle_air.specs.declared.node.Node.{Node}
use Rattle.circle_air.specs.declared.node.Node.TheVariants.{Local, Next, Periodic, Public}
use Rattle.circle_air.specs.declared.node.Node.TheVariants.{Constant, Add, Sub, Mul, Neg}
use Rattle.circle_air.specs.Values.{Window, embedded, entry, value, values}

module _ {F E : Type 0} (k : FieldOps F) (l : FieldOps E) (embed : F → E)
    (keeps : IsEmbedding k l embed) where
  entry_embedded : (xs : List F) (i : ℕ) → embed (entry k xs i) ≡ entry l (map embed xs) i
  entry_embedded [] i = keeps.zero
  entry_embedded (x ∷ xs) zero = refl
  entry_embedded (x ∷ xs) (suc i) = entry_embedded xs i

  both : (op : E → E → E) (xs : List F) (a b : ℕ)
      → op (embed (entry k xs a)) (embed (entry k xs b))
      ≡ op (entry l (map embed xs) a) (entry l (map embed xs) b)
  both op xs a b =
      ap (λ v. op v (embed (entry k xs b))) (entry_embedded xs a)
      ∙ ap (op (entry l (map embed xs) a)) (entry_embedded xs b)

  value_embedded : (w : Window F) (earlier : List F) (node : Node F)
      → embed (value k (λ x. x) w earlier node)
      ≡ value l embed (embedded embed w) (map embed earlier) node
  value_embedded w earlier (Local c) = entry_embedded w.local c
  value_embedded w earlier (Next c) = entry_embedded w.next c
  value_embedded w earlier (Periodic i) = entry_embedded w.periodic i
  value_embedded w earlier (Public i) = entry_embedded w.public i
  value_embedded w earlier (Constant x) = refl
  value_embedded w earlier (Add a b) =
      keeps.add (entry k earlier a) (entry k earlier b) ∙ both l.add earlier a b
  value_embedded w earlier (Sub a b) =
      keeps.add (entry k earlier a) (k.neg (entry k earlier b))
      ∙ ap (l.add (embed (entry k earlier a))) (keeps.neg (entry k earlier b))
      ∙ both (sub l) earlier a b
  value_embedded w earlier (Mul a b) =
      keeps.mul (entry k earlier a) (entry k earlier b) ∙ both l.mul earlier a b
  value_embedded w earlier (Neg a) =
      keeps.neg (entry k earlier a) ∙ ap l.neg (entry_embedded earlier a)

  from_embedded : (w : Window F) (earlier : List F) (nodes : List (Node F))
      → map embed (fold (λ vs node. vs ++ value k (λ x. x) w vs node ∷ []) earlier nodes)
      ≡ fold (λ vs node. vs ++ value l embed (embedded embed w) vs node ∷ []) (map embed earlier)
      nodes
  from_embedded w earlier [] = refl
  from_embedded w earlier (node ∷ nodes) =
      let v = value k (λ x. x) w earlier node in
      let rest : List E → List E =
      λ vs. fold (λ vs node. vs ++ value l embed (embedded embed w) vs node ∷ []) vs nodes in
      from_embedded w (earlier ++ v ∷ []) nodes ∙ ap rest (map_push embed earlier v)
      ∙ ap (λ u. rest (map embed earlier ++ u ∷ [])) (value_embedded w earlier node)

  -- the embedded values are the values over the embedded window
  pub values_embedded : (nodes : List (Node F)) (w : Window F)
      → map embed (values k (λ x. x) nodes w) ≡ values l embed nodes (embedded embed w)
  values_embedded nodes w = from_embedded w [] nodes
