-- What is made of each node in turn, one node on.
use Rattle.std.proofs.Common.{◌≡◌, ℕ, ◌+◌, ◌<◌, List, [], ◌∷◌, ◌++◌, length, get_or, take, drop}
use Rattle.std.proofs.Common.{sym, ◌∙◌, ap}
use Rattle.std.specs.Prelude.{None}
use Rattle.std.specs.Option.{option_or}
use Rattle.std.proofs.lemmas.List.{drop_more}
use Rattle.std.proofs.lemmas.List.Sums.{fold_more}
use Rattle.circle_air.specs.declared.node.Node.{Node}
use Rattle.circle_air.specs.Degrees.{degree, degrees}
use Rattle.circle_air.specs.Parts.{Parts}
use Rattle.circle_air.specs.Refusal.{node_refusal, nodes_refusal}
use Rattle.circle_air.specs.Values.{Window, value, values}
use Rattle.circle_field.specs.Field.{FieldOps}

module _ {F : Type 0} where
  -- a node that isn't refused leaves the refusal to those after it
  pub refusal_more : (p : Parts F) (earlier : List ℕ) (nodes : List (Node F)) (i : ℕ)
      (node : Node F)
      → i < length nodes → node ≡ get_or nodes i node → node_refusal p earlier node ≡ None
      → nodes_refusal p earlier (drop i nodes)
      ≡ nodes_refusal p (earlier ++ degree earlier node ∷ []) (drop (i + 1) nodes)
  refusal_more p earlier nodes i node below is none =
      ap (nodes_refusal p earlier) (drop_more nodes i node below)
      ∙ ap (λ n. nodes_refusal p earlier (n ∷ drop (i + 1) nodes)) (sym is)
      ∙ ap
      (λ r. option_or r
      (nodes_refusal p (earlier ++ degree earlier node ∷ []) (drop (i + 1) nodes))) none

  -- the refusal of the first node that is refused
  pub refusal_here : (p : Parts F) (earlier : List ℕ) (nodes : List (Node F)) (i : ℕ)
      (node : Node F)
      → i < length nodes → node ≡ get_or nodes i node
      → nodes_refusal p earlier (drop i nodes) ≡ option_or (node_refusal p earlier node)
      (nodes_refusal p (earlier ++ degree earlier node ∷ []) (drop (i + 1) nodes))
  refusal_here p earlier nodes i node below is =
      ap (nodes_refusal p earlier) (drop_more nodes i node below)
      ∙ ap (λ n. nodes_refusal p earlier (n ∷ drop (i + 1) nodes)) (sym is)

  pub degrees_more : (nodes : List (Node F)) (i : ℕ) (node : Node F)
      → i < length nodes → node ≡ get_or nodes i node
      → degrees (take (i + 1) nodes)
      ≡ degrees (take i nodes) ++ degree (degrees (take i nodes)) node ∷ []
  degrees_more nodes i node below is =
      fold_more (λ earlier n. earlier ++ degree earlier n ∷ []) [] nodes i node below
      ∙ ap (λ n. degrees (take i nodes) ++ degree (degrees (take i nodes)) n ∷ []) (sym is)

  pub values_more : {E : Type 0} (l : FieldOps E) (embed : F → E) (w : Window E)
      (nodes : List (Node F)) (i : ℕ) (node : Node F)
      → i < length nodes → node ≡ get_or nodes i node
      → values l embed (take (i + 1) nodes) w
      ≡ values l embed (take i nodes) w
      ++ value l embed w (values l embed (take i nodes) w) node ∷ []
  values_more l embed w nodes i node below is =
      fold_more (λ earlier n. earlier ++ value l embed w earlier n ∷ []) [] nodes i node below
      ∙ ap
      (λ n. values l embed (take i nodes) w
      ++ value l embed w (values l embed (take i nodes) w) n ∷ []) (sym is)
