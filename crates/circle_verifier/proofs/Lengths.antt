-- What the tests of lengths say.
use Rattle.std.proofs.Common.{◌≡◌, ℕ, ◌==◌, Bool, true, false, ◌&&◌, List, [], ◌∷◌, length, refl}
use Rattle.std.proofs.Common.{sym, ap, subst, ◌∙◌, arith, eq-eqb}
use Rattle.std.specs.Prelude.{map, zip, All, Vec, vec_len}
use Rattle.std.specs.Bool.{Decides}
use Rattle.std.specs.List.{list_all}
use Rattle.std.specs.declared.alloc.Global.{Global}
use Rattle.std.proofs.lemmas.Bool.Decides.{Decides-and, Decides-eqb}
use Rattle.std.proofs.lemmas.List.{length-map}
use Rattle.std.proofs.lemmas.List.Elements.{All-nil, All-cons, All-head, All-tail}
use Rattle.circle_commit.specs.declared.params.FriParameters.{FriParameters}
use Rattle.circle_commit.specs.declared.pcs.PointOpening.{PointOpening}
use Rattle.circle_commit.specs.declared.pcs.MatrixOpening.{MatrixOpening}
use Rattle.circle_commit.specs.declared.pcs.CommitmentOpening.{CommitmentOpening}
use Rattle.circle_commit.specs.declared.pcs.BatchMultiOpening.{BatchMultiOpening}
use Rattle.circle_commit.specs.Mmcs.{opened_rows}
use Rattle.circle_domain.specs.declared.domain.CircleDomain.{CircleDomain}
use Rattle.circle_relation.specs.Accepts.{Fields, Run, IsAsLongAsClaims, HasRows}
use Rattle.circle_relation.specs.Accepts.{HasSiblings, HasInputs, claimed_heights}
use Rattle.circle_relation.specs.StatementOf.{point_claim, matrix_claim, matrix_claims, batch_claim}
use Rattle.circle_relation.specs.StatementOf.{batch_claims}
use Rattle.circle_relation.specs.RunOf.{opened_batch}
use Rattle.circle_verifier.specs.OfRun.{run_of, heights_of}
use Rattle.circle_verifier.specs.declared.run.OpenedRun.{OpenedRun}
use Rattle.circle_verifier.specs.Shape.{have_values, rows_fit, opened_fit, inputs_fit, siblings_fit}

-- a second test, after one of numbers that are the same
pub after-same : (a b : ℕ) (r rest : Bool) → a ≡ b → r ≡ rest → r ≡ ((a == b) && rest)
after-same a b r rest same is = is ∙ ap (λ t. t && rest) (sym (eq-eqb a b same))

-- a test that decides one fact decides another that holds exactly where it does
change : {P Q : Type 0} (r : Bool) → Decides r P → (P → Q) → (Q → P) → Decides r Q
change r d to back = (λ e. to (d.0 e), λ q. d.1 (back q))

cons : {X : Type 0} (P : X → Type 0) (x : X) (xs : List X) (a b : Bool) → Decides a (P x) →
    Decides b (All P xs) → Decides (a && b) (All P (x ∷ xs))
cons P x xs a b first rest =
    change (a && b) (Decides-and a b first rest) (λ both. All-cons P x xs both.0 both.1)
    (λ all. (All-head P x xs all, All-tail P x xs all))

mapped : {X Y : Type 0} (p : X → Bool) (f : X → Y) (P : Y → Type 0) →
    ((x : X) → Decides (p x) (P (f x))) → (xs : List X) → Decides (list_all p xs) (All P (map f xs))
mapped p f P each [] = (λ _. All-nil P, λ _. refl)
mapped p f P each (x ∷ xs) =
    cons P (f x) (map f xs) (p x) (list_all p xs) (each x) (mapped p f P each xs)

zipped : {X Y A B : Type 0} (p : X × Y → Bool) (f : X → A) (g : Y → B) (P : A × B → Type 0) →
    ((x : X) (y : Y) → Decides (p (x, y)) (P (f x, g y)))
    → (xs : List X) (ys : List Y) →
    Decides (list_all p (zip xs ys)) (All P (zip (map f xs) (map g ys)))
zipped p f g P each [] ys = (λ _. All-nil P, λ _. refl)
zipped p f g P each (x ∷ xs) [] = (λ _. All-nil P, λ _. refl)
zipped p f g P each (x ∷ xs) (y ∷ ys) =
    cons P (f x, g y) (zip (map f xs) (map g ys)) (p (x, y)) (list_all p (zip xs ys)) (each x y)
    (zipped p f g P each xs ys)

abbrev pub items : {T : Type 0} → Vec T Global → List T
items v = v.items

-- numbers that stand for lengths
pub same-lengths : (a b m n : ℕ) → a ≡ m → b ≡ n → Decides (a == b) (m ≡ n)
same-lengths a b m n is is' =
    change (a == b) (Decides-eqb a b) (λ e. omega arith) (λ e. omega arith)

-- one sibling list for each query, each of `count`
pub siblings-decide : {T : Type 0} (queries count : ℕ) (siblings : List (Vec T Global)) →
    Decides (siblings_fit queries count siblings) ((length (map items siblings) ≡ queries)
    × All (λ s. length s ≡ count) (map items siblings))
siblings-decide queries count siblings =
    Decides-and (length siblings == queries) (list_all (λ s. vec_len s == count) siblings)
    (same-lengths (length siblings) queries (length (map items siblings)) queries
    (sym (length-map siblings items)) refl)
    (mapped (λ s. vec_len s == count) items (λ s. length s ≡ count)
    (λ s. same-lengths (vec_len s) count (length s.items) count s.ok.0 refl) siblings)

module _ {F E Words Com InputCom InputProof WordProof : Type 0} (fields : Fields F E)
    (params : FriParameters Words) (r : Run F E Com InputCom InputProof WordProof) where
  values-decide : (points : List (PointOpening E)) (row : Vec F Global) →
      Decides (have_values points (vec_len row))
      (All (λ c. length row.items ≡ length c.values) (map point_claim points))
  values-decide points row =
      mapped (λ p. vec_len p.values == vec_len row) point_claim
      (λ c. length row.items ≡ length c.values)
      (λ p. change (vec_len p.values == vec_len row)
      (same-lengths (vec_len p.values) (vec_len row) (length p.values.items) (length row.items)
      p.values.ok.0 row.ok.0) (λ e. sym e) (λ e. sym e)) points

  module _ {g : _} where
    rows-decide : (matrices : List (MatrixOpening E (CircleDomain F g)))
        (rows : List (Vec F Global)) →
        Decides (rows_fit matrices rows)
        ((length (map items rows) ≡ length (matrix_claims matrices))
        × All (IsAsLongAsClaims fields params r)
        (zip (matrix_claims matrices) (map items rows)))
    rows-decide matrices rows =
        Decides-and (length rows == length matrices)
        (list_all (λ p. have_values p.0.points.items (vec_len p.1)) (zip matrices rows))
        (same-lengths (length rows) (length matrices) (length (map items rows))
        (length (matrix_claims matrices)) (sym (length-map rows items))
        (sym (length-map matrices matrix_claim)))
        (zipped (λ p. have_values p.0.points.items (vec_len p.1)) matrix_claim items
        (IsAsLongAsClaims fields params r) (λ m row. values-decide m.points.items row) matrices
        rows)

    module _ {M MC MD ME : Type 0} where
      opened-decide : (b : CommitmentOpening E InputCom (CircleDomain F g))
          (o : BatchMultiOpening F M MC MD InputProof ME) →
          Decides (opened_fit (length r.drawn.queries) b.matrices.items o.opened_values.items)
          (HasRows fields params r (batch_claim b, opened_batch o))
      opened-decide b o =
          let opened = o.opened_values.items in
          Decides-and (length opened == length r.drawn.queries)
          (list_all (λ rows. rows_fit b.matrices.items rows.items) opened)
          (same-lengths (length opened) (length r.drawn.queries) (length (opened_rows opened))
          (length r.drawn.queries) (sym (length-map opened (λ rows. map items rows.items)))
          refl)
          (mapped (λ rows. rows_fit b.matrices.items rows.items) (λ rows. map items rows.items)
          (λ rows. (length rows ≡ length (matrix_claims b.matrices.items))
          × All (IsAsLongAsClaims fields params r) (zip (matrix_claims b.matrices.items) rows))
          (λ rows. rows-decide b.matrices.items rows.items) opened)

      -- the rows of each batch
      pub inputs-decide : (claims : List (CommitmentOpening E InputCom (CircleDomain F g)))
          (inputs : List (BatchMultiOpening F M MC MD InputProof ME)) →
          Decides (inputs_fit (length r.drawn.queries) claims inputs)
          ((length (map opened_batch inputs) ≡ length (batch_claims claims))
          × All (HasRows fields params r) (zip (batch_claims claims) (map opened_batch inputs)))
      inputs-decide claims inputs =
          let test =
          λ (p : CommitmentOpening E InputCom (CircleDomain F g)
          × BatchMultiOpening F M MC MD InputProof ME). opened_fit (length r.drawn.queries)
          p.0.matrices.items p.1.opened_values.items in
          Decides-and (length inputs == length claims) (list_all test (zip claims inputs))
          (same-lengths (length inputs) (length claims) (length (map opened_batch inputs))
          (length (batch_claims claims)) (sym (length-map inputs opened_batch))
          (sym (length-map claims batch_claim)))
          (zipped test batch_claim opened_batch (HasRows fields params r) opened-decide claims
          inputs)

-- three tests, one after another
pub all-pass : (a b d : Bool) → a ≡ true → b ≡ true → (a && (b && d)) ≡ d
all-pass a b d first second = ap (λ t. t && (b && d)) first ∙ ap (λ t. t && d) second

pub first-fails : (a b d : Bool) → a ≡ false → (a && (b && d)) ≡ false
first-fails a b d first = ap (λ t. t && (b && d)) first

pub second-fails : (a b d : Bool) → a ≡ true → b ≡ false → (a && (b && d)) ≡ false
second-fails a b d first second = ap (λ t. t && (b && d)) first ∙ ap (λ t. t && d) second

-- the tests together decide that the lists have the lengths that are due
pub shape-decides : {F E Words Com InputCom InputProof WordProof : Type 0} (fields : Fields F E)
    (params : FriParameters Words) (r : Run F E Com InputCom InputProof WordProof)
    (a b d t : Bool) →
    Decides a ((length r.proof.inputs ≡ length r.batches)
    × All (HasRows fields params r) (zip r.batches r.proof.inputs))
    →
    Decides b
    (HasSiblings fields params r (length (claimed_heights fields params r))
    r.proof.first_layer_opened)
    → Decides d (length r.proof.lambdas ≡ length (claimed_heights fields params r))
    → (a && (b && d)) ≡ t → Decides t (HasInputs fields params r)
shape-decides fields params r a b d t rows siblings lambdas is =
    subst (λ u. Decides u (HasInputs fields params r)) is
    (change (a && (b && d)) (Decides-and a (b && d) rows (Decides-and b d siblings lambdas))
    (λ p. record { inputs = p.0.0; rows = p.0.1; first_siblings = p.1.0; lambdas = p.1.1 })
    (λ h. ((h.inputs, h.rows), (h.first_siblings, h.lambdas))))

-- what a run is tested for
module _ {F E I W IC ID IP IE WC WD WP WE : Type 0} {g ext over inputs ic ip ie words wc wp we : _}
    (o : OpenedRun F E I W IC ID IP IE WC WD WP WE g ext over inputs ic ip ie words wc wp we)
    (count : ℕ) where
  abbrev k : Fields F E
  k = over.fields

  abbrev pub rows_test : Bool
  rows_test =
      inputs_fit (length o.indices.now) o.claims.now
      o.proof.now.fri_proof.input_openings.input_openings.items

  abbrev pub siblings_test : Bool
  siblings_test =
      siblings_fit (length o.indices.now) count
      o.proof.now.fri_proof.input_openings.first_layer_siblings.items

  abbrev pub lambdas_test : Bool
  lambdas_test = vec_len o.proof.now.lambdas == count

  pub run-decides : (t : Bool) → count ≡ length (heights_of o) →
      (rows_test && (siblings_test && lambdas_test)) ≡ t →
      Decides t (HasInputs k o.params.now (run_of o))
  run-decides t due is =
      let r = run_of o in
      let inputs = o.proof.now.fri_proof.input_openings in
      let siblings =
      change siblings_test
      (siblings-decide (length o.indices.now) count inputs.first_layer_siblings.items)
      (λ p. (
        p.0,
        subst (λ n. All (λ x. length x ≡ n) (map items inputs.first_layer_siblings.items))
            due p.1,
      ))
      (λ p. (
        p.0,
        subst (λ n. All (λ x. length x ≡ n) (map items inputs.first_layer_siblings.items))
            (sym due) p.1,
      )) in
      shape-decides k o.params.now r rows_test siblings_test lambdas_test t
      (inputs-decide k o.params.now r o.claims.now inputs.input_openings.items) siblings
      (same-lengths (vec_len o.proof.now.lambdas) count (length o.proof.now.lambdas.items)
      (length (claimed_heights k o.params.now r)) o.proof.now.lambdas.ok.0 due) is
