-- What an AIR's parts keep because they were not refused.
use Rattle.std.specs.Prelude.{◌≡◌, ℕ, ◌+◌, ◌<◌, ◌≤◌, List, [], ◌∷◌, ◌++◌, length, Bool, true, false}
use Rattle.std.specs.Prelude.{All}
use Rattle.std.specs.Prelude.{IsTrue, is_none, Option, Some, None, slice_index_or, if◌then◌else◌}
use Rattle.std.specs.Prelude.{nat_le, nat_lt, ◌||◌, refl}
use Rattle.std.specs.Int.{is_power_of_two}
use Rattle.std.specs.Prelude.{count_ones}
use Rattle.std.proofs.lemmas.Nat.{ones_le_self}
use Rattle.std.specs.Option.{option_or}
use Rattle.std.proofs.Common.{zero, suc, arith, subst, length-append}
use Rattle.std.proofs.lemmas.Bool.{false≢true}
use Rattle.circle_air.specs.declared.node.Node.{Node}
use Rattle.circle_air.specs.declared.node.Node.TheVariants.{Local, Next, Periodic, Public}
use Rattle.circle_air.specs.declared.node.Node.TheVariants.{Constant, Add, Sub, Mul, Neg}
use Rattle.circle_air.specs.declared.node.Constraint.{Constraint}
use Rattle.circle_air.specs.Degrees.{degree}
use Rattle.circle_air.specs.Parts.{Parts}
use Rattle.circle_air.specs.Ranges.{IsInRange}
use Rattle.circle_air.specs.Refusal.{is_out_of_order, lacks_column, lacks_periodic, lacks_public}
use Rattle.circle_air.specs.Refusal.{node_refusal, nodes_refusal, periods_refusal}
use Rattle.circle_air.specs.Refusal.{columns_refusal, constraints_refusal, refusal}

neither : {T : Type 0} (x y : Option T) → option_or x y ≡ None → (x ≡ None) × (y ≡ None)
neither None y h = (refl, h)
neither (Some v) y h = absurd (cc)

no_test : {T : Type 0} (b : Bool) (e : T) (rest : Option T) → (if b then Some e else rest) ≡ None
    → (b ≡ false) × (rest ≡ None)
no_test true e rest h = absurd (cc)
no_test false e rest h = (refl, h)

the_test : {T : Type 0} (b : Bool) (e : T) (rest : Option T) → (if b then rest else Some e) ≡ None
    → (b ≡ true) × (rest ≡ None)
the_test true e rest h = (refl, h)
the_test false e rest h = absurd (cc)

neither_le : (i a b : ℕ) → (nat_le i a || nat_le i b) ≡ false → (a < i) × (b < i)
neither_le i a b h = (grind arith, grind arith)

not_le : (i a : ℕ) → nat_le i a ≡ false → a < i
not_le i a h = grind arith

module _ {F : Type 0} (p : Parts F) where
  in_range : (i : ℕ) (node : Node F) → is_out_of_order i node ≡ false → lacks_column p node ≡ false
      → lacks_periodic p node ≡ false → lacks_public p node ≡ false
      → IsInRange p.width (length p.periodic_columns) p.num_public_values i node
  in_range i (Local c) o l q u = not_le p.width c l
  in_range i (Next c) o l q u = not_le p.width c l
  in_range i (Periodic j) o l q u = not_le (length p.periodic_columns) j q
  in_range i (Public j) o l q u = not_le p.num_public_values j u
  in_range i (Constant x) o l q u = tt
  in_range i (Add a b) o l q u = neither_le i a b o
  in_range i (Sub a b) o l q u = neither_le i a b o
  in_range i (Mul a b) o l q u = neither_le i a b o
  in_range i (Neg a) o l q u = not_le i a o

  node_in_range : (earlier : List ℕ) (node : Node F) → node_refusal p earlier node ≡ None
      → IsInRange p.width (length p.periodic_columns) p.num_public_values (length earlier) node
  node_in_range earlier node h =
      let o = no_test (is_out_of_order (length earlier) node) _ _ h in
      let l = no_test (lacks_column p node) _ _ o.1 in
      let q = no_test (lacks_periodic p node) _ _ l.1 in
      let u = no_test (lacks_public p node) _ _ q.1 in
      in_range (length earlier) node o.0 l.0 q.0 u.0

  nodes_in_range : (earlier : List ℕ) (nodes : List (Node F)) → nodes_refusal p earlier nodes ≡ None
      → (i : ℕ) (d : Node F) → i < length nodes
      → IsInRange p.width (length p.periodic_columns) p.num_public_values (length earlier + i)
      (slice_index_or nodes i d)
  nodes_in_range earlier [] h i d below = absurd (omega arith)
  nodes_in_range earlier (node ∷ nodes) h zero d below =
      let first = node_in_range earlier node (neither (node_refusal p earlier node) _ h).0 in
      let same : length earlier ≡ length earlier + 0 = omega arith in
      subst (λ i. IsInRange p.width (length p.periodic_columns) p.num_public_values i node) same
      first
  nodes_in_range earlier (node ∷ nodes) h (suc i) d below =
      let more = earlier ++ degree earlier node ∷ [] in
      let rest = nodes_in_range more nodes (neither (node_refusal p earlier node) _ h).1 i d
      (omega arith) in
      let same : length more + i ≡ length earlier + suc i =
      omega (arith, length-append earlier (degree earlier node ∷ [])) in
      subst
      (λ j. IsInRange p.width (length p.periodic_columns) p.num_public_values j
      (slice_index_or nodes i d)) same rest

constraint_nodes : (n j : ℕ) (constraints : List Constraint) → constraints_refusal n j constraints
    ≡ None
    → (i : ℕ) (d : Constraint) → i < length constraints → (slice_index_or constraints i d).node < n
constraint_nodes n j [] h i d below = absurd (omega arith)
constraint_nodes n j (c ∷ cs) h zero d below =
    let t = (the_test (nat_lt c.node n) _ _ h).0 in grind arith
constraint_nodes n j (c ∷ cs) h (suc i) d below =
    constraint_nodes n (j + 1) cs (the_test (nat_lt c.node n) _ _ h).1 i d (omega arith)

power_positive : (n : ℕ) → is_power_of_two n ≡ true → 0 < n
power_positive n h =
    let one : count_ones n ≡ 1 = grind arith in
    omega (arith, one, ones_le_self n)

periods : {F : Type 0} (j : ℕ) (columns : List (List F)) → periods_refusal j columns ≡ None
    → (i : ℕ) (d : List F) → i < length columns
    → is_power_of_two (length (slice_index_or columns i d)) ≡ true
periods j [] h i d below = absurd (omega arith)
periods j (c ∷ cs) h zero d below = (the_test (is_power_of_two (length c)) _ _ h).0
periods j (c ∷ cs) h (suc i) d below =
    periods (j + 1) cs (the_test (is_power_of_two (length c)) _ _ h).1 i d (omega arith)

-- what holds of parts that aren't refused
pub record IsValid {F : Type 0} (p : Parts F) : Type 0 where
  pub columns : 1 ≤ p.width
  pub nodes : (i : ℕ) (d : Node F) → i < length p.nodes
      → IsInRange p.width (length p.periodic_columns) p.num_public_values i
      (slice_index_or p.nodes i d)
  pub constraint_nodes : All (λ c. c.node < length p.nodes) p.constraints
  pub periods : All (λ column. is_power_of_two (length column) ≡ true) p.periodic_columns
  pub periods_positive : All (λ column. 0 < length column) p.periodic_columns

is_none-none : {T : Type 0} (x : Option T) → IsTrue (is_none x) → x ≡ None
is_none-none None h = refl
is_none-none (Some v) h = absurd (false≢true h)

pub valid : {F : Type 0} (p : Parts F) → IsTrue (is_none (refusal p)) → IsValid p
valid p h =
    let none = is_none-none (refusal p) h in
    let first = neither (columns_refusal p) _ none in
    let columns = no_test _ _ _ first.0 in
    let after_columns = neither (nodes_refusal p [] p.nodes) _ first.1 in
    let after_nodes = no_test _ _ _ after_columns.1 in
    let power = periods 0 p.periodic_columns columns.1 in record {
      columns = let none = columns.0 in grind arith;
      nodes =
          λ i d below. subst
          (λ j. IsInRange p.width (length p.periodic_columns) p.num_public_values j
          (slice_index_or p.nodes i d)) (omega arith)
          (nodes_in_range p [] p.nodes after_columns.0 i d below);
      constraint_nodes = constraint_nodes (length p.nodes) 0 p.constraints after_nodes.1;
      periods = power;
      periods_positive = λ i d below. power_positive _ (power i d below);
    }
