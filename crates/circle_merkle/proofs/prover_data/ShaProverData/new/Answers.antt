use Rattle.std.proofs.Common.{◌≤◌, ℕ, List, Vec, Global, All, ◌≡◌, ◌+◌, ◌-◌, ◌^◌, ◌<◌, ◌∙◌, ◌∷◌, []}
use Rattle.std.proofs.Common.{refl, ap, sym, map, length, vec_len, arith, get_or}
use Rattle.sha2.specs.Sha256.{sha256}
use Rattle.circle_commit.specs.Matrix.{IsPowerOfTwo}
use Rattle.circle_commit.specs.declared.matrix.RowMajorMatrix.{RowMajorMatrix}
use Rattle.circle_commit.specs.RowMajorMatrix.{height_of}
use Rattle.circle_commit.specs.Mmcs.{max_height}
use Rattle.circle_merkle.specs.PowerTest.{power_passes}
use Rattle.circle_merkle.specs.Tree.{digest}
use Rattle.circle_merkle.specs.Rows.{matrix_rows}
use Rattle.circle_merkle.specs.Authentication.{tree_levels, upper_levels}
use Rattle.circle_merkle.proofs.KeptTree.{whole-length, whole-root, upper-tree}
use Rattle.circle_merkle.proofs.Heights.{max-power}
use Rattle.circle_merkle.proofs.Completeness.{heights-bounded}
use Rattle.circle_merkle.proofs.prover_data.ShaProverData.new.Goals as goal

-- the levels are those of the tree over matrices
record IsTree {T : Type 0} (bytes : T → List ℕ) (matrices : List (RowMajorMatrix T))
    (levels : Vec (Vec (List ℕ) Global) Global) : Type 0 where
  count : ℕ
  top : max_height matrices ≡ 2 ^ count
  tree : map (λ level. level.items) levels.items ≡ tree_levels sha256 bytes matrices count
  long : vec_len levels ≡ count + 1

is_tree : {T : Type 0} (bytes : T → List ℕ) (matrices : List (RowMajorMatrix T)) {n : ℕ} → 1 ≤ n →
    n ≡ length matrices → All (λ m. IsPowerOfTwo (height_of m)) matrices →
    (levels : Vec (Vec (List ℕ) Global) Global) (top : ℕ) → top ≡ max_height matrices →
    ((count : ℕ) → top ≡ 2 ^ count → map (λ level. level.items) levels.items
    ≡ tree_levels sha256 bytes matrices count) → IsTree bytes matrices levels
is_tree bytes matrices some len powers levels top greatest tree =
    let power : IsPowerOfTwo (max_height matrices) = max-power matrices (omega arith) powers in
    let whole = tree power.0 (greatest ∙ power.1) in
    record {
      count = power.0;
      top = power.1;
      tree = whole;
      long = levels.ok.0 ∙ whole-length sha256 bytes matrices power.0 levels.items whole;
    }

some_levels : {n m : ℕ} (count : ℕ) → n ≡ m → m ≡ count + 1 → 1 ≤ n
some_levels count e f = omega arith

last_level : {n m : ℕ} (count : ℕ) → n ≡ m → m ≡ count + 1 → n - 1 ≡ count
last_level count e f = omega arith

last_within : {n m : ℕ} (count : ℕ) → n ≡ m → m ≡ count + 1 → n - 1 < m
last_within count e f = omega arith

pub levels_of-requires-clause-power : goal.levels_of-requires-clause-power
levels_of-requires-clause-power g c =
    let matrices = c.args.matrices.items in
    let power : IsPowerOfTwo (max_height matrices) =
    max-power matrices (omega (arith, c.requires.some, c.args.matrices.ok.0))
    c.requires.powers_of_two in
    (power.0, c.greatest_height-top.ensures ∙ ap max_height c.deref.ensures.value ∙ power.1)

pub overflow_sub-len : goal.overflow_sub-len
overflow_sub-len g c =
    let matrices = c.args.matrices.items in
    let bytes = g.T.ElementBytes.bytes in
    let levels = c.in_ok-levels.levels in
    let t : IsTree bytes matrices levels =
    is_tree bytes matrices c.requires.some c.args.matrices.ok.0 c.requires.powers_of_two levels
    c.greatest_height-top.result
    (c.greatest_height-top.ensures ∙ ap max_height c.deref.ensures.value)
    (λ count e. c.in_ok-levels.ensures count e
    ∙ ap (λ ms. tree_levels sha256 bytes ms count) c.deref-2.ensures.value) in
    some_levels t.count c.len.ensures t.long

pub index-requires : goal.index-requires
index-requires g c =
    let matrices = c.args.matrices.items in
    let bytes = g.T.ElementBytes.bytes in
    let levels = c.in_ok-levels.levels in
    let t : IsTree bytes matrices levels =
    is_tree bytes matrices c.requires.some c.args.matrices.ok.0 c.requires.powers_of_two levels
    c.greatest_height-top.result
    (c.greatest_height-top.ensures ∙ ap max_height c.deref.ensures.value)
    (λ count e. c.in_ok-levels.ensures count e
    ∙ ap (λ ms. tree_levels sha256 bytes ms count) c.deref-2.ensures.value) in
    last_within t.count c.len.ensures t.long

pub index-root-requires : goal.index-root-requires
index-root-requires g c =
    let matrices = c.args.matrices.items in
    let bytes = g.T.ElementBytes.bytes in
    let levels = c.in_ok-levels.levels in
    let t : IsTree bytes matrices levels =
    is_tree bytes matrices c.requires.some c.args.matrices.ok.0 c.requires.powers_of_two levels
    c.greatest_height-top.result
    (c.greatest_height-top.ensures ∙ ap max_height c.deref.ensures.value)
    (λ count e. c.in_ok-levels.ensures count e
    ∙ ap (λ ms. tree_levels sha256 bytes ms count) c.deref-2.ensures.value) in
    let last = last_level t.count c.len.ensures t.long in
    let v = c.index.result.now in
    let root : v.items ≡ digest sha256 (matrix_rows bytes matrices) t.count 0 ∷ [] =
    whole-root sha256 bytes matrices t.count levels.items t.tree v
    (c.index.ensures ∙ ap (λ k. get_or levels.items k v) last) in
    omega (arith, ap length root, v.ok.0)

pub remove-lowest-requires : goal.remove-lowest-requires
remove-lowest-requires g c =
    let matrices = c.args.matrices.items in
    let bytes = g.T.ElementBytes.bytes in
    let levels = c.in_ok-levels.levels in
    let t : IsTree bytes matrices levels =
    is_tree bytes matrices c.requires.some c.args.matrices.ok.0 c.requires.powers_of_two levels
    c.greatest_height-top.result
    (c.greatest_height-top.ensures ∙ ap max_height c.deref.ensures.value)
    (λ count e. c.in_ok-levels.ensures count e
    ∙ ap (λ ms. tree_levels sha256 bytes ms count) c.deref-2.ensures.value) in
    omega (arith, t.long)

pub invariant_of-data : goal.invariant_of-data
invariant_of-data g c =
    let matrices = c.args.matrices.items in
    let bytes = g.T.ElementBytes.bytes in
    let levels = c.in_ok-levels.levels in
    let greatest = c.greatest_height-top.ensures ∙ ap max_height c.deref.ensures.value in
    let t : IsTree bytes matrices levels =
    is_tree bytes matrices c.requires.some c.args.matrices.ok.0 c.requires.powers_of_two levels
    c.greatest_height-top.result
    greatest (λ count e. c.in_ok-levels.ensures count e
    ∙ ap (λ ms. tree_levels sha256 bytes ms count) c.deref-2.ensures.value) in
    let upper = c.remove-lowest.new.self in
    let last : t.count ≡ vec_len upper = omega (arith, t.long, c.remove-lowest.ensures.len) in
    let fits : max_height matrices < 2 ^ 64 =
    omega (arith, c.greatest_height-top.type_inv, greatest) in
    record {
      some_matrix = c.requires.some;
      powers_of_two =
          λ k d lt. power_passes (height_of (get_or matrices k d))
          (omega (arith, heights-bounded matrices k d lt, fits)) (c.requires.powers_of_two k d lt);
      greatest = greatest;
      levels = greatest ∙ t.top ∙ ap (λ k. 2 ^ k) last;
      tree =
          ap (map (λ level. level.items)) c.remove-lowest.ensures.items
          ∙ upper-tree sha256 bytes matrices t.count levels.items t.tree
          ∙ ap (upper_levels sha256 bytes matrices) last;
    }

pub returns-clause-root : goal.returns-clause-root
returns-clause-root g c =
    let matrices = c.args.matrices.items in
    let bytes = g.T.ElementBytes.bytes in
    let levels = c.in_ok-levels.levels in
    let t : IsTree bytes matrices levels =
    is_tree bytes matrices c.requires.some c.args.matrices.ok.0 c.requires.powers_of_two levels
    c.greatest_height-top.result
    (c.greatest_height-top.ensures ∙ ap max_height c.deref.ensures.value)
    (λ count e. c.in_ok-levels.ensures count e
    ∙ ap (λ ms. tree_levels sha256 bytes ms count) c.deref-2.ensures.value) in
    let last = last_level t.count c.len.ensures t.long in
    let v = c.index.result.now in
    let root : v.items ≡ digest sha256 (matrix_rows bytes matrices) t.count 0 ∷ [] =
    whole-root sha256 bytes matrices t.count levels.items t.tree v
    (c.index.ensures ∙ ap (λ k. get_or levels.items k v) last) in
    record {
      levels = t.count;
      top = t.top;
      root = sym (c.index-root.ensures ∙ ap (λ ds. get_or ds 0 c.index-root.result.now) root);
    }

pub levels_of-requires-clause-greatest : goal.levels_of-requires-clause-greatest
levels_of-requires-clause-greatest g c = c.greatest_height-top.ensures
    ∙ ap max_height (c.deref.ensures.value ∙ sym c.deref-2.ensures.value)

pub returns-clause-matrices : goal.returns-clause-matrices
returns-clause-matrices g c = refl
