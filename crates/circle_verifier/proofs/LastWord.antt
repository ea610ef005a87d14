-- Where the queries end: in entries of the last codeword.
use Rattle.std.specs.Prelude.{◌≡◌, ℕ, ◌+◌, ◌-◌, ◌*◌, ◌/◌, ◌^◌, ◌≤◌, ◌<◌, List, [], ◌∷◌, Some}
use Rattle.std.specs.Prelude.{length, map, All, slice_get, slice_index_or}
use Rattle.std.proofs.Common.{suc, sym, ◌∙◌, ap, subst, arith}
use Rattle.std.proofs.Math.Nat.{pow-suc}
use Rattle.std.proofs.lemmas.List.{get_or-map}
use Rattle.std.proofs.lemmas.List.Elements.{All-head}
use Rattle.std.proofs.lemmas.Nat.{shr_below}
use Rattle.std.proofs.lemmas.Option.{get_or_from_slice_get}
use Rattle.circle_commit.specs.declared.params.FriParameters.{FriParameters}
use Rattle.circle_field.specs.Field.{FieldOps, FieldLaws}
use Rattle.circle_field.specs.Circle.{Coordinates, AreGenerators}
use Rattle.circle_domain.specs.Order.{coset, natural_order, natural_from}
use Rattle.circle_domain.specs.Ordering.{cfft_index}
use Rattle.circle_domain.proofs.Twiddles.{length-coset}
use Rattle.circle_domain.proofs.CosetOrder.{cfft-place, with_opposites-even}
use Rattle.circle_point.specs.Basis.{x_value}
use Rattle.circle_relation.specs.Statement.{MatrixClaim, log_max_height}
use Rattle.circle_relation.specs.Accepts.{Fields, Run, matrices, at_queries, rounds}
use Rattle.circle_relation.specs.Accepts.{final_value}
use Rattle.circle_verifier.specs.declared.run.OpenedRun.{OpenedRun}
use Rattle.circle_verifier.specs.OfRun.{run_of}
use Rattle.circle_relation.proofs.AtQueries.{zip-placed, length-placed, placed-read}

-- the greatest height is past the least that is claimed
pub highest-past : {E : Type 0} (blowup n : ℕ) (ms : List (MatrixClaim E)) → 1 ≤ length ms →
    All (λ m. n ≤ m.log_n) ms → n + blowup ≤ log_max_height blowup ms
highest-past blowup n [] some all = absurd (omega arith)
highest-past blowup n (m ∷ ms) some all = let here = All-head (λ m. n ≤ m.log_n) m ms all in
    omega (arith, here)

module _ {F : Type 0} {k : FieldOps F} (laws : FieldLaws k) {bits : ℕ} {gen : ℕ → Coordinates F}
    (gens : AreGenerators k bits gen) where
  -- the x coordinate of the point at place 2 i of the transform's order is entry i of the coset
  pub last-point : (m i n place : ℕ) (s p : Coordinates F) → i < 2 ^ m → m + 2 ≤ bits → n ≡ m + 1 →
      s ≡ gen (m + 1 + 1) → place ≡ cfft_index (m + 1) (2 * i) →
      slice_get (natural_order k gen n s) place ≡ Some p →
      p.x ≡ slice_index_or (map (λ (q : Coordinates F). q.x) (coset k gen m (gen (m + 2)))) i
      k.zero
  last-point m i n place s p lt fits size shift is_place here =
      let t = gen (m + 2) in
      let points = coset k gen m t in
      let x = λ (q : Coordinates F). q.x in
      let order : m + 1 + 1 ≡ m + 2 = omega arith in
      let next : m + 1 ≡ suc m = omega arith in
      let before : n - 1 ≡ m = omega (arith, size) in
      let within : 2 * i < 2 ^ suc m = omega (arith, lt, pow-suc 2 m) in
      let counted : i < length points = omega (arith, lt, length-coset k gen m t) in
      ap x
      (sym (get_or_from_slice_get (natural_order k gen n s) place p p here)
      ∙ ap (λ j. slice_index_or (natural_order k gen n s) j p)
      (is_place ∙ ap (λ a. cfft_index a (2 * i)) next)
      ∙ ap (λ a. slice_index_or (natural_from k (2 ^ a) (gen a) s 0) (cfft_index (suc m) (2 * i)) p)
      before
      ∙ ap (λ q. slice_index_or (natural_from k (2 ^ m) (gen m) q 0) (cfft_index (suc m) (2 * i)) p)
      (shift ∙ ap gen order)
      ∙ sym (cfft-place laws.ring gens m (2 * i) t p within (omega (arith, fits)))
      ∙ with_opposites-even k points i (2 * i) p (omega arith) counted)
      ∙ sym (get_or-map x points i p k.zero counted)

module _ {F E M C IC IP WP : Type 0} (fields : Fields F E) (params : FriParameters M)
    (r : Run F E C IC IP WP) where
  pub length-at_queries : {T : Type 0} (f : ℕ → ℕ → T) → length (at_queries fields params r f)
      ≡ length r.drawn.queries
  length-at_queries f = ap length (zip-placed f 0 r.drawn.queries)
      ∙ length-placed f 0 r.drawn.queries

  -- what stands at the place of a query in a list of what is opened at each
  pub value-at : {T : Type 0} (f : ℕ → ℕ → T) (vs : List T) (j : ℕ) (v : T) →
      vs ≡ at_queries fields params r f → j < length r.drawn.queries → v ≡ slice_index_or vs j v →
      v ≡ f j (slice_index_or r.drawn.queries j 0)
  value-at f vs j v all lt here =
      let qs = r.drawn.queries in
      let none : 0 + j ≡ j = omega arith in
      here ∙ ap (λ xs. slice_index_or xs j v) (all ∙ zip-placed f 0 qs)
      ∙ placed-read f 0 qs j v 0 lt ∙ ap (λ i. f i (slice_index_or qs j 0)) none

module _ {F E I W IC ID IP IE WC WD WP WE : Type 0} {g ext over inputs ic ip ie words wc wp we : _}
    (o : OpenedRun F E I W IC ID IP IE WC WD WP WE g ext over inputs ic ip ie words wc wp we) where
  abbrev k : Fields F E
  k = over.fields

  abbrev log_len : ℕ
  log_len = o.params.now.log_blowup + o.params.now.log_final_poly_len

  -- the last codeword is shorter than the first
  pub last-short : log_len < o.log_max_height
  last-short =
      let past = highest-past o.params.now.log_blowup (o.params.now.log_final_poly_len + 1)
      (matrices k o.params.now (run_of o)) o.drawn.some_matrix o.drawn.large in
      omega (arith, past, o.drawn.top)

  -- the place of a query in it
  pub last-place : (q : ℕ) → q / 2 ^ (rounds k o.params.now (run_of o) + 1)
      ≡ q / 2 ^ (o.log_max_height - log_len)
  last-place q =
      let e : rounds k o.params.now (run_of o) + 1 ≡ o.log_max_height - log_len =
      omega (arith, last-short, o.drawn.top) in
      ap (λ n. q / 2 ^ n) e

  pub last-low : (j : ℕ) → j < length o.indices.now →
      slice_index_or o.indices.now j 0 / 2 ^ (o.log_max_height - log_len) < 2 ^ log_len
  last-low j lt =
      let whole : o.log_max_height ≡ log_len + (o.log_max_height - log_len) =
      omega (arith, last-short) in
      shr_below (slice_index_or o.indices.now j 0) log_len (o.log_max_height - log_len)
      (subst (λ h. slice_index_or o.indices.now j 0 < 2 ^ h) whole (o.drawn.below j 0 lt))

  -- the final polynomial's value there
  pub final-at : (j : ℕ) (x : F) (v : E) → j < length o.indices.now →
      x
      ≡ slice_index_or
      (map (λ (p : Coordinates F). p.x) (coset k.field k.gen log_len (k.gen (log_len + 2))))
      (slice_index_or o.indices.now j 0 / 2 ^ (o.log_max_height - log_len)) k.field.zero →
      v ≡ x_value k.extension o.proof.now.fri_proof.final_poly.items (k.embed x) →
      v ≡ final_value k o.params.now (run_of o) j (slice_index_or o.indices.now j 0)
  final-at j x v lt here value =
      let xs =
      map (λ (p : Coordinates F). p.x) (coset k.field k.gen log_len (k.gen (log_len + 2))) in
      value ∙ ap (λ t. x_value k.extension o.proof.now.fri_proof.final_poly.items (k.embed t))
      (here
      ∙ ap (λ i. slice_index_or xs i k.field.zero)
      (sym (last-place (slice_index_or o.indices.now j 0))))
