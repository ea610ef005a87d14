use Rattle.std.proofs.Common.{◌≡◌, ◌<◌, ◌≤◌, ◌+◌, ◌^◌, ◌++◌, ℕ, List, [], ◌∙◌, if◌then◌else◌, sym}
use Rattle.std.proofs.Common.{ap, subst, arith, map, take, length, slice_index_or, All, replicate}
use Rattle.std.specs.List.{range_with_len}
use Rattle.std.proofs.lemmas.Bool.{eq-eqb, ne_eqb}
use Rattle.std.proofs.lemmas.List.{take_all, length-map, get_or-map, ext_get_or, length-replicate}
use Rattle.std.proofs.lemmas.List.{get_or-replicate}
use Rattle.std.proofs.lemmas.List.FromFn.{get_or-map-range_with_len, length-map-range_with_len}
use Rattle.circle_commit.specs.RowMajorMatrix.{width_of}
use Rattle.circle_field.specs.Circle.{origin}
use Rattle.circle_field.proofs.Inverses.{take-whole}
use Rattle.circle_domain.proofs.Powers.{pow_within}
use Rattle.circle_codewords.specs.OfMatrices.{HaveRatios, fields_of}
use Rattle.circle_relation.specs.Sums.{reduced, Adds}
use Rattle.circle_relation.proofs.ReducedSums.{adds-none, adds-both, adds-same, adds-all}
use Rattle.circle_codewords.specs.Ratios.{points_of_height, AreRatiosOf}
use Rattle.circle_codewords.specs.Words.{committed_of, claims_on, claims_at}
use Rattle.circle_codewords.specs.declared.ratios.PointRatios.{PointRatios}
use Rattle.circle_codewords.specs.declared.matrix.OpenedMatrix.{OpenedMatrix}
use Rattle.circle_codewords.proofs.Claims.{claims-more, claims-left}
use Rattle.circle_codewords.proofs.matrix.BatchedMatrices.reduced_word.Goals as goal
use Rattle.circle_codewords.proofs.matrix.BatchedMatrices.reduced_word.Goals.{then-matrix-log_height+in_ok-offset}
use Rattle.circle_codewords.proofs.matrix.BatchedMatrices.reduced_word.Goals.{else-matrix-log_height}

pub add_matrix-requires-clause-known : goal.add_matrix-requires-clause-known
add_matrix-requires-clause-known g c =
    let Due : OpenedMatrix g.row.F.Denot g.row.EF.Denot _ _ → Type 0 = λ o. o.log_height
    ≡ c.args.log_height → HaveRatios c.in_ok-ratios.ratios.items o in
    subst (λ all. HaveRatios all c.matrix-item.result) (sym c.deref.ensures.value)
    (subst Due (sym c.matrix-item.is)
    (c.in_ok-ratios.ensures.known c.loop-matrix.matrix-index c.matrix-item.result
    c.loop-matrix-test.true) c.if-matrix-log_height.true)

pub add_matrix-requires-clause-enough : goal.add_matrix-requires-clause-enough
add_matrix-requires-clause-enough g c =
    subst
    (λ (m : OpenedMatrix g.row.F.Denot g.row.EF.Denot _ _). width_of m.rows.now <
    length c.args.self.now.powers.items) (sym c.matrix-item.is)
    (c.args.self.now.enough c.loop-matrix.matrix-index c.matrix-item.result
    c.loop-matrix-test.true)

pub add_matrix-requires-clause-right : goal.add_matrix-requires-clause-right
add_matrix-requires-clause-right g c =
    let Right : ℕ → List (PointRatios g.row.EF.Denot) → Type 0 =
    λ h all. All
    (AreRatiosOf g.EF.Operations.ops g.EF.ExtensionField.embed
    (points_of_height g.F.Operations.ops g.F.ComplexExtendable.generators h)) all in
    subst (Right c.matrix-item.result.log_height) (sym c.deref.ensures.value)
    (subst (λ h. Right h c.in_ok-ratios.ratios.items) (sym c.if-matrix-log_height.true)
    c.in_ok-ratios.ensures.right)

pub loop-matrix-init : goal.loop-matrix-init
loop-matrix-init g c =
    let l = g.EF.Operations.ops in
    let alpha = c.args.self.now.alpha in
    let k = g.F.Operations.ops in
    let embed = g.EF.ExtensionField.embed in
    let h = c.args.log_height in
    let points = points_of_height k g.F.ComplexExtendable.generators h in
    let begun = c.in_ok-word.word.items in
    let small : 2 ^ h ≤ 2 ^ 62 = pow_within
    h 62 (omega (arith, c.requires.in_group, g.met.F.ComplexExtendable.at_most_62)) in
    let zeros : begun ≡ replicate (2 ^ h) c.ZERO.result =
    c.in_ok-word.ensures.items_if_clones_equal (λ y same. g.met.EF.Field.clone_law _ _ same)
    ∙ ap (λ n. replicate n c.ZERO.result) (omega (arith, small)) in
    record {
      counted = ap length zeros ∙ length-replicate (2 ^ h) c.ZERO.result;
      adds =
          subst (λ o. Adds l embed alpha points (origin k) (λ j. []) l.one o begun begun)
          (sym (c.ONE-offset.ensures ∙ g.met.EF.Field.one_law))
          (adds-none l embed alpha points (origin k) l.one begun);
    }

pub loop-matrix-preserved : goal.loop-matrix-preserved
loop-matrix-preserved g c =
    let fields = fields_of c.args.self.now in
    let committed = committed_of fields c.args.self.now.log_blowup in
    let l = g.EF.Operations.ops in
    let alpha = c.args.self.now.alpha in
    let k = g.F.Operations.ops in
    let embed = g.EF.ExtensionField.embed in
    let h = c.args.log_height in
    let points = points_of_height k g.F.ComplexExtendable.generators h in
    let ms = map committed c.args.self.now.matrices.now in
    let i = c.loop-matrix.matrix-index in
    let one = c.matrix-item.result in
    let m = committed one in
    let old = c.loop-matrix.word in
    let begun = c.in_ok-word.word.items in
    let inside : i < length ms =
    omega (arith, c.loop-matrix-test.true, length-map c.args.self.now.matrices.now committed) in
    let is : slice_index_or ms i m ≡ m =
    get_or-map committed c.args.self.now.matrices.now i one m c.loop-matrix-test.true
    ∙ ap committed (sym c.matrix-item.is) in
    elim c.if-matrix-log_height.branch [
      | then-matrix-log_height+in_ok-offset w ↦
          let new = w.add_matrix.new.sums in
          let lent : w.deref_mut.result.now ≡ old.items = w.deref_mut.ensures.value in
          let kept : length new ≡ length old.items = w.add_matrix.auto.sums ∙ ap length lent in
          let written : c.if-matrix-log_height.word.items ≡ new = ap (λ v. v.items) w.word-is
          ∙ take-whole old.len new old.items old.ok.0 kept in
          record {
            counted = ap length written ∙ kept ∙ c.loop-matrix.invariant.counted;
            adds =
                let step : Adds l embed alpha points (origin k) (claims_on m) c.loop-matrix.offset
                w.in_ok-offset.offset old.items new =
                subst
                (λ n. Adds l embed alpha (points_of_height k g.F.ComplexExtendable.generators n)
                (origin k) (claims_on m) c.loop-matrix.offset w.in_ok-offset.offset old.items
                new) w.if-matrix-log_height.true
                (subst
                (λ xs. Adds l embed alpha
                (points_of_height k g.F.ComplexExtendable.generators one.log_height) (origin k)
                (claims_on m) c.loop-matrix.offset w.in_ok-offset.offset xs new) lent
                (w.in_ok-offset.ensures)) in
                let more = adds-both l embed alpha points (origin k) (claims_at h (take i ms))
                (claims_on m) l.one c.loop-matrix.offset w.in_ok-offset.offset begun old.items
                new c.loop-matrix.invariant.adds step in
                let all =
                adds-same l embed alpha points (origin k) (λ j. claims_at h (take i ms) j
                ++ claims_on m j) (claims_at h (take (i + 1) ms)) l.one w.in_ok-offset.offset
                begun new more
                (λ j lt. claims-more h ms i m j inside is
                (eq-eqb one.log_height h w.if-matrix-log_height.true)) in
                subst
                (λ xs. Adds l embed alpha points (origin k) (claims_at h (take (i + 1) ms))
                l.one c.if-matrix-log_height.offset begun xs) (sym written)
                (subst
                (λ o. Adds l embed alpha points (origin k) (claims_at h (take (i + 1) ms)) l.one
                o begun new) (sym w.offset-is) all);
          }
      | else-matrix-log_height w ↦
          let written : c.if-matrix-log_height.word.items ≡ old.items =
          ap (λ v. v.items) w.word-is in
          record {
            counted = ap length written ∙ c.loop-matrix.invariant.counted;
            adds =
                let all = adds-same l embed alpha points (origin k) (claims_at h (take i ms))
                (claims_at h (take (i + 1) ms)) l.one c.loop-matrix.offset begun old.items
                c.loop-matrix.invariant.adds
                (λ j lt. claims-left h ms i m j inside is
                (ap (λ b. if b then claims_on m j else [])
                (ne_eqb one.log_height h w.if-matrix-log_height.false))) in
                subst
                (λ xs. Adds l embed alpha points (origin k) (claims_at h (take (i + 1) ms))
                l.one c.if-matrix-log_height.offset begun xs) (sym written)
                (subst
                (λ o. Adds l embed alpha points (origin k) (claims_at h (take (i + 1) ms)) l.one
                o begun old.items) (sym w.offset-is) all);
          }
    ]

pub returns-clause-word : goal.returns-clause-word
returns-clause-word g c =
    let fields = fields_of c.args.self.now in
    let committed = committed_of fields c.args.self.now.log_blowup in
    let l = g.EF.Operations.ops in
    let alpha = c.args.self.now.alpha in
    let k = g.F.Operations.ops in
    let embed = g.EF.ExtensionField.embed in
    let h = c.args.log_height in
    let points = points_of_height k g.F.ComplexExtendable.generators h in
    let ms = map committed c.args.self.now.matrices.now in
    let begun = c.in_ok-word.word.items in
    let small : 2 ^ h ≤ 2 ^ 62 = pow_within
    h 62 (omega (arith, c.requires.in_group, g.met.F.ComplexExtendable.at_most_62)) in
    let zeros : begun ≡ replicate (2 ^ h) c.ZERO.result =
    c.in_ok-word.ensures.items_if_clones_equal (λ y same. g.met.EF.Field.clone_law _ _ same)
    ∙ ap (λ n. replicate n c.ZERO.result) (omega (arith, small)) in
    let f = λ (j : ℕ). reduced l embed alpha 0 (slice_index_or points j (origin k))
    (claims_at h ms j) in
    let adds : Adds l embed alpha points (origin k) (claims_at h ms) l.one c.loop-matrix.offset
    begun c.loop-matrix.word.items =
    subst (λ cs. Adds l embed alpha points (origin k) (claims_at h cs) l.one c.loop-matrix.offset
    begun c.loop-matrix.word.items)
    (take_all c.loop-matrix.matrix-index ms
    (omega (arith, c.loop-matrix-test.false, length-map c.args.self.now.matrices.now committed)))
    c.loop-matrix.invariant.adds in
    let counted : length begun ≡ 2 ^ h = ap length zeros ∙ length-replicate (2 ^ h) c.ZERO.result in
    ext_get_or l.zero c.loop-matrix.word.items (map f (range_with_len 0 (2 ^ h)))
    (c.loop-matrix.invariant.counted ∙ sym (length-map-range_with_len f 0 (2 ^ h)))
    (λ j lt.
    let low : j < 2 ^ h = omega (arith, lt, c.loop-matrix.invariant.counted) in
    adds-all g.EF.Operations.laws.ring embed alpha points (origin k) (claims_at h ms)
    c.loop-matrix.offset begun c.loop-matrix.word.items adds j (omega (arith, low, counted))
    (ap (λ xs. slice_index_or xs j l.zero) zeros ∙ get_or-replicate (2 ^ h) j c.ZERO.result l.zero
    (omega (arith, low, length-replicate (2 ^ h) c.ZERO.result)) ∙ c.ZERO.ensures
    ∙ g.met.EF.Field.zero_law)
    ∙ sym (get_or-map-range_with_len f 0 (2 ^ h) j j l.zero low (omega arith)))
