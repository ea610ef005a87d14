use Rattle.std.proofs.Common.{◌≡◌, ◌<◌, List, [], true, false, ◌∙◌, refl, sym, ap, subst, length}
use Rattle.std.proofs.Common.{map, arith, slice_index_or, slice_set, ⊎_elim}
use Rattle.std.proofs.lemmas.Bool.{cases_eq}
use Rattle.std.proofs.lemmas.List.{length-map, get_or-map, get_or_default}
use Rattle.std.proofs.lemmas.List.FromFn.{get_or-map-range_with_len}
use Rattle.circle_field.specs.Field.{nth_power}
use Rattle.circle_field.specs.Circle.{Coordinates, lifted}
use Rattle.circle_commit.specs.Mmcs.{opened_rows}
use Rattle.circle_point.specs.Point.{coordinates}
use Rattle.circle_commit.proofs.Written.{written, written-read, written-more, written-all}
use Rattle.circle_commit.proofs.Written.{length-pairwise, pairwise-read}
use Rattle.circle_commit.specs.DotProduct.{pairwise}
use Rattle.circle_folding.specs.Quotient.{weighted_quotient}
use Rattle.circle_folding.specs.Queries.{rows_of}
use Rattle.circle_folding.proofs.Opened.{opened-count, opened-row}
use Rattle.circle_folding.proofs.Weighted.{claimed_quotients}
use Rattle.circle_folding.proofs.reduced.add_quotients.Goals as goal

pub bounds-alpha_powers-values : goal.bounds-alpha_powers-values
bounds-alpha_powers-values g c = c.requires.enough

pub offset_bounds-alpha_powers-values : goal.offset_bounds-alpha_powers-values
offset_bounds-alpha_powers-values g c = omega (arith, c.requires.enough)

pub loop-i-init : goal.loop-i-init
loop-i-init g c = record { sums = refl; apart = λ j d lt. absurd (omega (arith, lt)) }

pub bounds-opened-i : goal.bounds-opened-i
bounds-opened-i g c = omega (arith, c.loop-i-test.true, c.requires.opened)

pub offset_bounds-opened-i : goal.offset_bounds-opened-i
offset_bounds-opened-i g c = omega (arith, c.loop-i-test.true, c.requires.opened)

pub bounds-points-i : goal.bounds-points-i
bounds-points-i g c = omega (arith, c.loop-i-test.true, c.requires.points)

pub offset_bounds-points-i : goal.offset_bounds-points-i
offset_bounds-points-i g c = omega (arith, c.loop-i-test.true, c.requires.points)

pub mul-requires : goal.mul-requires
mul-requires g c = g.met.EF.Field.can_mul_law c.args.offset c.in_ok-quotient.quotient

pub add-requires : goal.add-requires
add-requires g c = g.met.EF.Field.can_add_law _ c.mul.result

pub index-row-requires : goal.index-row-requires
index-row-requires g c =
    let i = c.loop-i.i in
    let within : i < length c.args.rows.now.opened.now =
    subst (λ n. i < n) (sym c.requires.opened) c.loop-i-test.true in
    let rows = c.index-opened-i.result in
    let count = opened-count c.args.rows.now.opened.now i c.args.rows.now.matrix rows within
    c.index-opened-i.is in
    let asked =
    c.requires.rows i []
    (subst (λ n. i < n)
    (sym (length-map c.args.rows.now.opened.now (λ rows. map (λ row. row.items) rows.items)))
    within) in
    omega (arith, asked.0, count, rows.ok.0)

pub
    deep_quotient_reduce_row-requires-clause-widths :
    goal.deep_quotient_reduce_row-requires-clause-widths
deep_quotient_reduce_row-requires-clause-widths g c =
    let i = c.loop-i.i in
    let within : i < length c.args.rows.now.opened.now =
    subst (λ n. i < n) (sym c.requires.opened) c.loop-i-test.true in
    let rows = c.index-opened-i.result in
    let count = opened-count c.args.rows.now.opened.now i c.args.rows.now.matrix rows within
    c.index-opened-i.is in
    let asked =
    c.requires.rows i []
    (subst (λ n. i < n)
    (sym (length-map c.args.rows.now.opened.now (λ rows. map (λ row. row.items) rows.items)))
    within) in
    let row = opened-row c.args.rows.now.opened.now i c.args.rows.now.matrix rows within
    c.index-opened-i.is c.index-row.result.now
    (subst (λ n. c.args.rows.now.matrix < n) count asked.0) c.index-row.ensures in
    ap length (c.deref.ensures.value ∙ row) ∙ asked.1

pub
    deep_quotient_reduce_row-requires-clause-enough :
    goal.deep_quotient_reduce_row-requires-clause-enough
deep_quotient_reduce_row-requires-clause-enough g c =
    omega (arith, deep_quotient_reduce_row-requires-clause-widths g c, c.requires.enough)

pub returns-in_err-quotient-clause-none : goal.returns-in_err-quotient-clause-none
returns-in_err-quotient-clause-none g c = λ none.
    let i = c.loop-i.i in
    let points = c.args.points.now in
    let p = c.index-points-i.result in
    let within : i < length points =
    subst (λ n. i < n) (sym c.requires.points) c.loop-i-test.true in (
      i,
      coordinates p,
      subst (λ n. i < n) (sym (length-map points coordinates)) within,
      get_or-map coordinates points i p (coordinates p) within
          ∙ ap coordinates (sym c.index-points-i.is),
      c.in_err-quotient.ensures.none.0 refl,
    )

pub loop-i-preserved : goal.loop-i-preserved
loop-i-preserved g c =
    let l = g.EF.Operations.ops in
    let m = g.EF.ExtensionField.embed in
    let z = coordinates c.args.claim.now.point in
    let i = c.loop-i.i in
    let old = c.args.sums.now in
    let here : i < length old = c.loop-i-test.true in
    let points = c.args.points.now in
    let p = c.index-points-i.result in
    let at_points : i < length points = subst (λ n. i < n) (sym c.requires.points) here in
    let at_opened : i < length c.args.rows.now.opened.now =
    subst (λ n. i < n) (sym c.requires.opened) here in
    let opened = opened_rows c.args.rows.now.opened.now in
    let listed : length opened ≡ length c.args.rows.now.opened.now =
    length-map c.args.rows.now.opened.now (λ rows. map (λ row. row.items) rows.items) in
    let within : i < length opened = subst (λ n. i < n) (sym listed) at_opened in
    let rows = c.index-opened-i.result in
    let count = opened-count c.args.rows.now.opened.now i c.args.rows.now.matrix rows at_opened
    c.index-opened-i.is in
    let asked = c.requires.rows i [] within in
    let row = opened-row c.args.rows.now.opened.now i c.args.rows.now.matrix rows at_opened
    c.index-opened-i.is c.index-row.result.now
    (subst (λ n. c.args.rows.now.matrix < n) count asked.0) c.index-row.ensures in
    let f = λ (s q : g.row.EF.Denot). l.add s (l.mul c.args.offset q) in
    let w = λ (x : Coordinates g.row.F.Denot) (r : List g.row.F.Denot). weighted_quotient l m
    c.index-alpha_powers-values.result c.args.alpha_powers.now x z r
    c.args.claim.now.values.now in
    let xs = map coordinates points in
    let rs = rows_of c.args.rows.now.matrix opened in
    let counted : length rs ≡ length opened =
    length-map opened (λ rows. slice_index_or rows c.args.rows.now.matrix []) in
    let xs_counted : length xs ≡ length points = length-map points coordinates in
    let qs = pairwise w xs rs in
    let qs_counted : length qs ≡ length xs =
    length-pairwise w xs rs (xs_counted ∙ c.requires.points
    ∙ sym (counted ∙ listed ∙ c.requires.opened)) in
    let one_each : length old ≡ length qs = sym (qs_counted ∙ xs_counted ∙ c.requires.points) in
    let new = pairwise f old qs in
    let long : length new ≡ length old = length-pairwise f old qs one_each in
    let a = c.index-sums-i.result in
    let q = c.in_ok-quotient.quotient in
    let v = c.add.result in
    let read : slice_index_or c.loop-i.sums i a ≡ slice_index_or old i a =
    ap (λ ss. slice_index_or ss i a) c.loop-i.invariant.sums ∙ written-read i new old a long in
    let x : coordinates p ≡ slice_index_or xs i (coordinates p) = ap coordinates c.index-points-i.is
    ∙ sym (get_or-map coordinates points i p (coordinates p) at_points) in
    let r : c.deref.result.now ≡ slice_index_or rs i [] =
    c.deref.ensures.value ∙ row
    ∙ sym
    (get_or-map
    (λ (rows : List (List g.row.F.Denot)). slice_index_or rows c.args.rows.now.matrix []) opened
    i [] [] within) in
    let is : q ≡ slice_index_or qs i q =
    c.in_ok-quotient.ensures.value ∙ ap (λ y. w y c.deref.result.now) x
    ∙ ap (w (slice_index_or xs i (coordinates p))) r
    ∙ sym
    (pairwise-read w xs rs i (coordinates p) [] q
    (subst (λ n. i < n) (sym xs_counted) at_points)
    (subst (λ n. i < n) (sym counted) within)) in
    let made : v ≡ slice_index_or new i v =
    g.met.EF.Field.add_law _ _ _ c.add.ensures ∙ ap (l.add (slice_index_or c.loop-i.sums i a))
    (g.met.EF.Field.mul_law _ _ _ c.mul.ensures)
    ∙ ap (λ s. f s q) read ∙ ap (f (slice_index_or old i a)) is
    ∙ sym (pairwise-read f old qs i a q v here (subst (λ n. i < n) one_each here)) in
    record {
      sums = ap (λ ss. slice_set ss i v) c.loop-i.invariant.sums
          ∙ ap (slice_set (written i new old) i) made ∙ written-more i new old v long here;
      apart = λ j d lt. ⊎_elim
          (λ same meet. let none : true ≡ false =
          c.in_ok-quotient.ensures.none.1
          (ap (lifted m)
          (x
          ∙ get_or_default xs i (coordinates p) d
          (subst (λ n. i < n) (sym xs_counted) at_points)
          ∙ ap (λ n. slice_index_or xs n d) (sym same)) ∙ meet) in cc)
          (λ other. c.loop-i.invariant.apart j d (omega (arith, lt, other)))
          (cases_eq j i);
    }

pub returns-clause-apart : goal.returns-clause-apart
returns-clause-apart g c = λ j d lt.
    c.loop-i.invariant.apart j d
    (omega (
      arith,
      lt,
      length-map c.args.points.now coordinates,
      c.requires.points,
      c.loop-i-test.false,
    ))

pub returns-clause-sums : goal.returns-clause-sums
returns-clause-sums g c = λ alpha are.
    let l = g.EF.Operations.ops in
    let m = g.EF.ExtensionField.embed in
    let z = coordinates c.args.claim.now.point in
    let i = c.loop-i.i in
    let old = c.args.sums.now in
    let points = c.args.points.now in
    let opened = opened_rows c.args.rows.now.opened.now in
    let listed : length opened ≡ length c.args.rows.now.opened.now =
    length-map c.args.rows.now.opened.now (λ rows. map (λ row. row.items) rows.items) in
    let f = λ (s q : g.row.EF.Denot). l.add s (l.mul c.args.offset q) in
    let top = c.index-alpha_powers-values.result in
    let w = λ (x : Coordinates g.row.F.Denot) (r : List g.row.F.Denot). weighted_quotient l m top
    c.args.alpha_powers.now x z r c.args.claim.now.values.now in
    let xs = map coordinates points in
    let rs = rows_of c.args.rows.now.matrix opened in
    let counted : length rs ≡ length opened =
    length-map opened (λ rows. slice_index_or rows c.args.rows.now.matrix []) in
    let xs_counted : length xs ≡ length points = length-map points coordinates in
    let qs = pairwise w xs rs in
    let qs_counted : length qs ≡ length xs =
    length-pairwise w xs rs (xs_counted ∙ c.requires.points
    ∙ sym (counted ∙ listed ∙ c.requires.opened)) in
    let one_each : length old ≡ length qs = sym (qs_counted ∙ xs_counted ∙ c.requires.points) in
    let new = pairwise f old qs in
    let long : length new ≡ length old = length-pairwise f old qs one_each in
    let n = length c.args.claim.now.values.now in
    let is_top : top ≡ nth_power l alpha n =
    c.index-alpha_powers-values.is ∙ ap (λ ws. slice_index_or ws n top) are
    ∙ get_or-map-range_with_len (nth_power l alpha) 0 (length c.args.alpha_powers.now) n n top
    c.requires.enough (omega arith) in
    c.loop-i.invariant.sums ∙ written-all i new old long (omega (arith, c.loop-i-test.false))
    ∙ ap (pairwise f old)
    (claimed_quotients l m alpha top c.args.alpha_powers.now xs z rs c.args.claim.now.values.now
    (λ j lt. let within : j < length opened = subst (λ n. j < n) counted lt in
    ap length
    (get_or-map
    (λ (rows : List (List g.row.F.Denot)). slice_index_or rows c.args.rows.now.matrix []) opened
    j [] [] within) ∙ (c.requires.rows j [] within).1)
    (omega (arith, c.requires.enough)) is_top are)
