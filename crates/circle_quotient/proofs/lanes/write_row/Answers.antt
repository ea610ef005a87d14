use Rattle.std.proofs.Common.{◌≡◌, ◌<◌, ◌∙◌, List, ap, refl, arith, length, map, slice_set}
use Rattle.std.proofs.lemmas.List.{length-map}
use Rattle.std.specs.Vec.{with_item}
use Rattle.std.specs.Prelude.{slice_index_or}
use Rattle.circle_commit.proofs.Written.{written-all, length-pairwise, partnered-read}
use Rattle.circle_commit.proofs.Written.{partnered-more}
use Rattle.circle_commit.specs.DotProduct.{pairwise}
use Rattle.circle_quotient.proofs.lanes.write_row.Goals as goal

pub index_mut-requires : goal.index_mut-requires
index_mut-requires g c =
    let f = λ (column : List g.row.F.Denot) (x : g.row.F.Denot). slice_set column c.args.lane x in
    let i = c.loop-c.c in
    let v = c.index-columns-c.result in
    let old = c.args.columns.now in
    let here : i < length old = omega (arith, c.loop-c-test.true, c.requires.width) in
    let read = partnered-read (λ s. s.items) f i old c.loop-c.columns c.args.row.now v
    c.requires.width here c.loop-c.auto.columns c.loop-c.invariant in
    omega (
      arith,
      ap length read,
      c.requires.lane i v here,
      (slice_index_or c.loop-c.columns i v).ok.0,
    )

pub loop-c-preserved : goal.loop-c-preserved
loop-c-preserved g c =
    let f = λ (column : List g.row.F.Denot) (x : g.row.F.Denot). slice_set column c.args.lane x in
    let i = c.loop-c.c in
    let v = c.index-columns-c.result in
    let old = c.args.columns.now in
    let now = c.loop-c.columns in
    let x = c.index-row-c.result in
    let here : i < length old = omega (arith, c.loop-c-test.true, c.requires.width) in
    partnered-more (λ s. s.items) f i old now c.args.row.now v c.requires.width here
    c.loop-c.auto.columns c.loop-c.invariant x
    (with_item (slice_index_or now i v) c.args.lane x) c.index-row-c.is
    (let same : slice_set (slice_index_or now i v).items c.args.lane x
    ≡ slice_set (slice_index_or now i v).items c.args.lane x = refl in same)

pub returns : goal.returns
returns g c =
    let f = λ (column : List g.row.F.Denot) (x : g.row.F.Denot). slice_set column c.args.lane x in
    let old = map (λ s. s.items) c.args.columns.now in
    let listed : length old ≡ length c.args.columns.now =
    length-map c.args.columns.now (λ s. s.items) in
    c.loop-c.invariant ∙ written-all c.loop-c.c (pairwise f old c.args.row.now) old
    (length-pairwise f old c.args.row.now (listed ∙ c.requires.width))
    (omega (arith, c.loop-c-test.false, c.requires.width, listed))
