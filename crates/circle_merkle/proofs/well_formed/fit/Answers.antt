use Rattle.std.proofs.Common.{◌≡◌, ◌∙◌, ℕ, refl, sym, ap, length, map, get_or, arith, below_more}
use Rattle.std.proofs.lemmas.List.{length-map, ext_get_or}
use Rattle.circle_commit.specs.declared.matrix.Dimensions.{Dimensions}
use Rattle.circle_merkle.proofs.Fits.{length-at, width-at}
use Rattle.circle_merkle.proofs.well_formed.fit.Goals as goal

pub returns-then-len-dimensions : goal.returns-then-len-dimensions
returns-then-len-dimensions g c =
    let nothing : Dimensions = record { width = 0; height = 0 } in
    let rows = c.args.rows.now in
    let dims = c.args.dimensions.now in
    let j = c.loop-j.j in
    let here = c.index-rows-j.result in (
      λ h. absurd (cc),
      λ e. absurd
          (c.if-len-dimensions.true
          (c.len.ensures ∙ here.ok.0 ∙ sym (length-at rows j here (omega arith) c.index-rows-j.is)
          ∙ ap (λ ls. get_or ls j 0) e ∙ width-at dims j nothing c.loop-j-test.true)),
    )

pub loop-j-preserved : goal.loop-j-preserved
loop-j-preserved g c =
    let nothing : Dimensions = record { width = 0; height = 0 } in
    let rows = c.args.rows.now in
    let dims = c.args.dimensions.now in
    let j = c.loop-j.j in
    let here = c.index-rows-j.result in
    let P = λ (k : ℕ). get_or (map length (map (λ row. row.items) rows)) k 0
    ≡ get_or (map (λ dim. dim.width) dims) k 0 in
    below_more P j c.loop-j.invariant
    (length-at rows j here (omega arith) c.index-rows-j.is ∙ sym here.ok.0 ∙ sym c.len.ensures
    ∙ c.if-len-dimensions.false ∙ sym (width-at dims j nothing c.loop-j-test.true))

pub returns : goal.returns
returns g c =
    let rows = c.args.rows.now in
    let dims = c.args.dimensions.now in
    let lengths = map length (map (λ row. row.items) rows) in
    let count : length lengths ≡ length rows = length-map (map (λ row. row.items) rows) length
    ∙ length-map rows (λ row. row.items) in
    let widths : length (map (λ dim. dim.width) dims) ≡ length dims =
    length-map dims (λ dim. dim.width) in (
      λ _. ext_get_or 0 lengths (map (λ dim. dim.width) dims) (omega arith)
          (λ k lt. c.loop-j.invariant k (omega arith)),
      λ _. refl,
    )
