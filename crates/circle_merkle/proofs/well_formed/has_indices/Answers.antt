use Rattle.std.proofs.Common.{◌≢◌, ◌<◌, ◌∙◌, refl, sym, subst, All, length, map, arith}
use Rattle.std.proofs.lemmas.Bool.{eqb-false}
use Rattle.std.proofs.lemmas.List.{length-map, take_all}
use Rattle.std.proofs.lemmas.List.Elements.{All-more}
use Rattle.circle_merkle.proofs.well_formed.has_indices.Goals as goal

pub loop-index-preserved : goal.loop-index-preserved
loop-index-preserved g c =
    All-more (λ i. i < c.args.top) c.args.indices.now c.loop-index.index-index 0
    c.loop-index-test.true c.loop-index.invariant c.if-index-top.false

pub returns : goal.returns
returns g c =
    let indices = c.args.indices.now in
    let whole : All (λ i. i < c.args.top) indices =
    subst (All (λ i. i < c.args.top))
    (take_all c.loop-index.index-index indices c.loop-index-test.false)
    c.loop-index.invariant in (
      λ _. record {
        some =
            (let ne : length c.args.indices.now ≢ 0 =
            eqb-false (length c.args.indices.now) 0 (sym c.if-is_empty.ensures) in omega arith);
        one_each = length-map c.args.opened.now (λ rows. map (λ row. row.items) rows.items)
            ∙ c.if-opened-indices.false;
        in_range = subst (λ n. All (λ i. i < n) indices) c.requires whole;
      },
      λ _. refl,
    )
