use Rattle.std.proofs.Common.{◌≡◌, ◌≢◌, ◌∙◌, refl, sym, ap, subst, All, length, map, [], arith}
use Rattle.std.proofs.lemmas.Bool.{eqb-false}
use Rattle.std.proofs.lemmas.List.{length-map, take_all}
use Rattle.std.proofs.lemmas.List.Elements.{All-more, All-map}
use Rattle.circle_merkle.proofs.Fits.{rows-at}
use Rattle.circle_merkle.proofs.well_formed.has_shape.Goals as goal

pub returns-then-not-fit : goal.returns-then-not-fit
returns-then-not-fit g c =
    let opened = c.args.opened.now in
    let i = c.loop-rows.rows-index in
    let here = c.rows-item.result in (
      λ h. absurd (cc),
      λ shape.
          let e = sym (ap (map length) (rows-at opened i here c.loop-rows-test.true c.rows-item.is))
          ∙ shape.widths i []
          (omega (
            arith,
            c.loop-rows-test.true,
            length-map opened (λ rows. map (λ row. row.items) rows.items),
          )) in
          absurd
          (let yes =
          c.if-not-fit.ensures.1
          (ap (λ rows. map length (map (λ row. row.items) rows)) c.deref.ensures.value ∙ e) in
          cc),
    )

pub loop-rows-preserved : goal.loop-rows-preserved
loop-rows-preserved g c =
    let opened = c.args.opened.now in
    let i = c.loop-rows.rows-index in
    let here = c.rows-item.result in
    All-more (λ rows. map length (map (λ row. row.items) rows.items)
    ≡ map (λ dim. dim.width) c.args.dimensions.now) opened i here c.loop-rows-test.true
    c.loop-rows.invariant
    (ap (λ rows. map length (map (λ row. row.items) rows.items)) (sym c.rows-item.is)
    ∙ sym (ap (λ rows. map length (map (λ row. row.items) rows)) c.deref.ensures.value)
    ∙ c.if-not-fit.ensures.0 refl)

pub returns : goal.returns
returns g c =
    let opened = c.args.opened.now in (
      λ _. record {
        some =
            (let ne : length c.args.dimensions.now ≢ 0 =
            eqb-false (length c.args.dimensions.now) 0 (sym c.if-is_empty.ensures) in omega arith);
        powers_of_two = c.if-not-are_powers_of_two.ensures.0 refl;
        widths = All-map (λ rows. map length rows ≡ map (λ dim. dim.width) c.args.dimensions.now)
            (λ rows. map (λ row. row.items) rows.items) opened
            (subst
            (All (λ rows. map length (map (λ row. row.items) rows.items)
            ≡ map (λ dim. dim.width) c.args.dimensions.now))
            (take_all c.loop-rows.rows-index opened c.loop-rows-test.false)
            c.loop-rows.invariant);
      },
      λ _. refl,
    )
