use Rattle.std.proofs.Common.{◌≡◌, ◌∙◌, refl, sym, ap, subst, map}
use Rattle.std.specs.Prelude.{IfSome}
use Rattle.std.specs.List.{Any}
use Rattle.std.proofs.lemmas.List.Elements.{All-same, All-push}
use Rattle.circle_point.specs.Point.{coordinates}
use Rattle.circle_codewords.specs.Ratios.{vanishing_ratio, AreRatiosOf}
use Rattle.circle_codewords.specs.declared.ratios.PointRatios.{PointRatios}
use Rattle.std.proofs.lemmas.List.Quantifiers.{Any-push}
use Rattle.circle_codewords.proofs.Known.{any-kept, known-of}
use Rattle.circle_codewords.proofs.reduced.add_ratio.Goals as goal

pub returns-then-is_some-clause-known : goal.returns-then-is_some-clause-known
returns-then-is_some-clause-known g c =
    let t = c.args.point.coordinate in
    known-of c.ratios_at.result c.args.all.now.items t (sym c.is_some.ensures ∙ c.if-is_some.true)
    (subst
    (λ xs. IfSome c.ratios_at.result
    (λ found. Any (λ r. (r.point ≡ t) × (r.ratios.items ≡ found.now)) xs))
    c.deref.ensures.value c.ratios_at.ensures.some)

pub returns-clause-right : goal.returns-clause-right
returns-clause-right g c =
    let l = g.EF.Operations.ops in
    let m = g.EF.ExtensionField.embed in
    let points = map coordinates c.args.domain.now in
    All-same (AreRatiosOf l m points) _ _ c.in_ok-push.ensures.items
    (All-push (AreRatiosOf l m points) c.args.all.now.items _ c.requires.right
    (c.in_ok-ratios.ensures ∙ ap (λ z. map (vanishing_ratio l m z) points) c.args.point.at))

pub returns-clause-known : goal.returns-clause-known
returns-clause-known g c =
    let Is : PointRatios g.row.EF.Denot → Type 0 = λ r. r.point ≡ c.args.point.coordinate in
    subst (Any Is) (sym c.in_ok-push.ensures.items) (Any-push Is c.args.all.now.items _ refl)

pub returns-clause-kept : goal.returns-clause-kept
returns-clause-kept g c = λ t known.
    let Is : PointRatios g.row.EF.Denot → Type 0 = λ r. r.point ≡ t in
    subst (Any Is) (sym c.in_ok-push.ensures.items) (any-kept Is c.args.all.now.items _ known)
