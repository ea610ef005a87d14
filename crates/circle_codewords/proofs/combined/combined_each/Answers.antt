use Rattle.std.proofs.Common.{◌≡◌, ◌<◌, ◌∙◌, sym, ap, arith, length, map, slice_index_or}
use Rattle.std.proofs.lemmas.List.{take_all}
use Rattle.std.proofs.lemmas.Option.{get_or_from_slice_get}
use Rattle.circle_commit.specs.DotProduct.{dot}
use Rattle.circle_domain.proofs.Pointwise.{map_pushed}
use Rattle.circle_codewords.proofs.combined.combined_each.Goals as goal

pub combined_row-requires : goal.combined_row-requires
combined_row-requires g c =
    let m = c.args.matrix.now in
    let all = g.M.Matrix.rows m in
    let row = c.row.result.now in
    let here : c.loop-r.r < length all =
    omega (arith, c.loop-r-test.true, c.height-r-end.ensures, g.met.M.Matrix.height_law m) in
    let there : slice_index_or all c.loop-r.r row ≡ row =
    get_or_from_slice_get all c.loop-r.r row row c.row.ensures in
    let wide = g.met.M.Matrix.width_law m c.loop-r.r row here in
    record { enough = omega (arith, ap length there, wide, c.requires) }

pub loop-r-preserved : goal.loop-r-preserved
loop-r-preserved g c =
    let m = c.args.matrix.now in
    let all = g.M.Matrix.rows m in
    let row = c.row.result.now in
    let here : c.loop-r.r < length all =
    omega (arith, c.loop-r-test.true, c.height-r-end.ensures, g.met.M.Matrix.height_law m) in
    map_pushed
    (λ (r : _). dot g.EF.Operations.ops c.args.powers.now (map g.EF.ExtensionField.embed r)) all
    c.loop-r.r row c.loop-r.made.items c.push.new.self.items c.combined_row.result
    here (sym (get_or_from_slice_get all c.loop-r.r row row c.row.ensures))
    c.in_ok-push.ensures.items c.loop-r.invariant c.combined_row.ensures

pub returns : goal.returns
returns g c =
    let m = c.args.matrix.now in
    c.loop-r.invariant
    ∙ ap
    (map
    (λ (r : _). dot g.EF.Operations.ops c.args.powers.now (map g.EF.ExtensionField.embed r)))
    (take_all c.loop-r.r (g.M.Matrix.rows m)
    (omega (arith, c.loop-r-test.false, c.height-r-end.ensures, g.met.M.Matrix.height_law m)))
