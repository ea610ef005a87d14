use Rattle.std.proofs.Common.{◌∙◌, sym, ap, arith, length, map}
use Rattle.std.specs.Prelude.{Vec, vec_len}
use Rattle.std.specs.declared.alloc.Global.{Global}
use Rattle.std.proofs.lemmas.List.{take_all}
use Rattle.circle_commit.specs.DotProduct.{dot}
use Rattle.circle_domain.proofs.Pointwise.{map_pushed}
use Rattle.circle_domain.proofs.Twiddles.{map-map}
use Rattle.circle_quotient.proofs.recomposition.chunk_values.Goals as goal

pub dot_product-requires : goal.dot_product-requires
dot_product-requires g c =
    let chunk = c.chunk-item.result in
    sym (ap length c.deref.ensures.value ∙ sym chunk.ok.0
    ∙ ap (λ (v : Vec g.row.E.Denot Global). vec_len v) c.chunk-item.is
    ∙ c.requires c.loop-chunk.chunk-index chunk c.loop-chunk-test.true)

pub loop-chunk-preserved : goal.loop-chunk-preserved
loop-chunk-preserved g c =
    let l = g.E.Operations.ops in
    let basis = c.args.basis.now in
    map_pushed (λ chunk. dot l basis chunk.items) c.args.chunks.now c.loop-chunk.chunk-index
    c.chunk-item.result c.loop-chunk.made.items c.push.new.self.items c.dot_product.result
    c.loop-chunk-test.true c.chunk-item.is c.in_ok-push.ensures.items c.loop-chunk.invariant
    (c.dot_product.ensures ∙ ap (dot l basis) c.deref.ensures.value)

pub returns : goal.returns
returns g c =
    let l = g.E.Operations.ops in
    let basis = c.args.basis.now in
    let chunks = c.args.chunks.now in
    c.loop-chunk.invariant
    ∙ ap (map (λ chunk. dot l basis chunk.items))
    (take_all c.loop-chunk.chunk-index chunks (omega (arith, c.loop-chunk-test.false)))
    ∙ sym (map-map (dot l basis) (λ chunk. chunk.items) chunks)
